-- An entry of a table: one number below 2^64 that stands for a name in a part. Its lower 24 bits tell where the name begins, the 24 bits above them how long
-- it is, and the 16 bits above these are its mark: the lower halves of its last four bytes.
use Rattle.std.specs.Prelude.{ℕ, ◌+◌, ◌-◌, ◌*◌, ◌/◌, ◌%◌, cond, List, [], ◌∷◌, length, take, drop, get_or, ltb, leb}

abbrev pub begin_in : ℕ → ℕ
begin_in x = x % 16777216

abbrev pub length_in : ℕ → ℕ
length_in x = x / 16777216 % 16777216

-- all but where it begins
abbrev pub key_in : ℕ → ℕ
key_in x = x / 16777216

-- n bytes from b on; none if they do not all stand in the part
unfoldable pub bytes_at : List ℕ → ℕ → ℕ → List ℕ
bytes_at s b n = cond (ltb (length s) (b + n)) [] (take n (drop b s))

abbrev pub bytes_in : List ℕ → ℕ → List ℕ
bytes_in s x = bytes_at s (begin_in x) (length_in x)

-- the key goes first: most names are told apart by it
abbrev pub name_in : List ℕ → ℕ → List ℕ
name_in s x = key_in x ∷ bytes_in s x

-- the lower half of the k-th byte before the end of a name from b to e; 0 if the name is shorter
unfoldable pub half_at : List ℕ → ℕ → ℕ → ℕ → ℕ
half_at s b e k = cond (ltb (e - b) k) 0 (get_or s (e - k) 0 % 16)

unfoldable pub mark_of : List ℕ → ℕ → ℕ → ℕ
mark_of s b e = half_at s b e 4 * 4096 + half_at s b e 3 * 256 + half_at s b e 2 * 16 + half_at s b e 1

-- the entry of the name from b to e; 0 if the part has no such name, or is too long for entries
unfoldable pub entry_of : List ℕ → ℕ → ℕ → ℕ
entry_of s b e =
    cond (ltb e b) 0 (cond (ltb (length s) e) 0 (cond (leb 16777216 (length s)) 0
    ((mark_of s b e * 16777216 + (e - b)) * 16777216 + b)))
