-- The entry of a name tells where it begins and which bytes it has, and two entries have one name where their bytes are equal.
use Prim.Native.Nat.{ℕ, ◌+◌, ◌-◌, ◌*◌, ◌%◌, ◌≤◌, ◌<◌}
use native.Mathlib.Omega.{arith}
use mathlib.Core.Path.{◌≡◌, refl, sym, ap, ◌∙◌}
use mathlib.Core.Bool.{Bool, true, false, cond, ◌&&◌}
use mathlib.Core.List.{List, [], ◌∷◌}
use lib.ListN.{length, take, drop, get_or, length-drop}
use lib.Seq.{length-take-le, get_or-take, get_or-drop}
use lib.Dec.{ltb, eqb}
use borrow.Author.Tests.{lt-ltb, le-ltb, le-leb, lt-leb, eq-eqb, ltb-false}
use Rattle.text.specs.Equal.{equal}
use Rattle.text.proofs.Laws.{and_false, equal_is}
use Rattle.entries.specs.Entry.{begin_in, length_in, key_in, bytes_at, bytes_in, name_in, half_at, mark_of, entry_of}
use Rattle.entries.specs.Least.{same_name}

-- ---- bytes at a place

module _ (s : List ℕ) (b n : ℕ) where
  pub bytes_in_law : b + n ≤ length s → bytes_at s b n ≡ take n (drop b s)
  unfolding bytes_at
  bytes_in_law l = rw (le-ltb (length s) (b + n) l)

  pub bytes_out : length s < b + n → bytes_at s b n ≡ []
  unfolding bytes_at
  bytes_out l = rw (lt-ltb (length s) (b + n) l)

  pub bytes_length : b + n ≤ length s → length (bytes_at s b n) ≡ n
  bytes_length l = ap length (bytes_in_law l) ∙ length-take-le n (drop b s) (omega (arith, length-drop b s))

pub bytes_none : (s : List ℕ) (b : ℕ) → bytes_at s b 0 ≡ []
unfolding bytes_at
bytes_none s b = go (ltb (length s) (b + 0))
  where
    go : (o : Bool) → cond o [] (take 0 (drop b s)) ≡ []
    go true = refl
    go false = refl

-- ---- the key depends on the bytes only

half_in : List ℕ → ℕ → ℕ
half_in m k = cond (ltb (length m) k) 0 (get_or m (length m - k) 0 % 16)

mark_in : List ℕ → ℕ
mark_in m = half_in m 4 * 4096 + half_in m 3 * 256 + half_in m 2 * 16 + half_in m 1

key_of : List ℕ → ℕ
key_of m = mark_in m * 16777216 + length m

module _ (s : List ℕ) (b e : ℕ) (l : b ≤ e) (k : e ≤ length s) where
  named_length : length (take (e - b) (drop b s)) ≡ e - b
  named_length = length-take-le (e - b) (drop b s) (omega (arith, length-drop b s))

  half_in_law : (n : ℕ) → 1 ≤ n → half_at s b e n ≡ half_in (take (e - b) (drop b s)) n
  unfolding half_at half_in
  half_in_law n c = rw named_length (go (ltb (e - b) n) refl)
    where
      place : b ≤ e → (n : ℕ) → n ≤ e - b → b + (e - b - n) ≡ e - n
      place l n c = omega arith

      go : (o : Bool) → ltb (e - b) n ≡ o → cond o 0 (get_or s (e - n) 0 % 16) ≡ cond o 0 (get_or (take (e - b) (drop b s)) (e - b - n) 0 % 16)
      go true q = refl
      go false q =
          let d : n ≤ e - b = ltb-false (e - b) n q in
          let x : get_or (take (e - b) (drop b s)) (e - b - n) 0 ≡ get_or s (e - n) 0 =
          get_or-take (e - b) (drop b s) (e - b - n) 0 (omega arith) ∙ (get_or-drop b s (e - b - n) 0 ∙ ap (λ (a : ℕ). get_or s a 0) (place l n d)) in
          rw x

  mark_in_law : mark_of s b e ≡ mark_in (take (e - b) (drop b s))
  unfolding mark_of mark_in
  mark_in_law = rw (half_in_law 4 (omega arith), half_in_law 3 (omega arith), half_in_law 2 (omega arith), half_in_law 1 (omega arith))

rest_of : (a n : ℕ) → n < 16777216 → (a * 16777216 + n) % 16777216 ≡ n
rest_of a n l = omega arith

module _ (s : List ℕ) (b e : ℕ) (l : b ≤ e) (k : e ≤ length s) (j : length s < 16777216) where
  pub entry_is : entry_of s b e ≡ (mark_of s b e * 16777216 + (e - b)) * 16777216 + b
  unfolding entry_of
  entry_is = rw (le-ltb e b l, le-ltb (length s) e k, lt-leb 16777216 (length s) j)

  pub entry_begins : begin_in (entry_of s b e) ≡ b
  entry_begins = omega (arith, entry_is)

  entry_upper : key_in (entry_of s b e) ≡ mark_of s b e * 16777216 + (e - b)
  entry_upper = omega (arith, entry_is)

  pub entry_length : length_in (entry_of s b e) ≡ e - b
  entry_length = let w = entry_upper in rw w (rest_of (mark_of s b e) (e - b) (omega arith))

  pub entry_bytes : bytes_in s (entry_of s b e) ≡ take (e - b) (drop b s)
  entry_bytes = rw (entry_begins, entry_length) (bytes_in_law s b (e - b) (omega arith))

  entry_key : key_in (entry_of s b e) ≡ key_of (take (e - b) (drop b s))
  unfolding key_of
  entry_key = entry_upper ∙ rw (mark_in_law s b e l k, named_length s b e l k)

  entry_name : name_in s (entry_of s b e) ≡ key_of (take (e - b) (drop b s)) ∷ take (e - b) (drop b s)
  entry_name = ap (λ (a : ℕ). a ∷ bytes_in s (entry_of s b e)) entry_key ∙ ap (λ (m : List ℕ). key_of (take (e - b) (drop b s)) ∷ m) entry_bytes

same_keys : (m n : List ℕ) → equal (key_of m ∷ m) (key_of n ∷ n) ≡ equal m n
unfolding equal
same_keys m n = go (equal m n) refl
  where
    go : (o : Bool) → equal m n ≡ o → eqb (key_of m) (key_of n) && o ≡ o
    go true h = rw (eq-eqb (key_of m) (key_of n) (ap key_of (equal_is m n h)))
    go false h = and_false (eqb (key_of m) (key_of n))

-- two entries have one name where their bytes are equal
pub entry_same : (s : List ℕ) (b e c f : ℕ) → b ≤ e → e ≤ length s → c ≤ f → f ≤ length s → length s < 16777216
    → same_name s (entry_of s b e) (entry_of s c f) ≡ equal (take (e - b) (drop b s)) (take (f - c) (drop c s))
entry_same s b e c f l k m i j = rw (entry_name s b e l k j, entry_name s c f m i j) (same_keys (take (e - b) (drop b s)) (take (f - c) (drop c s)))

-- ---- what the code returns

module _ (s : List ℕ) (b e : ℕ) where
  pub entry_crossed : e < b → 0 ≡ entry_of s b e
  unfolding entry_of
  entry_crossed l = rw (lt-ltb e b l)

  pub entry_outside : b ≤ e → length s < e → 0 ≡ entry_of s b e
  unfolding entry_of
  entry_outside l k = rw (le-ltb e b l, lt-ltb (length s) e k)

  pub entry_long : b ≤ e → e ≤ length s → 16777216 ≤ length s → 0 ≡ entry_of s b e
  unfolding entry_of
  entry_long l k j = rw (le-ltb e b l, le-ltb (length s) e k, le-leb 16777216 (length s) j)

  pub half_none : (k : ℕ) → e - b < k → 0 ≡ half_at s b e k
  unfolding half_at
  half_none k l = rw (lt-ltb (e - b) k l)

  pub half_some : (k : ℕ) → k ≤ e - b → get_or s (e - k) 0 % 16 ≡ half_at s b e k
  unfolding half_at
  half_some k l = rw (le-ltb (e - b) k l)

  pub entry_some : b ≤ e → e ≤ length s → length s < 16777216 → (m : ℕ) → m ≡ mark_of s b e → (m * 16777216 + (e - b)) * 16777216 + b ≡ entry_of s b e
  entry_some q k j m h = rw h (sym (entry_is s b e q k j))

  -- of four bytes or more, and of fewer
  pub mark_whole : 4 ≤ e - b
      → get_or s (e - 4) 0 % 16 * 4096 + get_or s (e - 3) 0 % 16 * 256 + get_or s (e - 2) 0 % 16 * 16 + get_or s (e - 1) 0 % 16 ≡ mark_of s b e
  unfolding mark_of half_at
  mark_whole l = rw (le-ltb (e - b) 4 l, le-ltb (e - b) 3 (omega arith), le-ltb (e - b) 2 (omega arith), le-ltb (e - b) 1 (omega arith))

  pub mark_short : e - b < 4 → (g h i : ℕ) → g ≡ half_at s b e 3 → h ≡ half_at s b e 2 → i ≡ half_at s b e 1 → g * 256 + h * 16 + i ≡ mark_of s b e
  unfolding mark_of
  mark_short l g h i x y z = omega (arith, x, y, z, sym (half_none 4 l))
