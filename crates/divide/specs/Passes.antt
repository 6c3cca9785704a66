-- What the functions of this crate tell each other of the table. No public contract cites it.
use Rattle.std.specs.Prelude.{ℕ, ◌+◌, ◌-◌, ◌≤◌, ◌<◌, ◌≡◌, Bool, true, false, cond, List, length, take, drop, get_or, ltb, leb}
use Rattle.entries.specs.Entry.{begin_in, length_in, name_in}
use Rattle.entries.specs.Least.{lesser, least}
use Rattle.entries.specs.Among.{Perm, In}

abbrev pub digit_in : List ℕ → ℕ → ℕ → ℕ
digit_in s j x = get_or (name_in s x) j 0

-- a digit goes to the front: one up to the middle, or one above it
abbrev pub in_front : Bool → ℕ → ℕ → Bool
in_front true mid d = leb d mid
in_front false mid d = ltb mid d

unfoldable pub count_front : Bool → ℕ → ℕ → ℕ
count_front lows mid d = cond (in_front lows mid d) 1 0

-- all names stand in the part and have a digit j
pub record Reach (s : List ℕ) (j : ℕ) (t : List ℕ) : Type 0 where
  pub fit : (x : ℕ) → In x t → begin_in x + length_in x ≤ length s
  pub reach : (x : ℕ) → In x t → j ≤ length_in x

-- all names stand in the part, and their first j digits are equal
pub record Alike (s : List ℕ) (j : ℕ) (t : List ℕ) : Type 0 where
  pub fit : (x : ℕ) → In x t → begin_in x + length_in x ≤ length s
  pub reach : (x : ℕ) → In x t → j ≤ 1 + length_in x
  pub alike : (x e : ℕ) → In x t → In e t → take j (name_in s x) ≡ take j (name_in s e)

-- a name has this digit
pub record Shown (s : List ℕ) (j : ℕ) (t : List ℕ) (d : ℕ) : Type 0 where
  pub entry : ℕ
  pub there : In entry t
  pub is : digit_in s j entry ≡ d

-- the least and the greatest digit
pub record Ranges (s : List ℕ) (j : ℕ) (t : List ℕ) (low high : ℕ) : Type 0 where
  pub least : (x : ℕ) → In x t → low ≤ digit_in s j x
  pub greatest : (x : ℕ) → In x t → digit_in s j x ≤ high
  pub low_shown : Shown s j t low
  pub high_shown : Shown s j t high

-- some digit is up to the middle, and some is above it
pub record Astride (s : List ℕ) (j mid : ℕ) (t : List ℕ) : Type 0 where
  pub reach : Reach s j t
  pub low : ℕ
  pub high : ℕ
  pub low_shown : Shown s j t low
  pub high_shown : Shown s j t high
  pub low_is : low ≤ mid
  pub high_is : mid < high

-- the first k are those that go to the front
pub record Splits (s : List ℕ) (j mid : ℕ) (lows : Bool) (t t' : List ℕ) (k : ℕ) : Type 0 where
  pub perm : Perm t' t
  pub few : k ≤ length t
  pub front : (x : ℕ) → In x (take k t') → in_front lows mid (digit_in s j x) ≡ true
  pub rest : (x : ℕ) → In x (drop k t') → in_front lows mid (digit_in s j x) ≡ false

-- the first k, which are half or more but not all, and the others have no digit j in common
pub record Parts (s : List ℕ) (j : ℕ) (t t' : List ℕ) (k : ℕ) : Type 0 where
  pub perm : Perm t' t
  pub some : 0 < k
  pub few : k < length t
  pub most : length t ≤ k + k
  pub apart : (x e : ℕ) → In x (take k t') → In e (drop k t') → digit_in s j x ≡ digit_in s j e → ⊥

-- the first twin begins at b or is one of the first k, which are alike up to j'
pub record Narrows (s : List ℕ) (j : ℕ) (t t' : List ℕ) (b k j' : ℕ) : Type 0 where
  pub length_kept : length t' ≡ length t
  pub few : k ≤ length t
  pub less : k + (16777217 - j') < length t + (16777217 - j)
  pub bound : b ≤ 16777216
  pub alike : Alike s j' (take k t')
  pub is : lesser b (least s (take k t')) ≡ least s t

-- the first twin begins at r
pub record Tells (s t t' : List ℕ) (r : ℕ) : Type 0 where
  pub length_kept : length t' ≡ length t
  pub is : r ≡ least s t
