-- Bytes copied: what the code knows at each return.
use Prim.Native.Nat.{ℕ, ◌+◌, ◌-◌, ◌≤◌, ◌<◌}
use native.Mathlib.Omega.{arith}
use native.Mathlib.Numerals.{add-one}
use mathlib.Core.Path.{◌≡◌, refl, sym, ◌∙◌}
use mathlib.Core.Bool.{true, false, ◌&&◌, and-false}
use mathlib.Core.Logic.{◌⊎◌, inl, inr}
use mathlib.Core.List.{List, [], ◌∷◌, ◌++◌}
use lib.ListN.{length, take, get_or, set}
use lib.Dec.{leb}
use lib.Seq.{sets, take-length, take-suc, length-take-le}
use borrow.Author.Tests.{le-leb, lt-leb}
use Rattle.front.specs.Between.{between}
use Rattle.frames.proofs.PlaceLaws.{sets_append}
use Rattle.output.specs.Copied.{copied}

-- ---- the loop: so many of the bytes are put

pub put_more : (ys start out : List ℕ) (to i : ℕ) → i < length ys → out ≡ sets start to (take i ys)
    → set out (to + i) (get_or ys i 0) ≡ sets start to (take (i + 1) ys)
put_more ys start out to i l o =
    let n : length (take i ys) ≡ i = length-take-le i ys (omega arith) in
    let z : sets (sets start to (take i ys)) (to + length (take i ys)) (get_or ys i 0 ∷ []) ≡ sets start to (take i ys ++ (get_or ys i 0 ∷ [])) =
    sets_append (take i ys) (get_or ys i 0 ∷ []) start to in
    rw (add-one i, take-suc ys i 0 l, ← z, n, ← o) refl

-- ---- where there is no room, and where there is

module _ (s : List ℕ) (from end : ℕ) (o : List ℕ) (to : ℕ) where
  none : (leb from end && (leb end (length s) && leb (to + (end - from)) (length o))) ≡ false → o ≡ copied s from end o to
  unfolding copied
  none h = rw h

  all : (leb from end && (leb end (length s) && leb (to + (end - from)) (length o))) ≡ true → sets o to (between from end s) ≡ copied s from end o to
  unfolding copied
  all h = rw h

  pub copy_past : (end < from) ⊎ (length s < end) → o ≡ copied s from end o to
  copy_past (inl h) = none (rw (lt-leb from end h))
  copy_past (inr h) = none (rw (lt-leb end (length s) h) (and-false (leb from end)))

  module _ (l : from ≤ end) (m : end ≤ length s) where
    within : to + (end - from) ≤ length o → (leb from end && (leb end (length s) && leb (to + (end - from)) (length o))) ≡ true
    within h = rw (le-leb from end l, le-leb end (length s) m, le-leb (to + (end - from)) (length o) h)

    pub copied_is : to + (end - from) ≤ length o → (p : List ℕ) → p ≡ copied s from end o to → p ≡ sets o to (between from end s)
    copied_is h p e = e ∙ sym (all (within h))

    pub copy_few : length o < to + (end - from) → o ≡ copied s from end o to
    copy_few h = none (rw (le-leb from end l, le-leb end (length s) m, lt-leb (to + (end - from)) (length o) h))

    pub copy_done : (ys z : List ℕ) (i : ℕ) → ys ≡ between from end s → length ys + from ≡ end → to + length ys ≤ length o → i ≡ length ys
        → z ≡ sets o to (take i ys) → z ≡ copied s from end o to
    copy_done ys z i y k h n e = e ∙ rw (n, take-length ys, y) (all (within (omega arith)))
