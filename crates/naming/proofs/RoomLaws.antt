-- How much of the table is lent to tell the first twin, and what a position behind the list's end counts as.
use Prim.Native.Nat.{ℕ, min, max, ◌≤◌}
use native.Mathlib.Omega.{arith}
use mathlib.Core.Path.{◌≡◌, refl, sym, ap, ◌∙◌}
use mathlib.Core.Bool.{Bool, true, false, cond}
use mathlib.Core.List.{List}
use lib.ListN.{length, take}
use lib.Seq.{length-take-le}
use lib.Dec.{ltb}
use borrow.Author.Tests.{ltb-true, ltb-false}
use Rattle.entries.specs.Least.{lesser}
use Rattle.entries.proofs.LeastLaws.{lesser_left, lesser_both}
use Rattle.naming.specs.Names.{room_for}

-- ---- a position

pub lesser_is : (a b : ℕ) → a ≤ b → lesser a b ≡ a
lesser_is a b l = go (ltb a b) refl
  where
    go : (o : Bool) → ltb a b ≡ o → cond o a b ≡ a
    go true e = refl
    go false e = omega (arith, ltb-false a b e)

-- ---- how much of the table

pub lesser_min : (a b : ℕ) → min a b ≡ lesser a b
lesser_min a b = go (ltb a b) refl
  where
    go : (o : Bool) → ltb a b ≡ o → min a b ≡ cond o a b
    go true e = omega (arith, ltb-true a b e)
    go false e = omega (arith, ltb-false a b e)

pub room_is : (n held reach m r : ℕ) → m ≡ max held reach → r ≡ min n m → r ≡ room_for n held reach
unfolding room_for
room_is n held reach m r i e = e ∙ ap (min n) i ∙ go (ltb held reach) refl
  where
    go : (o : Bool) → ltb held reach ≡ o → min n (max held reach) ≡ cond o (lesser n reach) (lesser n held)
    go true q = let z : max held reach ≡ reach = omega (arith, ltb-true held reach q) in rw z (lesser_min n reach)
    go false q = let z : max held reach ≡ held = omega (arith, ltb-false held reach q) in rw z (lesser_min n held)

pub room_inside : (n held reach r : ℕ) → r ≡ room_for n held reach → r ≤ n
unfolding room_for
room_inside n held reach r e = rw e (go (ltb held reach))
  where
    go : (o : Bool) → cond o (lesser n reach) (lesser n held) ≤ n
    go true = lesser_left n reach
    go false = lesser_left n held

-- what is held is lent
pub room_all : (n held reach : ℕ) → held ≤ n → held ≤ room_for n held reach
unfolding room_for
room_all n held reach l = go (ltb held reach) refl
  where
    go : (o : Bool) → ltb held reach ≡ o → held ≤ cond o (lesser n reach) (lesser n held)
    go true e = lesser_both held n reach l (omega (arith, ltb-true held reach e))
    go false e = lesser_both held n held l (omega arith)

pub room_count : (t : List ℕ) (held reach r : ℕ) → r ≡ room_for (length t) held reach → r ≡ length (take r t)
room_count t held reach r e = sym (length-take-le r t (room_inside (length t) held reach r e))
