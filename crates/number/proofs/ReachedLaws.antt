-- Laws of `reached`: of rising bounds as many are reached as stand at or below the number.
use Prim.Native.Nat.{ℕ, zero, suc, ◌+◌, ◌≤◌, ◌<◌}
use native.Mathlib.Omega.{arith}
use mathlib.Core.Path.{◌≡◌, refl, ap}
use mathlib.Core.Bool.{Bool, true, false, cond}
use mathlib.Core.List.{List, [], ◌∷◌}
use lib.ListN.{length, get_or}
use lib.Dec.{ltb}
use borrow.Author.Tests.{ltb-true, ltb-false, lt-ltb, le-ltb}
use Rattle.std.proofs.Common.{Option, Some, None, not, unwrap_or}
use Rattle.std.specs.List.{position_or_len}
use Rattle.number.specs.VarUInt.{reached}

pub reached_most : (ts : List ℕ) (b : ℕ) → reached ts b ≤ length ts
reached_most [] b = omega arith
reached_most (t ∷ ts) b = go (ltb b t) (reached_most ts b)
  where
    go : (x : Bool) → reached ts b ≤ length ts → cond x 0 (suc (reached ts b)) ≤ suc (length ts)
    go true h = omega arith
    go false h = omega arith

-- the last bound that is reached, l where none is
pub reached_low : (l : ℕ) (ts : List ℕ) (b : ℕ) → l ≤ b → get_or (l ∷ ts) (reached ts b) 0 ≤ b
reached_low l [] b h = h
reached_low l (t ∷ ts) b h = go (ltb b t) refl (reached_low t ts b)
  where
    go : (x : Bool) → ltb b t ≡ x → (t ≤ b → get_or (t ∷ ts) (reached ts b) 0 ≤ b) → get_or (l ∷ t ∷ ts) (cond x 0 (suc (reached ts b))) 0 ≤ b
    go true e i = h
    go false e i = i (ltb-false b t e)

-- the first bound that is not, d where all are
pub reached_high : (ts : List ℕ) (b d : ℕ) → b < d → b < get_or ts (reached ts b) d
reached_high [] b d h = h
reached_high (t ∷ ts) b d h = go (ltb b t) refl (reached_high ts b d h)
  where
    go : (x : Bool) → ltb b t ≡ x → b < get_or ts (reached ts b) d → b < get_or (t ∷ ts) (cond x 0 (suc (reached ts b))) d
    go true e i = ltb-true b t e
    go false e i = i

abbrev pub Rising : ℕ → List ℕ → Type 0
Rising l [] = Unit {0}
Rising l (t ∷ ts) = (l ≤ t) × Rising t ts

rising : (l : ℕ) (ts : List ℕ) (n : ℕ) → Rising l ts → n ≤ length ts → l ≤ get_or (l ∷ ts) n 0
rising l ts zero r h = omega arith
rising l [] (suc n) r h = absurd (omega arith)
rising l (t ∷ ts) (suc n) r h = omega (arith, r.0, rising t ts n r.1 (omega arith))

pub reached_at : (l : ℕ) (ts : List ℕ) (n b d : ℕ) → Rising l ts → n ≤ length ts → get_or (l ∷ ts) n 0 ≤ b → b < get_or ts n d → reached ts b ≡ n
reached_at l [] zero b d r h low high = refl
reached_at l [] (suc n) b d r h low high = absurd (omega arith)
reached_at l (t ∷ ts) zero b d r h low high = rw (lt-ltb b t)
reached_at l (t ∷ ts) (suc n) b d r h low high =
    rw (le-ltb b t (omega (arith, rising t ts n r.1 (omega arith)))) (ap suc (reached_at t ts n b d r.1 (omega arith) low high))

-- as many are reached as stand before the first that is greater
pub reached_position : (ts : List ℕ) (b : ℕ) (o : Option ℕ) → o ≡ cond (ltb (position_or_len (ltb b) ts) (length ts)) (Some (position_or_len (ltb b) ts)) None
    → unwrap_or o (length ts) ≡ reached ts b
reached_position ts b o e = rw e (go (ltb (position_or_len (ltb b) ts) (length ts)) refl)
  where
    same : (ts : List ℕ) → position_or_len (ltb b) ts ≡ reached ts b
    same [] = refl
    same (t ∷ ts) = at (ltb b t) (same ts)
      where
        at : (x : Bool) → position_or_len (ltb b) ts ≡ reached ts b → cond (not x) (1 + position_or_len (ltb b) ts) 0 ≡ cond x 0 (suc (reached ts b))
        at true h = refl
        at false h = omega arith

    go : (x : Bool) → ltb (position_or_len (ltb b) ts) (length ts) ≡ x → unwrap_or (cond x (Some (position_or_len (ltb b) ts)) None) (length ts) ≡ reached ts b
    go true h = same ts
    go false h = omega (arith, ltb-false (position_or_len (ltb b) ts) (length ts) h, same ts, reached_most ts b)
