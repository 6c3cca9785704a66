-- A frame again: what the code knows at each return.
use Prim.Native.Nat.{ℕ, ◌≤◌, ◌<◌}
use native.Mathlib.Omega.{arith}
use mathlib.Core.Path.{◌≡◌, sym, ap, ◌∙◌}
use mathlib.Core.Bool.{Bool, true, false}
use mathlib.Core.List.{List}
use mathlib.Core.Logic.{◌⊎◌, inl, inr}
use lib.Dec.{eqb}
use lib.ListN.{length, drop_of_length-le}
use denote.Ref.{Bor}
use Rattle.std.proofs.Common.{Option, Some, None}
use Rattle.std.specs.Option.{MatchOption}
use Rattle.std.specs.Slice.{IsGetRangeResult}
use Rattle.std.proofs.lemmas.Slice.{between_to_end}
use borrow.Author.Tests.{ne_eqb}
use Rattle.float.specs.Rule.{holds}
use Rattle.frames.specs.Container.{container_id, uniform_in}
use Rattle.frame.specs.Pieces.{bits_in}
use Rattle.output.specs.Encoded.{bits_at, final_id}

-- ---- eight bytes

pub bits_is : (s : List ℕ) (at v : ℕ) (o : Option (Bor (List ℕ))) → IsGetRangeResult s at (length s) o
    → MatchOption o (v ≡ 0) (λ (x : Bor (List ℕ)). v ≡ bits_in x.now) → v ≡ bits_at s at
unfolding bits_at bits_in
bits_is s at v None g e = e ∙ rw (drop_of_length-le s {i = at} (past g.0))
  where
    past : (length s < at) ⊎ (length s < length s) → length s ≤ at
    past (inl h) = omega arith
    past (inr h) = absurd (omega arith)
bits_is s at v (Some x) g e = e ∙ ap bits_in (g.0.2 ∙ between_to_end s at (length s) (omega arith))

-- ---- the ID as encoded

module _ (s : List ℕ) (b start x : ℕ) where
  pub final_container : (b ≡ 2) ⊎ (b ≡ 4) → (i : ℕ) (u : Bool) → u ≡ uniform_in x → i ≡ container_id (eqb b 2) u → i ≡ final_id s b start x
  unfolding final_id
  final_container (inl h) i u eu e = rw h (rw (h, eu) at e)
  final_container (inr h) i u eu e = rw h (rw (h, eu) at e)

  pub final_held : b ≡ 11 → (v : ℕ) (t : Bool) → v ≡ bits_at s start → t ≡ holds v → t ≡ true → 10 ≡ final_id s b start x
  unfolding final_id
  final_held i v t ev et j = let z : holds (bits_at s start) ≡ true = ap holds (sym ev) ∙ sym et ∙ j in rw (i, z)

  pub final_kept : b ≡ 11 → (v : ℕ) (t : Bool) → v ≡ bits_at s start → t ≡ holds v → t ≡ false → b ≡ final_id s b start x
  unfolding final_id
  final_kept i v t ev et j = let z : holds (bits_at s start) ≡ false = ap holds (sym ev) ∙ sym et ∙ j in rw (i, z)

  pub final_other : (b ≡ 2 → ⊥) → (b ≡ 4 → ⊥) → (b ≡ 11 → ⊥) → b ≡ final_id s b start x
  unfolding final_id
  final_other g h i = rw (ne_eqb b 2 g, ne_eqb b 4 h, ne_eqb b 11 i)
