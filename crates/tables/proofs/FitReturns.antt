-- Whether all entries fit.
use Prim.Native.Nat.{ℕ, zero, suc, ◌<◌}
use native.Mathlib.Omega.{arith}
use mathlib.Core.Path.{◌≡◌, refl, ap}
use mathlib.Core.Bool.{Bool, true, ◌&&◌}
use mathlib.Core.List.{List, [], ◌∷◌}
use lib.ListN.{length, get_or}
use Rattle.std.specs.List.{list_all}
use Rattle.text.proofs.Laws.{and_both}
use Rattle.entries.specs.Among.{In, here, there}
use Rattle.tables.specs.Fit.{fits, all_fit}

-- an entry that stands at a place is among them
pub in_at : (t : List ℕ) (i : ℕ) → i < length t → In (get_or t i 0) t
in_at [] i l = absurd (omega arith)
in_at (x ∷ t) zero l = here
in_at (x ∷ t) (suc i) l = there (in_at t i (omega arith))

pub all_fit_law : (s u : List ℕ) (x : ℕ) → all_fit s u ≡ true → In x u → fits s x ≡ true
unfolding all_fit
all_fit_law s [] x h x4 = elim x4 [ ]
all_fit_law s (y ∷ u) x h here = (and_both (fits s y) (all_fit s u) h).0
all_fit_law s (y ∷ u) x h (there i) = all_fit_law s u x (and_both (fits s y) (all_fit s u) h).1 i

pub all_fit_is : (s t : List ℕ) → list_all (fits s) t ≡ all_fit s t
unfolding all_fit
all_fit_is s [] = refl
all_fit_is s (x ∷ t) = ap (λ (b : Bool). fits s x && b) (all_fit_is s t)
