-- What comes of a table that is full of the first names.
use Prim.Native.Nat.{ℕ, ◌<◌}
use native.Mathlib.Omega.{arith}
use mathlib.Core.Path.{◌≡◌, refl, sym, ap, ◌∙◌}
use mathlib.Core.Bool.{true}
use mathlib.Core.List.{List, [], ◌∷◌, ◌++◌}
use lib.ListN.{length, take, drop, replicate, length-replicate, take-append-drop}
use lib.Seq.{take-length}
use borrow.Author.Tests.{le-ltb}
use Rattle.std.proofs.Common.{Option, None, Some}
use Rattle.number.proofs.Clash.{clash}
use Rattle.text.proofs.Laws.{and_both}
use Rattle.entries.specs.Least.{least}
use Rattle.tables.specs.Fit.{fits, all_fit}
use Rattle.divide.specs.Divided.{Afterwards, afterwards, divided}
use Rattle.select.specs.declared.Source.{Source}
use Rattle.select.specs.Source.{entries_of, first_twin}
use Rattle.select.proofs.FillReturns.{entries_fit, zeros_all}
use Rattle.select.proofs.FrontLaws.{front_twin}

front_fits : (s xs ys : List ℕ) → all_fit s (xs ++ ys) ≡ true → all_fit s xs ≡ true
unfolding all_fit
front_fits s [] ys h = refl
front_fits s (x ∷ xs) ys h = let w = and_both (fits s x) (all_fit s (xs ++ ys)) h in rw w.0 (front_fits s xs ys w.1)

module _ (o : Source) (s t : List ℕ) (w : t ≡ take (length t) (entries_of o s)) where
  parts : entries_of o s ≡ t ++ drop (length t) (entries_of o s)
  parts = sym (take-append-drop (length t) (entries_of o s)) ∙ ap (λ (u : List ℕ). u ++ drop (length t) (entries_of o s)) (sym w)

  all_fit_law : all_fit s t ≡ true
  all_fit_law = front_fits s t (drop (length t) (entries_of o s)) (rw (← parts) (entries_fit o s (length s) 0))

  module _ (y : Option ℕ) (t₁ : List ℕ) (e : ◌≡◌ {A = Afterwards} (record { answer = y; table = t₁ }) (divided s t (length t))) where
    divided_is : divided s t (length t) ≡ afterwards (Some (least s t)) (replicate (length t) 0)
    unfolding divided
    divided_is =
        rw (le-ltb (length t) (length t) (omega arith), take-length t, all_fit_law)
        (ap (λ (u : List ℕ). afterwards (Some (least s t)) u) (sym (zeros_all t)))

    answer_is : y ≡ Some (least s t)
    answer_is = ap (λ (u : Afterwards). u.answer) (e ∙ divided_is)

    pub front_cleared : t₁ ≡ replicate (length t) 0
    front_cleared = ap (λ (u : Afterwards). u.table) (e ∙ divided_is)

    pub front_unfit : (r : ℕ) → y ≡ None → r ≡ first_twin o s
    front_unfit r q = let z : None ≡ Some (least s t) = sym q ∙ answer_is in clash cc

    pub front_found : (r : ℕ) → y ≡ Some r → r < 16777216 → r ≡ first_twin o s
    front_found r q l =
        let z : Some r ≡ Some (least s t) = sym q ∙ answer_is in
        let a : r ≡ least s t = cc in
        a ∙ front_twin o s t (drop (length t) (entries_of o s)) parts (omega arith)

    pub front_passed : (t₂ : List ℕ) → t₂ ≡ replicate (length t₁) 0 → t₂ ≡ replicate (length t) 0
    front_passed t₂ h = h ∙ ap (λ (n : ℕ). replicate n 0) (ap length front_cleared ∙ length-replicate (length t) 0)
