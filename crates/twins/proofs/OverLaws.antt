-- The first twin in the order of reading is the earliest of what each object has, whatever the order in which the objects are taken.
use Prim.Native.Nat.{ℕ, suc}
use mathlib.Core.Path.{◌≡◌, refl, sym, ap, ◌∙◌}
use mathlib.Core.Bool.{Bool, true, false, not, ◌||◌, cond}
use mathlib.Core.List.{List, [], ◌∷◌}
use lib.ListN.{length}
use lib.Dec.{eqb}
use borrow.Author.Tests.{eqb-true, eqb-false}
use Rattle.number.specs.BigEndian.{All}
use Rattle.number.proofs.Clash.{clash}
use Rattle.format.specs.Kinds.{any}
use Rattle.frames.specs.WriteList.{read_list}
use Rattle.twins.specs.Lax.{lax_list}
use Rattle.twins.specs.Events.{Event, events_of, first_twin, decide, Falls}
use Rattle.twins.specs.Over.{of_object, least_over, Covers, Distinct}
use Rattle.twins.proofs.LaxEvents.{events_fall}
use Rattle.twins.proofs.KeepLaws.{keep, drops, falls_keep, twin_split}
use Rattle.twins.proofs.StrictLaws.{strict_is}

of_keep : (k : ℕ) (es : List Event) → of_object k es ≡ keep (eqb k) es
of_keep k [] = refl
of_keep k (e ∷ es) = rw (of_keep k es)

-- another object is untouched when one is taken out
keep_other : (j k : ℕ) → eqb j k ≡ false → (es : List Event) → of_object j (keep (drops (eqb k)) es) ≡ of_object j es
keep_other j k h [] = refl
keep_other j k h (e ∷ es) = at (eqb k e.object) refl (eqb j e.object) refl (keep_other j k h es)
  where
    left : List Event
    left = keep (drops (eqb k)) es

    at : (x : Bool) → eqb k e.object ≡ x → (y : Bool) → eqb j e.object ≡ y → of_object j left ≡ of_object j es
        → of_object j (cond (not x) (e ∷ left) left) ≡ cond y (e ∷ of_object j es) (of_object j es)
    at true p true q i = absurd (eqb-false j k h (eqb-true j e.object q ∙ sym (eqb-true k e.object p)))
    at true p false q i = i
    at false p y q i = rw (q, i)

over_other : (k : ℕ) (ks : List ℕ) (es : List Event) → All (λ j. eqb j k ≡ false) ks → least_over ks (keep (drops (eqb k)) es) ≡ least_over ks es
over_other k [] es h = refl
over_other k (j ∷ ks) es h = rw (keep_other j k h.0 es, over_other k ks es h.1)

covers_keep : (k : ℕ) (ks : List ℕ) (es : List Event) → Covers (k ∷ ks) es → Covers ks (keep (drops (eqb k)) es)
covers_keep k ks [] h = tt
covers_keep k ks (e ∷ es) h = at (eqb k e.object) h.0 (covers_keep k ks es h.1)
  where
    at : (x : Bool) → (x || any (λ k. eqb k e.object) ks) ≡ true → Covers ks (keep (drops (eqb k)) es)
        → Covers ks (cond (not x) (e ∷ keep (drops (eqb k)) es) (keep (drops (eqb k)) es))
    at true p i = i
    at false p i = (p, i)

pub least_over_law : (ks : List ℕ) (m : ℕ) (es : List Event) → Falls m es → Distinct ks → Covers ks es → first_twin [] es ≡ least_over ks es
unfolding first_twin
least_over_law [] m [] h g c = refl
least_over_law [] m (e ∷ es) h g c = let z : false ≡ true = c.0 in clash cc
least_over_law (k ∷ ks) m es h g c =
    let left = keep (drops (eqb k)) es in
    twin_split (eqb k) m [] es h
    ∙ rw (of_keep k es, least_over_law ks m left (falls_keep (drops (eqb k)) m es h) g.1 (covers_keep k ks es c), over_other k ks es g.0)

pub strict_is_over : (d : ℕ) (s : List ℕ) (ks : List ℕ) → Distinct ks → Covers ks (events_of d s)
    → read_list d s ≡ decide (least_over ks (events_of d s)) (lax_list d s)
strict_is_over d s ks g c = strict_is d s ∙ ap (λ t. decide t (lax_list d s)) (least_over_law ks (suc (length s)) (events_of d s) (events_fall d s) g c)
