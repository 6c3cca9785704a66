-- An answer by what was read: flaws met first, and what follows.
use Prim.Native.Nat.{ℕ}
use mathlib.Core.Path.{◌≡◌, refl, ◌∙◌}
use mathlib.Core.Bool.{Bool, true, false}
use mathlib.Core.List.{List, [], ◌∷◌}
use Rattle.faults.specs.declared.Modes.{Modes}
use Rattle.faults.specs.declared.Faults.{Faults}
use Rattle.format.specs.declared.Stop.{Stop}
use Rattle.format.specs.declared.Stop.TheVariants.{Early}
use Rattle.format.specs.declared.Flaw.{Flaw}
use Rattle.format.specs.Parse.{Out, fault, got, with_flaws, bind, raise, make, whole}
use Rattle.faults.specs.Noted.{noted, flaw_if}
use Rattle.faults.proofs.NotedLaws.{noted_none, noted_more}
use Rattle.front.specs.Code.{answer_of}

-- ---- answers

module _ {A B : Type 0} (stop : Stop → B) (go : A → Faults → List ℕ → B) (m : Modes) where
  pub answer_flaws : (g : Faults) (fs : List Flaw) (o : Out A) → answer_of stop go m g (with_flaws fs o) ≡ answer_of stop go m (noted m g fs) o
  answer_flaws g [] o = rw (noted_none m g)
  answer_flaws g (f ∷ fs) (fault k) = refl
  answer_flaws g (f ∷ fs) (got a gs r) = rw (noted_more m g (f ∷ fs) gs)

  pub answer_raise : (g : Faults) (x : Bool) (f : Flaw) (o : Out A) → answer_of stop go m g (raise x f o) ≡ answer_of stop go m (noted m g (flaw_if x f)) o
  answer_raise g true f o = answer_flaws g (f ∷ []) o
  answer_raise g false f o = rw (noted_none m g)

-- what follows is answered with the faults so far
pub answer_bind : {A B C : Type 0} (stop : Stop → C) (go : B → Faults → List ℕ → C) (m : Modes) (g : Faults) (o : Out A) (h : A → List ℕ → Out B)
    → answer_of stop go m g (bind o h) ≡ answer_of stop (λ a e r. answer_of stop go m e (h a r)) m g o
answer_bind stop go m g (fault k) h = refl
answer_bind stop go m g (got a fs r) h = answer_flaws stop go m g fs (h a r)

-- ---- what is left

abbrev pub ended : {B : Type 0} → List ℕ → B → B → B
ended [] a b = a
ended (c ∷ r) a b = b

pub answer_whole : {A B : Type 0} (stop : Stop → B) (go : A → Faults → List ℕ → B) (m : Modes) (g : Faults) (o : Out A) (r : List ℕ)
    → answer_of stop go m g (whole o r) ≡ answer_of stop (λ x h q. ended q (go x h r) (stop Early)) m g o
answer_whole stop go m g (fault k) r = refl
answer_whole stop go m g (got x fs []) r = refl
answer_whole stop go m g (got x fs (c ∷ q)) r = refl

pub answer_make : {A B C : Type 0} (stop : Stop → C) (go : B → Faults → List ℕ → C) (m : Modes) (g : Faults) (f : A → B) (o : Out A)
    → answer_of stop go m g (make f o) ≡ answer_of stop (λ x. go (f x)) m g o
answer_make stop go m g f o = answer_bind stop go m g o _ ∙ at o
  where
    at : (o : Out _) → answer_of stop (λ a e r. go (f a) (noted m e []) r) m g o ≡ answer_of stop (λ x. go (f x)) m g o
    at (fault k) = refl
    at (got a fs r) = rw (noted_none m (noted m g fs))
