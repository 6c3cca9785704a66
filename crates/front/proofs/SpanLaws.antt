-- A number, a size with the bytes that it counts, and text: what is answered of them.
use Rattle.std.specs.Prelude.{Ok, Result, Err}
use Prim.Native.Nat.{ℕ, ◌+◌, ◌-◌, ◌≤◌}
use native.Mathlib.Omega.{arith}
use mathlib.Core.Path.{◌≡◌, refl, sym, ◌∙◌}
use mathlib.Core.Bool.{Bool, true, false, not, cond}
use mathlib.Core.List.{List, []}
use lib.ListN.{length, take, drop, length-drop}
use lib.Seq.{drop-drop}
use lib.Dec.{ltb}
use borrow.Author.Tests.{ltb-false}
use Rattle.number.specs.VarUInt.{var_uint, number_then}
use Rattle.number.proofs.NumberThenLaws.{number_both, number_all}
use Rattle.number.proofs.VarUIntLaws.{var_range}
use Rattle.text.specs.Utf8.{is_text}
use Rattle.format.specs.declared.Stop.{Stop}
use Rattle.format.specs.declared.Stop.TheVariants.{Early}
use Rattle.faults.specs.declared.Modes.{Modes}
use Rattle.faults.specs.declared.Faults.{Faults}
use Rattle.format.specs.declared.Flaw.TheVariants.{Long, NotUtf8}
use Rattle.format.specs.Parse.{Out, fault, got, raise, whole, read_var_uint, sized, rest}
use Rattle.format.specs.Names.{read_text}
use Rattle.faults.specs.Noted.{noted, flaw_if}
use Rattle.front.specs.Code.{answer_of}
use Rattle.front.specs.Between.{between}
use Rattle.front.specs.Pieces.{span_at, text_of, text_at}
use Rattle.faults.proofs.NotedLaws.{noted_none}
use Rattle.front.proofs.AnswerLaws.{answer_raise, answer_bind}
use Rattle.front.proofs.BetweenLaws.{Inside}
use Rattle.front.specs.declared.Span.{Span}
use Rattle.front.specs.Made.{span}

-- ---- a VarUInt

pub answer_number : {B : Type 0} (stop : Stop → B) (go : ℕ → Faults → List ℕ → B) (m : Modes) (g : Faults) (s : List ℕ)
    → answer_of stop go m g (read_var_uint s) ≡ number_then (stop Early) (λ v n x. go v (noted m g (flaw_if (not x) Long)) (drop n s)) (var_uint s)
unfolding read_var_uint
answer_number stop go m g s = number_both (λ o b. answer_of stop go m g o ≡ b) (fault Early) _ (stop Early) _ s refl λ v n x e.
    rw (answer_raise stop go m g (not x) Long (got v [] (drop n s)), noted_none m (noted m g (flaw_if (not x) Long)))

-- ---- a size, and what it counts

abbrev pub span_then : {B : Type 0} → (Stop → B) → (ℕ → ℕ → Faults → B) → Result Span Stop → B
span_then stop k (Err j) = stop j
span_then stop k (Ok p) = k p.begin p.end p.faults

module _ {B : Type 0} (stop : Stop → B) (m : Modes) (g : Faults) (s : List ℕ) where
  pub span_same : (k l : ℕ → ℕ → Faults → B) → ((a e : ℕ) (h : Faults) → Inside a e s → k a e h ≡ l a e h)
      → span_then stop k (span_at m g s) ≡ span_then stop l (span_at m g s)
  unfolding span_at
  span_same k l f = number_all (λ o. span_then stop k o ≡ span_then stop l o) (Err Early) _ s refl λ v n x e.
      fits v n x (ltb (length s - n) v) (var_range s v n x e).2 refl
    where
      fits : (v n : ℕ) (x z : Bool) → n ≤ length s → ltb (length s - n) v ≡ z
          → span_then stop k (cond z (Err Early) (span n (n + v) (noted m g (flaw_if (not x) Long))))
          ≡ span_then stop l (cond z (Err Early) (span n (n + v) (noted m g (flaw_if (not x) Long))))
      fits v n x true r e = refl
      fits v n x false r e =
          f n (n + v) (noted m g (flaw_if (not x) Long)) (record { order = omega arith; within = omega (arith, ltb-false (length s - n) v e) })

  answer_sized : {A : Type 0} (go : A → Faults → List ℕ → B) (p : List ℕ → Out A)
      → answer_of stop go m g (sized p s) ≡ span_then stop (λ a e h. answer_of stop go m h (whole (p (between a e s)) (drop e s))) (span_at m g s)
  unfolding span_at
  answer_sized go p = answer_bind stop go m g (read_var_uint s) _ ∙ (answer_number stop
      (λ a e r. answer_of stop go m e (cond (ltb (length r) a) (fault Early) (whole (p (take a r)) (drop a r)))) m g s ∙ number_both
      (λ b o. b ≡ span_then stop (λ a e h. answer_of stop go m h (whole (p (between a e s)) (drop e s))) o) (stop Early) _ (Err Early) _ s refl
      (λ v n x e. fits v n (noted m g (flaw_if (not x) Long)) (ltb (length s - n) v) refl))
    where
      fits : (v n : ℕ) (h : Faults) (z : Bool) → ltb (length s - n) v ≡ z
          → answer_of stop go m h (cond (ltb (length (drop n s)) v) (fault Early) (whole (p (take v (drop n s))) (drop v (drop n s))))
          ≡ span_then stop (λ a e h. answer_of stop go m h (whole (p (between a e s)) (drop e s))) (cond z (Err Early) (span n (n + v) h))
      fits v n h true e = rw (length-drop n s, e)
      fits v n h false e = let d : n + v - n ≡ v = omega arith in rw (length-drop n s, e, d, drop-drop v n s)

  -- the law that the sized kinds share
  pub sized_is : {A : Type 0} (go : A → Faults → List ℕ → B) (p : List ℕ → Out A) (l : ℕ → ℕ → Faults → B)
      → ((a e : ℕ) (h : Faults) → Inside a e s → answer_of stop go m h (whole (p (between a e s)) (drop e s)) ≡ l a e h)
      → answer_of stop go m g (sized p s) ≡ span_then stop l (span_at m g s)
  sized_is go p l f = answer_sized go p ∙ span_same _ l f

-- ---- text

module _ {B : Type 0} (stop : Stop → B) (m : Modes) (g : Faults) (s : List ℕ) where
  -- a span's answer with the text looked at
  text_then : (k : ℕ → ℕ → Faults → B) (x : Result Span Stop)
      → span_then stop (λ a e h. k a e (noted m h (flaw_if (not (is_text (between a e s))) NotUtf8))) x ≡ span_then stop k (text_of m s x)
  text_then k (Err j) = refl
  text_then k (Ok p) = refl

  text_same : (k l : ℕ → ℕ → Faults → B) → ((a e : ℕ) (h : Faults) → Inside a e s → k a e h ≡ l a e h)
      → span_then stop k (text_at m g s) ≡ span_then stop l (text_at m g s)
  unfolding text_at
  text_same k l f = sym (text_then k (span_at m g s))
      ∙ (span_same stop m g s _ _ (λ a e h i. f a e (noted m h (flaw_if (not (is_text (between a e s))) NotUtf8)) i) ∙ text_then l (span_at m g s))

  pub text_is : (go : List ℕ → Faults → List ℕ → B) (l : ℕ → ℕ → Faults → B)
      → ((a e : ℕ) (h : Faults) → Inside a e s → go (between a e s) h (drop e s) ≡ l a e h)
      → answer_of stop go m g (read_text s) ≡ span_then stop l (text_at m g s)
  unfolding text_at
  text_is go l f =
      let then : List ℕ → List ℕ → Out (List ℕ) = λ t r. raise (not (is_text t)) NotUtf8 (got t [] r) in
      answer_bind stop go m g (sized rest s) then
      ∙ (sized_is stop m g s (λ t h r. answer_of stop go m h (then t r)) rest (λ a e h. l a e (noted m h (flaw_if (not (is_text (between a e s))) NotUtf8))) one ∙ text_then l (span_at m g s))
    where
      one : (a e : ℕ) (h : Faults) → Inside a e s → answer_of stop go m (noted m h []) (raise (not (is_text (between a e s))) NotUtf8
          (got (between a e s) [] (drop e s))) ≡ l a e (noted m h (flaw_if (not (is_text (between a e s))) NotUtf8))
      one a e h i =
          rw (
            noted_none m h,
            answer_raise stop go m h (not (is_text (between a e s))) NotUtf8 (got (between a e s) [] (drop e s)),
            noted_none m (noted m h (flaw_if (not (is_text (between a e s))) NotUtf8)),
          )
          (f a e (noted m h (flaw_if (not (is_text (between a e s))) NotUtf8)) i)
