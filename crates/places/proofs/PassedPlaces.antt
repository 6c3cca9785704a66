-- A place that passes its check: where it lies, and the kind whose payload it is.
use Rattle.std.specs.Prelude.{Some, Option, None}
use Prim.Native.Nat.{ℕ, ◌≤◌}
use native.Mathlib.Omega.{arith}
use mathlib.Core.Path.{◌≡◌, refl, sym, ap, ◌∙◌}
use mathlib.Core.Bool.{Bool, true, false, ◌||◌, cond}
use mathlib.Core.List.{List, [], ◌++◌, append_assoc}
use lib.ListN.{length, take, drop, take-append-drop}
use lib.Seq.{slice, take-take, length-take-le}
use lib.Dec.{eqb, ltb}
use borrow.Author.Tests.{le-ltb, ltb-false, ne_eqb}
use Rattle.format.specs.declared.Kind.{Kind}
use Rattle.format.specs.declared.Stop.TheVariants.{Early, TooDeep, TooLong}
use Rattle.places.specs.declared.Place.{Place}
use Rattle.format.specs.Limits.{depth_limit, length_limit}
use Rattle.format.specs.Kinds.{id, known}
use Rattle.format.specs.declared.Flaw.{Flaw}
use Rattle.format.specs.Parse.{fault, got}
use Rattle.format.specs.Payload.{Head, head}
use Rattle.places.specs.Places.{payload_at, check}
use Rattle.format.proofs.Back.{never}
use Rattle.format.proofs.KindLaws.{known_inv}
use Rattle.format.proofs.Local.{whole_got}
use Rattle.places.proofs.Parts.{Part}

-- ---- the check

pub record Passed (s : List ℕ) (p : Place) (h : Head) (fs : List Flaw) : Type 0 where
  pub short : length s ≤ length_limit
  pub order : p.start ≤ p.end
  pub inside : p.end ≤ length s
  pub kind : Kind
  pub is_known : known p.kind ≡ Some kind
  pub coded : p.kind ≡ id kind
  pub header : head kind (slice p.start p.end s) ≡ got h fs []

pub check_passed : (s : List ℕ) (p : Place) {h : Head} {fs : List Flaw} {r : List ℕ} → check s p ≡ got h fs r → Passed s p h fs
unfolding check
check_passed s p {h} {fs} {r} e =
    at (ltb length_limit (length s)) refl (ltb p.end p.start) refl (ltb (length s) p.end) refl
    (eqb p.depth 0 || ltb depth_limit p.depth) (known p.kind) refl e
  where
    at : (b₁ : Bool) → ltb length_limit (length s) ≡ b₁ → (b₂ : Bool) → ltb p.end p.start ≡ b₂ → (b₃ : Bool) → ltb (length s) p.end ≡ b₃
        → (b₄ : Bool) (w : Option Kind) → known p.kind ≡ w
        → cond b₁ (fault TooLong) (cond (b₂ || b₃) (fault Early) (cond b₄ (fault TooDeep) (payload_at w (slice p.start p.end s)))) ≡ got h fs r
        → Passed s p h fs
    at true e₁ b₂ e₂ b₃ e₃ b₄ w i e = never e
    at false e₁ true e₂ b₃ e₃ b₄ w i e = never e
    at false e₁ false e₂ true e₃ b₄ w i e = never e
    at false e₁ false e₂ false e₃ true w i e = never e
    at false e₁ false e₂ false e₃ false None i e = never e
    at false e₁ false e₂ false e₃ false (Some k) i e = whole_got (head k (slice p.start p.end s)) [] e λ j _. record {
      short = ltb-false length_limit (length s) e₁;
      order = ltb-false p.end p.start e₂;
      inside = ltb-false (length s) p.end e₃;
      kind = k;
      is_known = i;
      coded = known_inv p.kind k i;
      header = j;
    }

-- behind the tests of where it lies, the payload is left
pub check_within : (s : List ℕ) (p : Place) → length s ≤ length_limit → p.start ≤ p.end → p.end ≤ length s → (p.depth ≡ 0 → ⊥) → p.depth ≤ depth_limit
    → check s p ≡ payload_at (known p.kind) (slice p.start p.end s)
unfolding check
check_within s p short order inside some within = rw (
  le-ltb length_limit (length s) short,
  le-ltb p.end p.start order,
  le-ltb (length s) p.end inside,
  ne_eqb p.depth 0 some,
  le-ltb depth_limit p.depth within,
)

pub slice_part : (s : List ℕ) (a e : ℕ) → a ≤ e → e ≤ length s → Part s a (slice a e s)
slice_part s a e h k = record {
  pre = take a s;
  post = drop e s;
  joined = sym (
      sym (append_assoc (take a s) (slice a e s) (drop e s))
      ∙ ap (λ t. (t ++ slice a e s) ++ drop e s) (sym (take-take a e s h))
      ∙ ap (λ t. t ++ drop e s) (take-append-drop a (take e s))
      ∙ take-append-drop e s
      );
  place = length-take-le a s (omega arith);
}
