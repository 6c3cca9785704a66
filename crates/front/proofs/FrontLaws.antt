-- The pieces of a front, put together, are the definition (`front_is`).
use Rattle.std.specs.Prelude.{Option, None, Some, Result, Err, Ok}
use Prim.Native.Nat.{ℕ, suc, ◌+◌, ◌-◌}
use native.Mathlib.Omega.{arith}
use mathlib.Core.Path.{◌≡◌, refl, sym, ap, ◌∙◌}
use mathlib.Core.List.{List, [], ◌∷◌}
use lib.ListN.{length, drop, length-drop}
use lib.Dec.{eqb}
use Rattle.format.specs.declared.Kind.{Kind}
use Rattle.format.specs.declared.Mark.{Mark}
use Rattle.format.specs.declared.Mark.TheVariants.{OfTop, OfField, OfItem}
use Rattle.format.specs.declared.Form.{Form}
use Rattle.format.specs.declared.Form.TheVariants.{Top, Field, Item, SharedField, SharedItem}
use Rattle.format.specs.declared.Stop.{Stop}
use Rattle.format.specs.declared.Stop.TheVariants.{Unknown}
use Rattle.faults.specs.declared.Modes.{Modes}
use Rattle.faults.specs.declared.Faults.{Faults}
use Rattle.front.specs.declared.Span.{Span}
use Rattle.front.specs.declared.Front.{Front}
use Rattle.format.specs.Kinds.{kind_at}
use Rattle.format.specs.declared.Flaw.TheVariants.{Blank}
use Rattle.format.specs.Parse.{Out, got, bind, raise}
use Rattle.format.specs.Names.{is_empty, read_text, read_name}
use Rattle.format.specs.Payload.{kind_found, read_type, front}
use Rattle.faults.specs.Noted.{noted, flaw_if}
use Rattle.front.specs.Code.{answer_of, front_at}
use Rattle.front.specs.Between.{between}
use Rattle.front.specs.Pieces.{typed_at, text_at, named_of, named_at, plain_of, member_of, front_by, typed_of}
use Rattle.front.specs.Made.{front_read}
use Rattle.faults.proofs.NotedLaws.{noted_none}
use Rattle.front.proofs.AnswerLaws.{answer_raise, answer_bind}
use Rattle.front.proofs.BetweenLaws.{Inside, empty_at, part_length, rest_all}
use Rattle.front.proofs.SpanLaws.{span_then, text_is}

-- ---- before the payload

-- a field's answer, in a part of n bytes
abbrev field_of : ℕ → List ℕ × Kind → Faults → List ℕ → Result Front Stop
field_of n x h r = front_read x.1 (n - length r - length x.0) (n - length r) h

named_then : (k : Kind) (from : ℕ) (m : Modes) (x : Result Span Stop)
    → span_then Err (λ a e h. front_read k (from + a) (from + e) (noted m h (flaw_if (eqb a e) Blank))) x ≡ named_of k from m x
named_then k from m (Err j) = refl
named_then k from m (Ok p) = refl

named_is : (k : Kind) (n from : ℕ) (m : Modes) (g : Faults) (t : List ℕ) → n ≡ from + length t
    → answer_of Err (field_of n) m g (bind (read_name t) λ x q. got (x, k) [] q) ≡ named_of k from m (text_at m g t)
named_is k n from m g t e =
    let kept : List ℕ → List ℕ → Out (List ℕ × Kind) = λ x q. got (x, k) [] q in
    let name : List ℕ → List ℕ → Out (List ℕ) = λ x q. raise (is_empty x) Blank (got x [] q) in
    let whole : List ℕ → Faults → List ℕ → Result Front Stop = λ x h q. answer_of Err (field_of n) m h (kept x q) in
    answer_bind Err (field_of n) m g (read_name t) kept
    ∙ (answer_bind Err whole m g (read_text t) name
    ∙ (text_is Err m g t (λ x h q. answer_of Err whole m h (name x q)) (λ a b h. front_read k (from + a) (from + b) (noted m h (flaw_if (eqb a b) Blank))) one ∙ named_then k from m (text_at m g t)))
  where
    one : (a b : ℕ) (h : Faults) → Inside a b t
        → answer_of Err (λ x h q. answer_of Err (field_of n) m h (got (x, k) [] q)) m h
        (raise (is_empty (between a b t)) Blank (got (between a b t) [] (drop b t))) ≡ front_read k (from + a) (from + b) (noted m h (flaw_if (eqb a b) Blank))
    one a b h i =
        let f = noted m h (flaw_if (eqb a b) Blank) in
        let x : n - length (drop b t) ≡ from + b = rw (length-drop b t) (omega (arith, i.within)) in
        let y : from + b - length (between a b t) ≡ from + a = rw (part_length a b t i) (omega (arith, i.order)) in
        rw (
          answer_raise Err (λ x h q. answer_of Err (field_of n) m h (got (x, k) [] q)) m h (is_empty (between a b t)) Blank
              (got (between a b t) [] (drop b t)),
          empty_at a b t i,
          noted_none m f,
          noted_none m f,
          x,
          y,
        )

type_is : {B : Type 0} (stop : Stop → B) (go : Kind → Faults → List ℕ → B) (m : Modes) (g : Faults) (mark : Mark) (b : ℕ) (t : List ℕ) (l : Result Kind Stop → B)
    → ((k : Stop) → stop k ≡ l (Err k)) → ((k : Kind) → go k g t ≡ l (Ok k)) → answer_of stop go m g (read_type mark (b ∷ t)) ≡ l (typed_at mark (b ∷ t))
unfolding typed_at
type_is stop go m g mark b t l f h = at (kind_at mark b)
  where
    at : (o : Option Kind) → answer_of stop go m g (kind_found o t) ≡ l (typed_of o)
    at None = f Unknown
    at (Some k) = rw (noted_none m g) (h k)

one_less : (n : ℕ) → suc n - n ≡ 1
one_less n = omega arith

plain_is : (m : Modes) (g : Faults) (mark : Mark) (s : List ℕ)
    → answer_of Err (field_of (length s)) m g (bind (read_type mark s) λ k r. got ([], k) [] r) ≡ plain_of g (typed_at mark s)
unfolding typed_at
plain_is m g mark [] = refl
plain_is m g mark (b ∷ t) =
    answer_bind Err (field_of (length (b ∷ t))) m g (read_type mark (b ∷ t)) (λ k r. got ([], k) [] r)
    ∙ type_is Err (λ k e r. answer_of Err (field_of (length (b ∷ t))) m e (got ([], k) [] r)) m g mark b t (plain_of g) (λ k. refl) (λ k. rw (noted_none m g, one_less (length t)))

pub front_is : (f : Form) (m : Modes) (g : Faults) (s : List ℕ) → front_at f m g s ≡ front_by f m g s
unfolding front_at front named_at typed_at
front_is Top m g s = plain_is m g OfTop s
front_is Item m g s = plain_is m g OfItem s
front_is (SharedItem k) m g s = let z : length s - length s ≡ 0 = omega arith in rw (noted_none m g, z)
front_is (SharedField k) m g s = named_is k (length s) 0 m g s (omega arith) ∙ ap (λ t. named_of k 0 m (text_at m g t)) (sym (rest_all 0 s))
front_is Field m g [] = refl
front_is Field m g (b ∷ t) =
    let go : List ℕ × Kind → Faults → List ℕ → Result Front Stop = field_of (suc (length t)) in
    let name : Kind → List ℕ → Out (List ℕ × Kind) = λ k r. bind (read_name r) λ x q. got (x, k) [] q in
    answer_bind Err go m g (read_type OfField (b ∷ t)) name
    ∙ type_is Err (λ k h r. answer_of Err go m h (name k r)) m g OfField b t (member_of m g (b ∷ t)) (λ k. refl)
    (λ k. named_is k (suc (length t)) 1 m g t (omega arith) ∙ ap (λ t. named_of k 1 m (text_at m g t)) (sym (rest_all 1 (b ∷ t))))
