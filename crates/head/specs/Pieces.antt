-- The pieces that the code of a head is made of, each by the answers of those before it. Nothing here has to be believed: proofs/HeadLaws.antt shows that
-- together they are `head_at`.
use Rattle.std.specs.Prelude.{ℕ, ◌+◌, ◌-◌, not, cond, List, [], ◌∷◌, drop, ltb, Option, None, Some, Result, Ok, Err}
use Rattle.number.specs.VarUInt.{var_uint, number_then}
use Rattle.format.specs.declared.Kind.{Kind}
use Rattle.format.specs.declared.Mark.TheVariants.{SharedByFields, SharedByItems}
use Rattle.format.specs.declared.Form.TheVariants.{Field, Item, SharedField, SharedItem}
use Rattle.format.specs.declared.Stop.{Stop}
use Rattle.format.specs.declared.Stop.TheVariants.{Early, Unknown, BadUniform}
use Rattle.faults.specs.declared.Modes.{Modes}
use Rattle.faults.specs.declared.Faults.{Faults}
use Rattle.format.specs.declared.Class.{Class}
use Rattle.format.specs.declared.Class.TheVariants as C
use Rattle.format.specs.declared.Inner.{Inner}
use Rattle.format.specs.declared.Inner.TheVariants as I
use Rattle.format.specs.Kinds.{kind_at, is_bare}
use Rattle.format.specs.declared.Flaw.TheVariants.{Long, Wide}
use Rattle.faults.specs.Noted.{noted, flaw_if}
use Rattle.front.specs.Between.{between}
use Rattle.front.specs.Pieces.{span_at, text_at}
use Rattle.format.specs.Payload.{class_of}
use Rattle.leaves.specs.Pieces.{double_at, fixed_at, id_of, leaf_of, name_of, negative_of, positive_of}
use Rattle.leaves.specs.declared.Heading.TheVariants as H
use Rattle.leaves.specs.declared.Heading.{Heading}
use Rattle.number.specs.declared.VarUInt.{VarUInt}
use Rattle.number.specs.declared.Cut.{Cut}
use Rattle.front.specs.declared.Span.{Span}

-- ---- the payload, by its class

-- how many bytes a payload has by its kind, whatever they are; 0 for the other kinds, and for 01, 0C and 0D
abbrev pub fixed_in : Class → ℕ
fixed_in (C.Fixed n) = n
fixed_in C.Text = 0
fixed_in C.Positive = 0
fixed_in C.Negative = 0
fixed_in C.Wide = 0
fixed_in (C.Behind i) = 0

abbrev pub fixed_size : Kind → ℕ
fixed_size k = fixed_in (class_of k)

-- behind a size: an array's count
abbrev pub count_of : Modes → Faults → ℕ → ℕ → Result VarUInt Cut → Result Heading Stop
count_of m g a e o = number_then (Err Early) (λ v n x. Ok (H.Items Item v (a + n) e (noted m g (flaw_if (not x) Long)))) o

-- behind a size: a shared byte, and a field behind it
abbrev pub shared_field_of : Faults → ℕ → ℕ → Option Kind → Result Heading Stop
shared_field_of g a e None = Err Unknown
shared_field_of g a e (Some k) = cond (ltb (e - a) 2) (Err BadUniform) (Ok (H.Fields (SharedField k) (a + 1) e g))

abbrev pub shared_fields_of : Faults → ℕ → ℕ → List ℕ → Result Heading Stop
shared_fields_of g a e [] = Err Early
shared_fields_of g a e (b ∷ t) = shared_field_of g a e (kind_at SharedByFields b)

-- behind a size: a count, and a shared byte at `at`
abbrev pub shared_item_of : Faults → ℕ → ℕ → ℕ → Option Kind → Result Heading Stop
shared_item_of g n at e None = Err Unknown
shared_item_of g n at e (Some k) = cond (ltb n 1) (Err BadUniform) (cond (is_bare k) (Err BadUniform) (Ok (H.Items (SharedItem k) n (at + 1) e g)))

abbrev pub shared_items_of : Faults → ℕ → ℕ → ℕ → List ℕ → Result Heading Stop
shared_items_of g n at e [] = Err Early
shared_items_of g n at e (b ∷ t) = shared_item_of g n at e (kind_at SharedByItems b)

abbrev pub shared_count_of : Modes → Faults → ℕ → ℕ → List ℕ → Result VarUInt Cut → Result Heading Stop
shared_count_of m g a e t o =
    number_then (Err Early) (λ v n x. shared_items_of (noted m g (flaw_if (not x) Long)) v (a + n) e (drop n t)) o

-- a size read, what stands behind it
abbrev pub inside_of : Inner → Modes → List ℕ → Result Span Stop → Result Heading Stop
inside_of c m s (Err j) = Err j
inside_of I.Bytes m s (Ok p) = Ok (H.Leaf p.end p.faults)
inside_of I.ById m s (Ok p) = id_of m p.faults p.end (var_uint (between p.begin p.end s))
inside_of I.ByName m s (Ok p) = name_of p.end (text_at m p.faults (between p.begin p.end s))
inside_of I.Fields m s (Ok p) = Ok (H.Fields Field p.begin p.end p.faults)
inside_of I.SharedFields m s (Ok p) = shared_fields_of p.faults p.begin p.end (between p.begin p.end s)
inside_of I.Items m s (Ok p) = count_of m p.faults p.begin p.end (var_uint (between p.begin p.end s))
inside_of I.SharedItems m s (Ok p) = shared_count_of m p.faults p.begin p.end (between p.begin p.end s) (var_uint (between p.begin p.end s))

abbrev pub head_by : Class → Modes → Faults → List ℕ → Result Heading Stop
head_by (C.Fixed n) m g s = fixed_at n g s
head_by C.Text m g s = leaf_of (text_at m g s)
head_by C.Positive m g s = positive_of m g (var_uint s)
head_by C.Negative m g s = negative_of m g (var_uint s)
head_by C.Wide m g s = double_at m g s
head_by (C.Behind i) m g s = inside_of i m s (span_at m g s)
