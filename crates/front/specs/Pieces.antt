-- The pieces that the code of a front is made of, each by the answers of those before it. Nothing here has to be believed: proofs/FrontLaws.antt shows
-- that together they are `front_at`.
use Rattle.std.specs.Prelude.{ℕ, ◌+◌, ◌-◌, not, cond, List, [], ◌∷◌, length, eqb, ltb, Option, None, Some, Result, Err, Ok}
use Rattle.number.specs.VarUInt.{var_uint, number_then}
use Rattle.text.specs.Utf8.{is_text}
use Rattle.format.specs.declared.Kind.{Kind}
use Rattle.format.specs.declared.Mark.{Mark}
use Rattle.format.specs.declared.Mark.TheVariants.{OfTop, OfField, OfItem}
use Rattle.format.specs.declared.Form.{Form}
use Rattle.format.specs.declared.Form.TheVariants.{Top, Field, Item, SharedField, SharedItem}
use Rattle.format.specs.declared.Stop.{Stop}
use Rattle.format.specs.declared.Stop.TheVariants.{Early, Unknown}
use Rattle.faults.specs.declared.Modes.{Modes}
use Rattle.faults.specs.declared.Faults.{Faults}
use Rattle.front.specs.declared.Span.{Span}
use Rattle.front.specs.declared.Front.{Front}
use Rattle.format.specs.Kinds.{kind_at}
use Rattle.format.specs.declared.Flaw.TheVariants.{Blank, Long, NotUtf8}
use Rattle.faults.specs.Noted.{noted, flaw_if}
use Rattle.front.specs.Between.{between}
use Rattle.front.specs.Made.{span, front_read}
use Rattle.number.specs.declared.VarUInt.{VarUInt}
use Rattle.number.specs.declared.Cut.{Cut}

-- ---- before the payload

abbrev pub typed_of : Option Kind → Result Kind Stop
typed_of None = Err Unknown
typed_of (Some k) = Ok k

unfoldable pub typed_at : Mark → List ℕ → Result Kind Stop
typed_at m [] = Err Early
typed_at m (b ∷ s) = typed_of (kind_at m b)

-- a size, and where the bytes are that it counts
abbrev pub span_of : Modes → Faults → ℕ → Result VarUInt Cut → Result Span Stop
span_of m g e o = number_then (Err Early) (λ v n x. cond (ltb (e - n) v) (Err Early) (span n (n + v) (noted m g (flaw_if (not x) Long)))) o

unfoldable pub span_at : Modes → Faults → List ℕ → Result Span Stop
span_at m g s = span_of m g (length s) (var_uint s)

-- a size and text
abbrev pub text_of : Modes → List ℕ → Result Span Stop → Result Span Stop
text_of m s (Err k) = Err k
text_of m s (Ok p) = span p.begin p.end (noted m p.faults (flaw_if (not (is_text (between p.begin p.end s))) NotUtf8))

unfoldable pub text_at : Modes → Faults → List ℕ → Result Span Stop
text_at m g s = text_of m s (span_at m g s)

-- a name from `from` on, and then the payload
abbrev pub named_of : Kind → ℕ → Modes → Result Span Stop → Result Front Stop
named_of k from m (Err j) = Err j
named_of k from m (Ok p) = front_read k (from + p.begin) (from + p.end) (noted m p.faults (flaw_if (eqb p.begin p.end) Blank))

unfoldable pub named_at : Kind → ℕ → Modes → Faults → List ℕ → Result Front Stop
named_at k from m g s = named_of k from m (text_at m g (between from (length s) s))

abbrev pub plain_of : Faults → Result Kind Stop → Result Front Stop
plain_of g (Err j) = Err j
plain_of g (Ok k) = front_read k 1 1 g

abbrev pub member_of : Modes → Faults → List ℕ → Result Kind Stop → Result Front Stop
member_of m g s (Err j) = Err j
member_of m g s (Ok k) = named_at k 1 m g s

abbrev pub front_by : Form → Modes → Faults → List ℕ → Result Front Stop
front_by Top m g s = plain_of g (typed_at OfTop s)
front_by Field m g s = member_of m g s (typed_at OfField s)
front_by Item m g s = plain_of g (typed_at OfItem s)
front_by (SharedField k) m g s = named_at k 0 m g s
front_by (SharedItem k) m g s = front_read k 0 0 g
