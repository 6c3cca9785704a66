-- What the code answers of a leaf: where it ends, and the faults met. Nothing here has to be believed: head's proofs/HeadLaws.antt shows that it is `head_at`.
use Rattle.std.specs.Prelude.{ℕ, ◌^◌, not, cond, List, length, take, ltb, Result, Ok, Err}
use Rattle.number.specs.BigEndian.{from_bytes}
use Rattle.float.specs.Rule.{holds}
use Rattle.format.specs.declared.Stop.{Stop}
use Rattle.format.specs.declared.Stop.TheVariants.{Early}
use Rattle.faults.specs.declared.Modes.{Modes}
use Rattle.faults.specs.declared.Faults.{Faults}
use Rattle.format.specs.declared.Flaw.TheVariants.{Long, Low, Wide}
use Rattle.faults.specs.Noted.{noted, flaw_if}
use Rattle.number.specs.VarUInt.{number_then}
use Rattle.number.specs.declared.VarUInt.{VarUInt}
use Rattle.number.specs.declared.Cut.{Cut}
use Rattle.front.specs.declared.Span.{Span}
use Rattle.leaves.specs.declared.Heading.TheVariants as H
use Rattle.leaves.specs.declared.Heading.{Heading}

unfoldable pub fixed_at : ℕ → Faults → List ℕ → Result Heading Stop
fixed_at n g s = cond (ltb (length s) n) (Err Early) (Ok (H.Leaf n g))

-- a VarUInt: where it ends
abbrev pub positive_of : Modes → Faults → Result VarUInt Cut → Result Heading Stop
positive_of m g o = number_then (Err Early) (λ v n x. Ok (H.Leaf n (noted m g (flaw_if (not x) Long)))) o

abbrev pub negative_of : Modes → Faults → Result VarUInt Cut → Result Heading Stop
negative_of m g o =
    number_then (Err Early) (λ v n x. Ok (H.Leaf n (noted m (noted m g (flaw_if (not x) Long)) (flaw_if (not (ltb v (2 ^ 63))) Low)))) o

abbrev pub double_at : Modes → Faults → List ℕ → Result Heading Stop
double_at m g s = cond (ltb (length s) 8) (Err Early) (Ok (H.Leaf 8 (noted m g (flaw_if (holds (from_bytes (take 8 s))) Wide))))

-- a leaf behind its size
abbrev pub leaf_of : Result Span Stop → Result Heading Stop
leaf_of (Err j) = Err j
leaf_of (Ok p) = Ok (H.Leaf p.end p.faults)

-- behind a size: a custom's id, or its name
abbrev pub id_of : Modes → Faults → ℕ → Result VarUInt Cut → Result Heading Stop
id_of m g e o = number_then (Err Early) (λ v n x. Ok (H.Leaf e (noted m g (flaw_if (not x) Long)))) o

abbrev pub name_of : ℕ → Result Span Stop → Result Heading Stop
name_of e (Err j) = Err j
name_of e (Ok p) = Ok (H.Leaf e p.faults)
