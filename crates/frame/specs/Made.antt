-- What was read of a frame, as an answer: a name; what stands before a payload; a leaf.
use Rattle.std.specs.Prelude.{ℕ, Result, Ok}
use Rattle.format.specs.declared.Kind.{Kind}
use Rattle.frames.specs.declared.Refusal.{Refusal}
use Rattle.frame.specs.declared.Name.{Name}
use Rattle.frame.specs.declared.Frame.{Frame}
use Rattle.frame.specs.declared.LeafFrame.{LeafFrame}

abbrev pub name_read : ℕ → ℕ → Result Name Refusal
name_read b e = Ok (record { begin = b; end = e })

abbrev pub frame_read : Kind → ℕ → ℕ → Result Frame Refusal
frame_read k b a = Ok (record { kind = k; begin = b; start = a })

abbrev pub leaf_read : ℕ → ℕ → ℕ → Result LeafFrame Refusal
leaf_read e i z = Ok (record { end = e; id = i; size = z })
