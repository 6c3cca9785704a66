-- The whole first pass: what it answers of a list, and what the work numbers hold then.
use Rattle.std.specs.Prelude.{ℕ, ◌-◌, cond, List, [], ◌++◌, length, ltb, Result}
use Rattle.frames.specs.declared.Refusal.TheVariants.{ListTooLong}
use Rattle.frames.specs.declared.Refused.{Refused}
use Rattle.format.specs.Limits.{depth_limit, length_limit}
use Rattle.format.specs.Kinds.{id}
use Rattle.format.specs.Tree.{Tree}
use Rattle.format.specs.Encoding.{kind_of, encoding, sizes_of}
use Rattle.frames.specs.WriteList.{Frames, refused, framed, read_list}
use Rattle.frames.specs.Writer.{Outcome, refuse, wrote, outcome_of, zeros, refused_at}
use Rattle.frames.specs.Container.{packs_of}
use Rattle.settle.specs.declared.Settled.{Settled}
use Rattle.settle.specs.Made.{ready}

pub record Measurement : Type 0 where
  pub answer : Result Settled Refused
  pub work : List ℕ

abbrev pub measurement : Result Settled Refused → List ℕ → Measurement
measurement a w = record { answer = a; work = w }

-- what is to be written has the ID i, and its containers have the numbers ps. After a refusal the `numbers` work numbers are zero
abbrev pub settled_by : ℕ → ℕ → List ℕ → Outcome → Measurement
settled_by numbers i ps (refuse n p) = measurement (refused_at n p) (zeros numbers)
settled_by numbers i ps (wrote e z) = measurement (ready i (length e)) (ps ++ zeros (numbers - length ps))

abbrev pub settled_after : (d : ℕ) → ℕ → ℕ → List ℕ → Frames (Tree d) → Measurement
settled_after d room numbers list (refused n r) = settled_by numbers 0 [] (refuse n (length list - length r))
settled_after d room numbers list (framed t r) = settled_by numbers (id (kind_of d t)) (packs_of d t) (outcome_of room numbers (encoding d t) (sizes_of d t))

-- a list that is not too long
unfoldable pub settled_within : ℕ → List ℕ → ℕ → List ℕ → Measurement
settled_within d list room work = settled_after d room (length work) list (read_list d list)

-- any list; the output has `room` bytes
unfoldable pub settled : List ℕ → ℕ → List ℕ → Measurement
settled list room work = cond (ltb length_limit (length list)) (settled_by (length work) 0 [] (refuse ListTooLong 0)) (settled_within depth_limit list room work)
