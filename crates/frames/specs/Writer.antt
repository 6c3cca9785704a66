-- The writer's answer, and what the output and the work numbers hold afterwards (document 01, "The write list").
use Rattle.std.specs.Prelude.{ℕ, ◌-◌, ◌||◌, cond, List, ◌++◌, length, drop, replicate, ltb, Result, Ok, Err}
use Rattle.frames.specs.declared.Refusal.{Refusal}
use Rattle.frames.specs.declared.Refusal.TheVariants.{ListEnds, BadFrame, EmptyName, NameUsed, NotText, TooDeep, NoneOpen, Complete, ListTooLong}
use Rattle.frames.specs.declared.Refusal.TheVariants.{FewWorkNumbers, EncodingTooLong}
use Rattle.frames.specs.declared.Refused.{Refused}
use Rattle.format.specs.Limits.{depth_limit, length_limit}
use Rattle.format.specs.Tree.{Tree}
use Rattle.format.specs.Encoding.{encoding, sizes_of}
use Rattle.frames.specs.WriteList.{Frames, refused, framed, read_list}

abbrev pub refusal_number : Refusal → ℕ
refusal_number ListEnds = 1
refusal_number BadFrame = 2
refusal_number EmptyName = 3
refusal_number NameUsed = 4
refusal_number NotText = 5
refusal_number TooDeep = 6
refusal_number NoneOpen = 7
refusal_number Complete = 8
refusal_number ListTooLong = 9
refusal_number FewWorkNumbers = 10
refusal_number EncodingTooLong = 11

-- a refusal and its place, or the encoding and the sizes of its containers
pub data Outcome : Type 0 where
  refuse : Refusal → ℕ → Outcome
  wrote : List ℕ → List ℕ → Outcome

-- `room` bytes and `numbers` work numbers are lent
abbrev pub outcome_of : ℕ → ℕ → List ℕ → List ℕ → Outcome
outcome_of room numbers e z =
    cond (ltb numbers (length z)) (refuse FewWorkNumbers 0)
    (cond (ltb room (length e) || ltb length_limit (length e)) (refuse EncodingTooLong 0)
    (wrote e z))

abbrev pub outcome_after : (d : ℕ) → ℕ → ℕ → List ℕ → Frames (Tree d) → Outcome
outcome_after d room numbers list (refused n r) = refuse n (length list - length r)
outcome_after d room numbers list (framed t r) = outcome_of room numbers (encoding d t) (sizes_of d t)

unfoldable pub outcome : ℕ → ℕ → List ℕ → Outcome
outcome room numbers list = cond (ltb length_limit (length list)) (refuse ListTooLong 0) (outcome_after depth_limit room numbers list (read_list depth_limit list))

-- a refusal and its place, alone and as an answer
abbrev pub refusal_at : Refusal → ℕ → Refused
refusal_at n p = record { refusal = n; place = p }

abbrev pub refused_at : {A : Type 0} → Refusal → ℕ → Result A Refused
refused_at n p = Err (refusal_at n p)

-- the answer, and both buffers afterwards
pub record Afterwards : Type 0 where
  pub answer : Result ℕ Refused
  pub output : List ℕ
  pub work : List ℕ

abbrev pub zeros : ℕ → List ℕ
zeros n = replicate n 0

-- a refusal leaves the output and zeroes all work numbers; success leaves what is past the encoding, and zeroes the work numbers past the containers
abbrev pub result_of : Outcome → List ℕ → List ℕ → Afterwards
result_of (refuse n p) output work = record { answer = refused_at n p; output = output; work = zeros (length work) }
result_of (wrote e z) output work = record { answer = Ok (length e); output = e ++ drop (length e) output; work = z ++ zeros (length work - length z) }

unfoldable pub written : List ℕ → List ℕ → List ℕ → Afterwards
written list output work = result_of (outcome (length output) (length work) list) output work
