-- A frame up to its payload, by a position of the list: what stands before its payload is frames' `frame_front`.
use Rattle.std.specs.Prelude.{ℕ, zero, suc, ◌-◌, Bool, List, [], length, drop, Result, Err}
use Rattle.format.specs.declared.Kind.{Kind}
use Rattle.frames.specs.declared.Refusal.TheVariants.{TooDeep}
use Rattle.frames.specs.declared.Refusal.{Refusal}
use Rattle.frames.specs.WriteList.{Frames, refused, framed}
use Rattle.frames.specs.FramePieces.{mode_of, frame_front}
use Rattle.frame.specs.declared.Frame.{Frame}
use Rattle.frame.specs.Made.{frame_read}

abbrev pub front_met : ℕ → Frames (List ℕ × Kind) → Result Frame Refusal
front_met total (refused n r) = Err n
front_met total (framed x r) = frame_read x.1 (total - length r - length x.0) (total - length r)

-- with d levels left
abbrev pub front_by : ℕ → ℕ → Frames (List ℕ × Kind) → Result Frame Refusal
front_by zero total o = Err TooDeep
front_by (suc d) total o = front_met total o

-- whatever names were used
unfoldable pub front_at : ℕ → List ℕ → ℕ → Bool → Result Frame Refusal
front_at d s at named = front_by d (length s) (frame_front (mode_of named []) (drop at s))
