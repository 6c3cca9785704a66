-- What the code answers, of the definitions' readers: positions in the part that was lent for what is left, and the flaws as faults keeps them.
use Rattle.std.specs.Prelude.{ℕ, ◌-◌, List, length, Result, Err}
use Rattle.format.specs.declared.Form.{Form}
use Rattle.format.specs.declared.Stop.{Stop}
use Rattle.faults.specs.declared.Modes.{Modes}
use Rattle.faults.specs.declared.Faults.{Faults}
use Rattle.format.specs.Parse.{Out, fault, got}
use Rattle.faults.specs.Noted.{noted}
use Rattle.format.specs.Payload.{front}
use Rattle.front.specs.declared.Front.{Front}
use Rattle.front.specs.Made.{front_read}

-- ---- an answer by what was read

abbrev pub answer_of : {A B : Type 0} → (Stop → B) → (A → Faults → List ℕ → B) → Modes → Faults → Out A → B
answer_of stop go m g (fault k) = stop k
answer_of stop go m g (got a fs r) = go a (noted m g fs) r

-- what stands before a payload
unfoldable pub front_at : Form → Modes → Faults → List ℕ → Result Front Stop
front_at f m g s = answer_of Err (λ x h r. front_read x.1 (length s - length r - length x.0) (length s - length r) h) m g (front f s)
