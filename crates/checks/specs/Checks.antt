-- What the code answers of a field, and of the contents of a container, with the depth that is left. Of a field: its kind and its end in
-- the part that was lent; of contents: that they fill their part.
use Rattle.std.specs.Prelude.{ℕ, ◌-◌, Bool, false, List, [], length, Result, Err, Ok}
use Rattle.format.specs.declared.Form.{Form}
use Rattle.format.specs.declared.Stop.{Stop}
use Rattle.faults.specs.declared.Modes.{Modes}
use Rattle.faults.specs.declared.Faults.{Faults}
use Rattle.format.specs.Parse.{whole}
use Rattle.format.specs.Payload.{Head}
use Rattle.format.specs.Reader.{read, contents}
use Rattle.front.specs.Code.{answer_of}
use Rattle.contents.specs.declared.Field.{Field}
use Rattle.contents.specs.Made.{field_read}

-- what is asked, if names are not
abbrev pub namelessly : Bool → Modes
namelessly format = record { names = false; format = format }

unfoldable pub field_at : Form → Modes → ℕ → Faults → List ℕ → Result Field Stop
field_at f m d g s = answer_of Err (λ x h r. field_read x.1.0 (length s - length r) h) m g (read d f s)

unfoldable pub contents_at : Head → Modes → ℕ → Faults → Result Faults Stop
contents_at x m d g = answer_of Err (λ t h r. Ok h) m g (whole (contents (read d) x) [])
