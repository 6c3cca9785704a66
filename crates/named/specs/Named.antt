-- What the code answers of a field with its name, and of the notes once the name is among them. Nothing here has to be believed: no public contract cites it.
use Rattle.std.specs.Prelude.{ℕ, ◌+◌, ◌≡◌, cond, List, length, eqb, Result, Err, Ok}
use Rattle.format.specs.declared.Form.{Form}
use Rattle.format.specs.declared.Stop.{Stop}
use Rattle.faults.specs.declared.Modes.{Modes}
use Rattle.faults.specs.declared.Faults.{Faults}
use Rattle.head.specs.Code.{meet_at}
use Rattle.head.specs.declared.Met.TheVariants as M
use Rattle.head.specs.declared.Met.{Met}
use Rattle.entries.specs.Entry.{entry_of}
use Rattle.notes.specs.declared.Notes.{Notes}
use Rattle.notes.specs.Notes.{Noting, noting, added}
use Rattle.checks.specs.Checks.{field_at}
use Rattle.contents.specs.declared.Field.{Field}
use Rattle.contents.specs.Made.{field_read}
use Rattle.named.specs.declared.Named.{Named}
use Rattle.named.specs.Made.{named_read}

-- where the name of what was met begins, and where its payload starts
abbrev pub name_in : Result Met Stop → ℕ
name_in (Err j) = 0
name_in (Ok (M.Leaf k a b e h)) = a
name_in (Ok (M.Fields k a b f c e h)) = a
name_in (Ok (M.Items k a b f n c e h)) = a

abbrev pub start_in : Result Met Stop → ℕ
start_in (Err j) = 0
start_in (Ok (M.Leaf k a b e h)) = b
start_in (Ok (M.Fields k a b f c e h)) = b
start_in (Ok (M.Items k a b f n c e h)) = b

abbrev pub named_by : ℕ → ℕ → Result Field Stop → Result Named Stop
named_by a b (Err j) = Err j
named_by a b (Ok p) = named_read p.kind p.end p.faults a b

unfoldable pub named_at : Form → Modes → ℕ → Faults → List ℕ → Result Named Stop
named_at f m d g s = named_by (name_in (meet_at f m g s)) (start_in (meet_at f m g s)) (field_at f m d g s)

abbrev pub field_in : Result Named Stop → Result Field Stop
field_in (Err j) = Err j
field_in (Ok p) = field_read p.kind p.end p.faults

-- the notes with the name from a to b of a field at a position that took e bytes
abbrev pub noted_at : List ℕ → List ℕ → Notes → ℕ → ℕ → ℕ → ℕ → Noting
noted_at s t n at a b e = cond (eqb e 0) (noting n t) (added s t n (entry_of s (at + a) (at + b)))

-- a table that was lent is as long as before
pub record Kept (t t' : List ℕ) : Type 0 where
  pub is : length t' ≡ length t
