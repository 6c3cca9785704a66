-- What is said of the contents of a container: of the fields of an object and of the items of an array together.
use Rattle.std.specs.Prelude.{ℕ, ◌/◌, ◌%◌, Bool, true, false, ◌&&◌, cond, eqb, ltb, Result, Err, Ok}
use Rattle.format.specs.declared.Kind.{Kind}
use Rattle.format.specs.declared.Form.{Form}
use Rattle.format.specs.declared.Form.TheVariants as G
use Rattle.format.specs.declared.Stop.TheVariants.{Early, TooDeep}
use Rattle.faults.specs.declared.Modes.{Modes}
use Rattle.faults.specs.declared.Faults.{Faults}
use Rattle.format.specs.declared.Flaw.TheVariants.{Twin, NotUniform}
use Rattle.format.specs.declared.Stop.{Stop}
use Rattle.format.specs.Reader.{is_typed}
use Rattle.head.specs.Pieces.{fixed_size}
use Rattle.faults.specs.Noted.{noted, flaw_if}
use Rattle.contents.specs.declared.Field.{Field}
use Rattle.contents.specs.Made.{field_read}
use Rattle.run.specs.Run.{uniform}

-- a container of which the contents were checked
abbrev pub closed : Kind → ℕ → Result Faults Stop → Result Field Stop
closed k e (Err j) = Err j
closed k e (Ok h) = field_read k e h

-- ---- the fields of an object, the items of an array, together

-- b: two of the names are equal
unfoldable pub object_end : Form → Modes → Faults → ℕ → Bool → Faults
object_end f m h u b = noted m (noted m h (flaw_if (is_typed f && uniform true u) NotUniform)) (flaw_if b Twin)

unfoldable pub array_end : Form → Modes → Faults → ℕ → Faults
array_end f m h u = noted m h (flaw_if (is_typed f && uniform false u) NotUniform)

-- ---- items of which the kind tells the size

abbrev pub item_size : Form → ℕ
item_size G.Top = 0
item_size G.Field = 0
item_size G.Item = 0
item_size (G.SharedField k) = 0
item_size (G.SharedItem k) = fixed_size k

-- n of them, of z bytes each, in l bytes, with the depth d left: an item is met at its depth before its bytes are looked for. A size of 0 is refused
abbrev pub sized_items : ℕ → ℕ → ℕ → Faults → ℕ → Result Faults Stop
sized_items n z d g l =
    cond (eqb d 0 && ltb 0 n) (Err TooDeep)
    (cond (eqb z 0) (Err Early)
    (cond (eqb (l % z) 0 && eqb (l / z) n) (Ok g) (Err Early)))
