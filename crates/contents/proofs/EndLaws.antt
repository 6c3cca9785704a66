-- Where names are not asked about, equal ones do not matter to the end of an object.
use Prim.Native.Nat.{ℕ}
use mathlib.Core.Path.{◌≡◌, sym, ◌∙◌}
use mathlib.Core.Bool.{Bool, true, false, ◌&&◌}
use Rattle.format.specs.declared.Form.{Form}
use Rattle.format.specs.declared.Flaw.TheVariants.{Twin, NotUniform}
use Rattle.format.specs.Reader.{is_typed}
use Rattle.faults.specs.declared.Modes.{Modes}
use Rattle.faults.specs.declared.Faults.{Faults}
use Rattle.faults.specs.Noted.{noted, flaw_if}
use Rattle.faults.proofs.NotedLaws.{unasked}
use Rattle.run.specs.Run.{uniform}
use Rattle.contents.specs.Contents.{object_end}

pub object_unasked : (f : Form) (m : Modes) (h : Faults) (u : ℕ) (a b : Bool) → m.names ≡ false → object_end f m h u a ≡ object_end f m h u b
unfolding object_end
object_unasked f m h u a b e =
    let v : Faults = noted m h (flaw_if (is_typed f && uniform true u) NotUniform) in
    unasked m v a Twin e ∙ sym (unasked m v b Twin e)
