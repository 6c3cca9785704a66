-- No second answer, for what is said of the contents of a container.
use Rattle.std.specs.Prelude.{Result}
use Prim.Native.Nat.{ℕ}
use mathlib.Core.Bool.{Bool}
use Rattle.number.proofs.OneAnswer.{One, one}
use Rattle.format.specs.declared.Kind.{Kind}
use Rattle.format.specs.declared.Form.{Form}
use Rattle.format.specs.declared.Stop.{Stop}
use Rattle.faults.specs.declared.Modes.{Modes}
use Rattle.faults.specs.declared.Faults.{Faults}
use Rattle.contents.specs.Contents.{closed, object_end, array_end, item_size, sized_items}

pub close_one : (kind : Kind) (end : ℕ) (contents : Result Faults Stop) → One (closed kind end contents)
close_one kind end contents = one (closed kind end contents)

module _ (form : Form) where
  pub item_size_one : One (item_size form)
  item_size_one = one (item_size form)

  module _ (modes : Modes) (faults : Faults) (run : ℕ) where
    pub end_object_one : (twins : Bool) → One (object_end form modes faults run twins)
    end_object_one twins = one (object_end form modes faults run twins)

    pub end_array_one : One (array_end form modes faults run)
    end_array_one = one (array_end form modes faults run)

pub check_sizes_one : (count size left : ℕ) (faults : Faults) (length : ℕ) → One (sized_items count size left faults length)
check_sizes_one count size left faults length = one (sized_items count size left faults length)
