-- No second answer, for kinds and the faults that stop.
use Prim.Native.Nat.{ℕ}
use Rattle.number.proofs.OneAnswer.{One, one}
use Rattle.format.specs.declared.Kind.{Kind}
use Rattle.format.specs.declared.Mark.{Mark}
use Rattle.format.specs.declared.Stop.{Stop}
use Rattle.format.specs.Kinds.{id, flags, known, kind_at, is_bare}
use Rattle.format.specs.Mask.{stop_value}
use Rattle.format.specs.Payload.{class_of}

pub known_of_one : (byte : ℕ) → One (known byte)
known_of_one byte = one (known byte)

pub flags_of_one : (mark : Mark) → One (flags mark)
flags_of_one mark = one (flags mark)

pub kind_at_one : (mark : Mark) (byte : ℕ) → One (kind_at mark byte)
kind_at_one mark byte = one (kind_at mark byte)

module _ (kind : Kind) where
  pub id_of_one : One (id kind)
  id_of_one = one (id kind)

  pub is_bare_one : One (is_bare kind)
  is_bare_one = one (is_bare kind)

  pub class_of_one : One (class_of kind)
  class_of_one = one (class_of kind)

pub stop_value_one : (stop : Stop) → One (stop_value stop)
stop_value_one stop = one (stop_value stop)
