-- `is_nan32` is one comparison of the pattern without its sign.
use mathlib.Core.Path.{sym}
use lib.Ieee.{binary32}
use lib.Ieee.Bits.{nan_bits_above}
use Rattle.float.proofs.is_nan32.Goals as goal

pub returns : goal.returns
returns c = sym (nan_bits_above binary32 c.args.bits)
