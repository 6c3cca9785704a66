use Prim.Native.Nat.{◌+◌, ◌-◌}
use lib.ListN.{length}
use native.Mathlib.Omega.{arith}
use Rattle.printing.proofs.TextLaws.{word_copied}
use Rattle.printing.proofs.put_word.Goals as goal

-- `printing::put_word` meets its contract.
pub returns : goal.returns
returns c = word_copied _ _ c.args.text.now c.args.at (c.args.at + length c.args.word.now - c.args.at) c.copy_from_slice.ensures.after (omega arith) c.requires
