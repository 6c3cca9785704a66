-- `printing::put_bytes` meets its contract. The loop's invariant: the first `i` bytes are put.
use mathlib.Core.Path.{◌≡◌}
use lib.ListN.{take}
use lib.Seq.{sets}
use Rattle.format.specs.Encoding.{concat}
use Rattle.frames.specs.Program.{hex_byte}
use Rattle.printing.proofs.put_bytes.Given as goal

abbrev pub invariant-loop-i : goal.invariant-loop-i
invariant-loop-i l = l.text ≡ sets l.initial.text 0 (concat hex_byte (take l.i l.part))
