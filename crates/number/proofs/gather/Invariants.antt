-- `number::gather` meets its contract. The loop's invariant: what is read so far and the bytes that are left make the number,
-- so that no part of it is greater. Assumes nothing.
use mathlib.Core.Path.{◌≡◌}
use lib.ListN.{drop}
use Rattle.number.specs.BigEndian.{behind}
use Rattle.number.proofs.gather.Given as goal

abbrev pub invariant-loop-byte : goal.invariant-loop-byte
invariant-loop-byte l = behind l.value (drop l.byte-index l.bytes) ≡ behind l.front l.bytes
