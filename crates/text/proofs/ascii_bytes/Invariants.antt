-- `text::ascii_bytes` meets its contract. The loop's invariant: the bytes so far are passed.
use mathlib.Core.Bool.{true}
use mathlib.Core.List.{[]}
use Rattle.text.specs.Passed.{Passed}
use Rattle.text.proofs.ascii_bytes.Given as goal

abbrev pub invariant-loop-to : goal.invariant-loop-to
invariant-loop-to l = Passed [] l.part l.at l.to true
