-- `hexadecimal::feed` meets its contract. The loop's invariant: what is left of the text makes of what is typed so far what the text makes of the whole.
use mathlib.Core.Path.{◌≡◌}
use lib.ListN.{drop}
use Rattle.hexadecimal.specs.Typing.{fed}
use Rattle.hexadecimal.proofs.feed.Given as goal

abbrev pub invariant-loop-c : goal.invariant-loop-c
invariant-loop-c l = fed l.text l.initial.typing l.initial.list ≡ fed (drop l.c-index l.text) l.typing l.list
