use native.Mathlib.Omega.{arith}
use mathlib.Core.Path.{refl}
use borrow.Author.Rules.{rules}
use Rattle.program.proofs.InParts.{reached_start, reached_more}
use Rattle.program.proofs.read_all.Goals as goal

pub loop-left-init : goal.loop-left-init
loop-left-init c = let s = reached_start _ _ c.nothing-typing.ensures in (refl, refl, s.0, omega (arith, s.1))

pub loop-left-preserved : goal.loop-left-preserved
loop-left-preserved c =
    let x = reached_more _ _ _ c.loop-left.invariant.2 _ _ c.read.new.buf _ _ c.loop-left.invariant.3 c.in_ok-left.ensures.0 c.feed-typing.ensures
    in (search rules, search rules, x.0, rw c.in_ok-left.ensures.1 x.1)
