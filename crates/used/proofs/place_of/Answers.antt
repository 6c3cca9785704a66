use Rattle.used.proofs.PlaceReturns.{place_nothing, place_here, place_less}
use Rattle.used.proofs.place_of.Goals as goal

pub returns-in_default : goal.returns-in_default
returns-in_default c = place_nothing _ _ _ _ c.loop-at.invariant _ c.name_at.ensures c.in_default.is

pub returns-then-begin-name : goal.returns-then-begin-name
returns-then-begin-name c =
    place_here _ _ _ _ c.loop-at.invariant _ c.name_at.ensures c.loop-at-test.true _ c.in-Some.is c.if-begin-name.true

pub loop-at-smaller : goal.loop-at-smaller
loop-at-smaller c = place_less _ _ _ _ c.loop-at.invariant _ c.name_at.ensures c.loop-at-test.true _ c.in-Some.is
