use Rattle.std.proofs.Common.{ap, ◌∙◌}
use Rattle.std.specs.Result.{result_ok}
use Rattle.open.proofs.OpenLaws.{place_known}
use Rattle.open.proofs.open_place.Goals as goal

pub returns : goal.returns
returns c =
    let part = rw (c.ok_or.ensures.ok_part, c.in_ok-part.was) at c.get.ensures.lookup in
    let known = c.ok_or-2.ensures.ok_part ∙ ap result_ok c.in_ok-kind.was in
    place_known _ _ c.if-payload-gt-LENGTH.false part.0.0 part.0.1 c.if-depth-eq0.false c.if-depth-gt-DEPTH.false _ c.known_of.ensures _ known _ _
    c.open_in.ensures part.0.2
