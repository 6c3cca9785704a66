-- The invariant of the loop: what stands behind the frames from here on stands behind all of them. What is left falls, since each frame takes a byte.
use Rattle.std.proofs.Common.{◌+◌, arith}
use mathlib.Core.Path.{sym, ◌∙◌}
use Rattle.passing.proofs.PartReturns.{name_inside}
use Rattle.passing.proofs.FrameReturns.{contents_less, contents_on, frame_ends}
use Rattle.passing.proofs.+pass_contents_pass_frame_pass_payload.Goals as goal

pub pass_contents-loop-p-smaller : goal.pass_contents-loop-p-smaller
pass_contents-loop-p-smaller t c =
    let a = c.args in
    omega (
      arith,
      contents_less a.left a.named a.part.now _ c.loop-p-test.true c.if-part-p-eq0.false _
          c.pass_frame.ensures _ c.in_ok-p.was,
    )

pub pass_contents-loop-p-preserved : goal.pass_contents-loop-p-preserved
pass_contents-loop-p-preserved t c =
    let a = c.args in (
      (contents_less a.left a.named a.part.now _ c.loop-p-test.true c.if-part-p-eq0.false _
          c.pass_frame.ensures _ c.in_ok-p.was).1,
      c.loop-p.invariant.1
          ∙ contents_on a.left a.named a.part.now _ c.loop-p-test.true c.if-part-p-eq0.false _
          c.pass_frame.ensures _ c.in_ok-p.was,
    )

pub pass_frame-pass_payload-requires : goal.pass_frame-pass_payload-requires
pass_frame-pass_payload-requires t c =
    let a = c.args in
    (omega arith, name_inside a.named (a.at + 1) a.part.now _ (sym c.in_ok-start.was ∙ c.pass_name.ensures))

pub pass_frame-returns : goal.pass_frame-returns
pass_frame-returns t c =
    let a = c.args in
    frame_ends a.left a.named a.at a.part.now c.requires c.if-left-eq0.false _ c.kind_of.ensures _ c.in_ok-kind.was _ c.pass_name.ensures _
    c.in_ok-start.was _ c.pass_payload.ensures
