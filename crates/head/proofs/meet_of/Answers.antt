use Rattle.std.proofs.Common.{arith}
use Rattle.head.proofs.MeetReturns.{start_in_law, meet_head_by, leaf_in, fields_in_law, items_in_law}
use Rattle.head.proofs.meet_of.Goals as goal

pub slice_bounds-header_of-count : goal.slice_bounds-header_of-count
slice_bounds-header_of-count c = start_in_law _ _ _ c.args.part.now _ c.front_of.ensures _ c.in_ok-front.was

pub slice_bounds-header_of-start : goal.slice_bounds-header_of-start
slice_bounds-header_of-start c = omega (arith, start_in_law _ _ _ c.args.part.now _ c.front_of.ensures _ c.in_ok-front.was)

pub overflow_add-result : goal.overflow_add-result
overflow_add-result c =
    omega (arith, leaf_in _ _ _ c.args.part.now _ c.front_of.ensures _ c.in_ok-front.was _ c.header_of.ensures _ c.in_ok-heading.was _ _ c.in-Leaf.is)

pub overflow_add-result-in-Fields : goal.overflow_add-result-in-Fields
overflow_add-result-in-Fields c =
    omega (
      arith,
      fields_in_law _ _ _ c.args.part.now _ c.front_of.ensures _ c.in_ok-front.was _ c.header_of.ensures _
          c.in_ok-heading.was _ _ _ _ c.in-Fields.is,
    )

pub overflow_add-result-in-Fields-2 : goal.overflow_add-result-in-Fields-2
overflow_add-result-in-Fields-2 c =
    omega (
      arith,
      fields_in_law _ _ _ c.args.part.now _ c.front_of.ensures _ c.in_ok-front.was _ c.header_of.ensures _
          c.in_ok-heading.was _ _ _ _ c.in-Fields.is,
    )

pub overflow_add-result-in-Items : goal.overflow_add-result-in-Items
overflow_add-result-in-Items c =
    omega (
      arith,
      items_in_law _ _ _ c.args.part.now _ c.front_of.ensures _ c.in_ok-front.was _ c.header_of.ensures _
          c.in_ok-heading.was _ _ _ _ _ c.in-Items.is,
    )

pub overflow_add-result-in-Items-2 : goal.overflow_add-result-in-Items-2
overflow_add-result-in-Items-2 c =
    omega (
      arith,
      items_in_law _ _ _ c.args.part.now _ c.front_of.ensures _ c.in_ok-front.was _ c.header_of.ensures _
          c.in_ok-heading.was _ _ _ _ _ c.in-Items.is,
    )

pub returns-in-Leaf : goal.returns-in-Leaf
returns-in-Leaf c = meet_head_by _ _ _ _ _ c.front_of.ensures _ c.in_ok-front.was _ c.header_of.ensures _ c.in_ok-heading.was _ c.in-Leaf.is

pub returns-in-Fields : goal.returns-in-Fields
returns-in-Fields c = meet_head_by _ _ _ _ _ c.front_of.ensures _ c.in_ok-front.was _ c.header_of.ensures _ c.in_ok-heading.was _ c.in-Fields.is

pub returns-in-Items : goal.returns-in-Items
returns-in-Items c = meet_head_by _ _ _ _ _ c.front_of.ensures _ c.in_ok-front.was _ c.header_of.ensures _ c.in_ok-heading.was _ c.in-Items.is
