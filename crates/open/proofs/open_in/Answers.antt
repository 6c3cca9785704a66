use Rattle.open.proofs.FillLaws.{open_early, open_leaf, open_fields, open_items}
use Rattle.open.proofs.open_in.Goals as goal

pub returns-then-end_of-length : goal.returns-then-end_of-length
returns-then-end_of-length c = open_early _ _ _ _ _ _ c.head_of.ensures _ c.in_ok-heading.was _ c.if-end_of-length.true c.end_of.ensures

pub returns-in-Leaf : goal.returns-in-Leaf
returns-in-Leaf c = open_leaf _ _ _ _ _ _ c.head_of.ensures _ c.in_ok-heading.was _ c.if-end_of-length.false c.end_of.ensures _ _ c.in-Leaf.is

pub returns-in-Fields : goal.returns-in-Fields
returns-in-Fields c =
    open_fields _ _ _ _ _ _ c.head_of.ensures _ c.in_ok-heading.was _ c.if-end_of-length.false c.end_of.ensures _ _ _ _ c.in-Fields.is

pub returns-in-Items : goal.returns-in-Items
returns-in-Items c =
    open_items _ _ _ _ _ _ c.head_of.ensures _ c.in_ok-heading.was _ c.if-end_of-length.false c.end_of.ensures _ _ _ _ _ c.in-Items.is
