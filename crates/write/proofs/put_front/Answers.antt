use borrow.Author.Rules.{rules}
use Rattle.write.proofs.PutLaws.{front_room, front_copy, front_done}
use Rattle.write.proofs.put_front.Goals as goal

ruleset laws = (front_room, front_copy, front_done, rules)

pub put_type-at-requires : goal.put_type-at-requires
put_type-at-requires c = search laws

pub copy-requires : goal.copy-requires
copy-requires c = search laws

pub overflow_sub-result : goal.overflow_sub-result
overflow_sub-result c = search laws

pub overflow_add-result : goal.overflow_add-result
overflow_add-result c = search laws

pub shape_of-out : goal.shape_of-out
shape_of-out c = search laws

pub returns : goal.returns
returns c = search laws
