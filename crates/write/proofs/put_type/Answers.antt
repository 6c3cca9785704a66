use borrow.Author.Rules.{rules}
use Rattle.write.proofs.PutLaws.{type_none, type_one_law, type_room, type_kept, type_put, flags_fit}
use Rattle.write.proofs.put_type.Goals as goal

ruleset laws = (type_none, type_one_law, type_room, type_kept, type_put, flags_fit, rules)

pub type_flags-requires : goal.type_flags-requires
type_flags-requires c = search laws

pub overflow_add-out : goal.overflow_add-out
overflow_add-out c = search laws

pub bounds-out-at : goal.bounds-out-at
bounds-out-at c = search laws

pub overflow_add-result : goal.overflow_add-result
overflow_add-result c = search laws

pub shape_of-out-then-typed : goal.shape_of-out-then-typed
shape_of-out-then-typed c = search laws

pub returns-then-typed : goal.returns-then-typed
returns-then-typed c = search laws

pub returns : goal.returns
returns c = search laws
