use borrow.Author.Rules.{rules}
use native.Mathlib.Omega.{arith}
use mathlib.Core.Path.{refl}
use Rattle.order.proofs.SortReturns.{sort_few, holds_fewer, second_lent, both_lent, sort_joined}
use Rattle.order.proofs.+sort.Goals as goal

pub returns-then-n-lt2 : goal.returns-then-n-lt2
returns-then-n-lt2 t c = search (sort_few, rules)

pub sort-requires : goal.sort-requires
sort-requires t c = (omega arith, holds_fewer _ _ _ _ c.requires (omega arith))

pub sort-requires-2 : goal.sort-requires-2
sort-requires-2 t c = (
  omega arith,
  second_lent _ _ _ _ _ _ c.requires (omega arith)
      c.sort.ensures,
)

pub join-requires : goal.join-requires
join-requires t c = (
  omega arith,
  omega arith,
  both_lent _ _ _ _ _ _ _ _ c.requires (omega arith)
      c.sort.ensures c.sort-2.ensures refl,
)

pub shape_of-table : goal.shape_of-table
shape_of-table t c =
    (sort_joined _ _ _ _ _ _ _ _
    c.requires (omega arith)
    c.sort.ensures
    c.sort-2.ensures refl _ c.join.ensures).length_kept

pub returns : goal.returns
returns t c =
    sort_joined _ _ _ _ _ _ _ _
    c.requires (omega arith)
    c.sort.ensures
    c.sort-2.ensures refl _ c.join.ensures
