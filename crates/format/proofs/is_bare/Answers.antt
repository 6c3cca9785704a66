use borrow.Author.Rules.{rules}
use Rattle.format.proofs.KindLaws.{kind_low, kind_high, bare_is}
use Rattle.format.proofs.is_bare.Goals as goal

ruleset laws = (kind_low, kind_high, bare_is, rules)

pub id_of-n-requires : goal.id_of-n-requires
id_of-n-requires c = search laws

pub returns : goal.returns
returns c = search laws
