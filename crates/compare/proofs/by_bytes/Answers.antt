use Rattle.std.proofs.Common.{◌≡◌, refl}
use Rattle.std.specs.Ordering.{nat_cmp}
use Rattle.std.proofs.lemmas.Iterator.{YieldsList-from_slice}
use Rattle.std.proofs.lemmas.Iterator.Search.{cmp_from_yields_List}
use Rattle.entries.specs.Entry.{bytes_in}
use Rattle.compare.specs.Order.{order}
use Rattle.compare.proofs.by_bytes.Goals as goal

pub returns : goal.returns
unfolding order
returns c =
    cmp_from_yields_List (λ x y. y ≡ x) _ nat_cmp _ c.cmp.ensures.ran (YieldsList-from_slice (bytes_in c.args.part.now c.args.x) cc)
    (λ it e. YieldsList-from_slice (bytes_in c.args.part.now c.args.y) cc) (λ x y. refl)
