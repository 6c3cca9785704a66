-- What the definitions come to on the names that entries pins, computed.
use Prim.Native.Nat.{◌+◌}
use mathlib.Core.Path.{◌≡◌, refl}
use mathlib.Core.Bool.{true, false}
use mathlib.Core.List.{[], ◌∷◌}
use Rattle.entries.specs.Entry.{bytes_at}
use Rattle.entries.proofs.PinnedEntries.{part, ab, b, ab₂, a, ayb, axb}
use Rattle.std.specs.declared.cmp.Ordering.TheVariants.{Less, Equal, Greater}
use Rattle.compare.specs.Order.{order, order_in, ascends}

-- by name, and what ends first is less; of one name what begins first; an entry and itself; names of one key by their bytes
orders : order_in part a ab ∷ order_in part b ab ∷ order_in part ab ab₂ ∷ order_in part ab₂ ab ∷ order_in part b b ∷ order_in part ayb axb
    ∷ order (1 ∷ []) (1 ∷ 2 ∷ []) ∷ order (1 ∷ 2 ∷ []) (1 ∷ []) ∷ order [] [] ∷ []
    ≡ Less ∷ Less ∷ Less ∷ Greater ∷ Equal ∷ Greater ∷ Less ∷ Greater ∷ Equal ∷ []
unfolding bytes_at order
orders = refl

-- by the bytes alone: what ends first comes first, and no name comes before itself
ascending : ascends part a ab ∷ ascends part ab a ∷ ascends part ab ab₂ ∷ ascends part axb ayb ∷ ascends part ayb axb ∷ ascends part ab b
    ∷ ascends part (axb + 1) a ∷ []
    ≡ true ∷ false ∷ false ∷ true ∷ false ∷ true ∷ true ∷ []
unfolding bytes_at order ascends
ascending = refl
