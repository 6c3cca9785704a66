-- Work numbers between the passes, computed: the size, the width of the count, the shared ID.
use mathlib.Core.Path.{◌≡◌, refl}
use mathlib.Core.Bool.{true, false}
use mathlib.Core.List.{[], ◌∷◌}
use Rattle.number.specs.VarUInt.{encoded}
use Rattle.run.specs.Run.{uniform}
use Rattle.frames.specs.Container.{count_part, packed, size_in, width_in, shared_in, uniform_in}

-- an object has no count; IDs that differ, a count of two bytes; a shared ID
numbers : packed true 255 3 7 ∷ packed false 255 300 5 ∷ packed false 8 3 9 ∷ packed true 8 3 9 ∷ [] ≡ 1792 ∷ 1344 ∷ 2344 ∷ 2312 ∷ []
unfolding encoded uniform count_part packed
numbers = refl

parts : size_in 2344 ∷ width_in 2344 ∷ shared_in 2344 ∷ size_in 4294967295 ∷ width_in 4294967295 ∷ shared_in 4294967295 ∷ [] ≡ 9 ∷ 1 ∷ 8 ∷ 16777215 ∷ 7 ∷ 31 ∷ []
parts = refl

which : uniform_in 2344 ∷ uniform_in 1344 ∷ [] ≡ true ∷ false ∷ []
which = refl
