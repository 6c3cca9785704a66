-- The check of the top field with a table, computed: of the empty payload.
use Rattle.std.specs.Prelude.{Err}
use mathlib.Core.Path.{◌≡◌, refl}
use mathlib.Core.Bool.{true}
use mathlib.Core.List.{[], ◌∷◌}
use Rattle.format.specs.declared.Stop.TheVariants.{Early}
use Rattle.format.specs.Payload.{front}
use Rattle.format.specs.Reader.{read}
use Rattle.faults.specs.declared.Modes.{Modes}
use Rattle.checks.specs.Checks.{field_at}
use Rattle.named.specs.Top.{top_within, top_with}

abbrev strict : Modes
strict = record { names = true; format = true }

pub top_pinned : top_with strict [] (5 ∷ 6 ∷ []) ∷ top_with strict [] [] ∷ []
    ≡ record { answer = Err Early; table = 0 ∷ 0 ∷ [] } ∷ record { answer = Err Early; table = [] } ∷ []
unfolding front read field_at top_within top_with
top_pinned = refl
