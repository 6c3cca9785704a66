-- The mask with a table, computed: of the empty payload.
use mathlib.Core.Path.{◌≡◌, refl}
use mathlib.Core.List.{[], ◌∷◌}
use Rattle.format.specs.Payload.{front}
use Rattle.format.specs.Mask.{mask}
use Rattle.format.specs.Reader.{read}
use Rattle.validate.specs.Asked.{mask_with}

pub masked_pinned : mask_with 7 [] (5 ∷ 6 ∷ []) ∷ mask_with 0 [] [] ∷ [] ≡ record { answer = 1; table = 0 ∷ 0 ∷ [] } ∷ record { answer = 1; table = [] } ∷ []
unfolding front mask read mask_with
masked_pinned = refl
