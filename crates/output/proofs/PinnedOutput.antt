-- What the definitions come to on short lists, computed.
use Prim.Native.Nat.{ℕ}
use mathlib.Core.Path.{◌≡◌, refl}
use mathlib.Core.List.{List, [], ◌∷◌}
use Rattle.float.specs.Rule.{holds}
use Rattle.frames.specs.Container.{container_id}
use Rattle.frame.specs.Pieces.{bits_in}
use Rattle.output.specs.Copied.{copied}
use Rattle.output.specs.Encoded.{bits_at, final_id}

abbrev list : List ℕ
list = 1 ∷ 2 ∷ 3 ∷ 4 ∷ []

abbrev out : List ℕ
out = 7 ∷ 7 ∷ 7 ∷ []

-- all that there is room for; at the output's end; none; up to the list's end, and past it; one more than there is room for; from behind its end
copies : copied list 0 3 out 0 ∷ copied list 1 3 out 1 ∷ copied list 2 2 out 3 ∷ copied list 3 4 out 1 ∷ copied list 3 5 out 1 ∷ copied list 1 3 out 2
    ∷ copied list 3 2 out 0 ∷ []
    ≡ (1 ∷ 2 ∷ 3 ∷ []) ∷ (7 ∷ 2 ∷ 3 ∷ []) ∷ out ∷ (7 ∷ 4 ∷ 7 ∷ []) ∷ out ∷ out ∷ out ∷ []
unfolding copied
copies = refl

-- 1, which Float32 holds, and 0.1, which it does not
abbrev one : List ℕ
one = 0x3F ∷ 0xF0 ∷ 0 ∷ 0 ∷ 0 ∷ 0 ∷ 0 ∷ 0 ∷ []

abbrev tenth : List ℕ
tenth = 0x3F ∷ 0xB9 ∷ 0x99 ∷ 0x99 ∷ 0x99 ∷ 0x99 ∷ 0x99 ∷ 0x9A ∷ []

-- from their start, with a byte before them, one byte short, and behind the end
bits : bits_at one 0 ∷ bits_at (9 ∷ tenth) 1 ∷ bits_at one 1 ∷ bits_at one 9 ∷ [] ≡ 0x3FF0000000000000 ∷ 0x3FB999999999999A ∷ 0 ∷ 0 ∷ []
unfolding bits_at bits_in
bits = refl

-- a Float64 that Float32 holds, one that it does not, another leaf, and an object and an array whose fields share no ID
ids : final_id one 11 0 0 ∷ final_id tenth 11 0 0 ∷ final_id one 8 0 0 ∷ final_id [] 2 0 0 ∷ final_id [] 4 0 0 ∷ [] ≡ 10 ∷ 11 ∷ 8 ∷ 2 ∷ 4 ∷ []
unfolding holds container_id final_id bits_at bits_in
ids = refl
