-- A part of a list of bytes, copied into another list.
use Rattle.std.specs.Prelude.{ℕ, ◌+◌, ◌-◌, Bool, cond, ◌&&◌, List, length, leb}
use Rattle.std.proofs.lemmas.List.Edits.{sets}
use Rattle.front.specs.Between.{between}

-- the bytes stand in the list, and there is room for them
abbrev pub can_copy : List ℕ → ℕ → ℕ → List ℕ → ℕ → Bool
can_copy s from end out to = leb from end && (leb end (length s) && leb (to + (end - from)) (length out))

unfoldable pub copied : List ℕ → ℕ → ℕ → List ℕ → ℕ → List ℕ
copied s from end out to = cond (can_copy s from end out to) (sets out to (between from end s)) out
