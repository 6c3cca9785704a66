-- Bytes; and fixed-width numbers, which are big-endian (document 01, "Numbers and the VarUInt").
use Rattle.std.specs.Prelude.{ℕ, zero, suc, ◌+◌, ◌*◌, ◌/◌, ◌%◌, ◌^◌, ◌<◌, List, [], ◌∷◌}

-- each of them
abbrev pub All : {A : Type 0} → (A → Type 0) → List A → Type 0
All P [] = Unit {0}
All P (x ∷ xs) = P x × All P xs

abbrev pub Bytes : List ℕ → Type 0
Bytes s = All (λ b. b < 256) s

-- the number that a and then the bytes s make
abbrev pub behind : ℕ → List ℕ → ℕ
behind a [] = a
behind a (b ∷ s) = behind (a * 256 + b) s

abbrev pub from_bytes : List ℕ → ℕ
from_bytes s = behind 0 s

-- the last n bytes of v
abbrev pub to_bytes : ℕ → ℕ → List ℕ
to_bytes zero v = []
to_bytes (suc n) v = (v / 256 ^ n % 256) ∷ to_bytes n v
