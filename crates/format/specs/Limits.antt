-- The limits (document 01: "the limits 32 and 65,536 belong to its type").
use Rattle.std.specs.Prelude.{ℕ}

abbrev pub depth_limit : ℕ
depth_limit = 32

-- of a payload, of a write list and of an encoding
abbrev pub length_limit : ℕ
length_limit = 65536
