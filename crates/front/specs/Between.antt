-- A part of a list of bytes.
use Rattle.std.specs.Prelude.{ℕ, ◌-◌, List, take, drop}

-- from a up to e
abbrev pub between : ℕ → ℕ → List ℕ → List ℕ
between a e s = take (e - a) (drop a s)
