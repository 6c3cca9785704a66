-- What the calls for C and Rust answer in numbers.
use Rattle.std.specs.Prelude.{ℕ, Bool, cond, List}

abbrev pub truth : Bool → ℕ
truth t = cond t 1 0

-- fewer numbers are lent than the call may need. No fault and no refusal of document 01 has this number
abbrev pub too_few : ℕ
too_few = 12

-- the answer, and what the lent numbers are afterwards
pub record Afterwards : Type 0 where
  pub answer : ℕ
  pub held : List ℕ

abbrev pub afterwards : ℕ → List ℕ → Afterwards
afterwards n l = record { answer = n; held = l }
