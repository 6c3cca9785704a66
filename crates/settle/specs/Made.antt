-- A field that is measured, and what a list comes to, as answers.
use Rattle.std.specs.Prelude.{ℕ, Result, Ok}
use Rattle.frames.specs.declared.Refused.{Refused}
use Rattle.settle.specs.declared.Measured.{Measured}
use Rattle.settle.specs.declared.Settled.{Settled}

abbrev pub measured : ℕ → ℕ → ℕ → ℕ → Result Measured Refused
measured n i z k = Ok (record { next = n; id = i; size = z; opened = k })

abbrev pub ready : ℕ → ℕ → Result Settled Refused
ready i l = Ok (record { id = i; length = l })
