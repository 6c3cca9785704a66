-- A field that was checked, as an answer.
use Rattle.std.specs.Prelude.{ℕ, Result, Ok}
use Rattle.format.specs.declared.Kind.{Kind}
use Rattle.format.specs.declared.Stop.{Stop}
use Rattle.faults.specs.declared.Faults.{Faults}
use Rattle.contents.specs.declared.Field.{Field}

abbrev pub field_read : Kind → ℕ → Faults → Result Field Stop
field_read k e g = Ok (record { kind = k; end = e; faults = g })
