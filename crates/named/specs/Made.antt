-- A field that was checked, with where its name begins and its payload starts, as an answer.
use Rattle.std.specs.Prelude.{ℕ, Result, Ok}
use Rattle.format.specs.declared.Kind.{Kind}
use Rattle.format.specs.declared.Stop.{Stop}
use Rattle.faults.specs.declared.Faults.{Faults}
use Rattle.named.specs.declared.Named.{Named}

abbrev pub named_read : Kind → ℕ → Faults → ℕ → ℕ → Result Named Stop
named_read k e g n a = Ok (record { kind = k; end = e; faults = g; name = n; start = a })
