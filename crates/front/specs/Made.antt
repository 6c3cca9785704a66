-- What was read, as an answer: a size with the bytes that it counts; and what stands before a payload.
use Rattle.std.specs.Prelude.{ℕ, Result, Ok}
use Rattle.format.specs.declared.Kind.{Kind}
use Rattle.format.specs.declared.Stop.{Stop}
use Rattle.faults.specs.declared.Faults.{Faults}
use Rattle.front.specs.declared.Span.{Span}
use Rattle.front.specs.declared.Front.{Front}

abbrev pub span : ℕ → ℕ → Faults → Result Span Stop
span b e g = Ok (record { begin = b; end = e; faults = g })

abbrev pub front_read : Kind → ℕ → ℕ → Faults → Result Front Stop
front_read k n a g = Ok (record { kind = k; name = n; start = a; faults = g })
