-- A name that was found, as an answer: where it begins and ends, and where the next field stands.
use Rattle.std.specs.Prelude.{ℕ, Option, Some}
use Rattle.names.specs.declared.Name.{Name}

abbrev pub name_met : ℕ → ℕ → ℕ → Option Name
name_met b e n = Some (record { begin = b; end = e; next = n })
