-- How a place opens, by its check (document 01, "Places, views and values"): what the reading calls start from.
use Rattle.std.specs.Prelude.{ℕ, ◌-◌, length, Result, Err, Ok}
use Rattle.format.specs.Parse.{Out, fault, got}
use Rattle.format.specs.Payload.{Head, value, fields_in, items_in}
use Rattle.open.specs.declared.Opened.TheVariants as O
use Rattle.open.specs.declared.Opened.{Opened}
use Rattle.format.specs.declared.Stop.{Stop}

-- a place that was checked, and that ends at e: its contents end with it
abbrev pub opened_by : ℕ → Out Head → Result Opened Stop
opened_by e (fault k) = Err k
opened_by e (got (value v) fs r) = Ok O.Leaf
opened_by e (got (fields_in f b) fs r) = Ok (O.Fields f (e - length b))
opened_by e (got (items_in f n b) fs r) = Ok (O.Items f (e - length b))
