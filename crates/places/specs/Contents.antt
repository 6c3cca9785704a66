-- Where the contents of a container begin (document 01, "Places, views and values"): behind its size, and its count and its shared byte if it has them.
use Rattle.std.specs.Prelude.{ℕ, ◌-◌, List, length}
use Rattle.places.specs.declared.Place.{Place}
use Rattle.format.specs.Parse.{Out, fault, got}
use Rattle.format.specs.Payload.{Head, value, fields_in, items_in}
use Rattle.places.specs.Places.{check}

-- by what the check of the place read; a leaf, or a place that is refused, has none, so that they are empty at its end
abbrev pub contents_of : Place → Out Head → ℕ
contents_of c (fault k) = c.end
contents_of c (got (value v) fs r) = c.end
contents_of c (got (fields_in f b) fs r) = c.end - length b
contents_of c (got (items_in f n b) fs r) = c.end - length b

unfoldable pub contents_start : List ℕ → Place → ℕ
contents_start s c = contents_of c (check s c)
