-- A range of names: above one bound, and up to another.
use Rattle.std.specs.Prelude.{ℕ, Bool, true, false, cond, List, Option, None, Some, leb}
use Rattle.std.specs.Ordering.{is_gt, is_le}
use Rattle.entries.specs.Entry.{begin_in, name_in}
use Rattle.compare.specs.Order.{order}

abbrev pub above : List ℕ → Option ℕ → ℕ → Bool
above s None x = true
above s (Some y) x = is_gt (order (name_in s x) (name_in s y))

abbrev pub up_to : List ℕ → Option ℕ → ℕ → Bool
up_to s None x = true
up_to s (Some y) x = is_le (order (name_in s x) (name_in s y))

-- and begins before a place
unfoldable pub wanted : List ℕ → Option ℕ → Option ℕ → ℕ → ℕ → Bool
wanted s low high stop x = cond (leb stop (begin_in x)) false (cond (above s low x) (up_to s high x) false)
