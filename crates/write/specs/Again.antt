-- A frame again, in the second pass, by a position of the list.
use Rattle.std.specs.Prelude.{ℕ, ◌+◌, ◌-◌, Bool, cond, List, length, drop}
use Rattle.format.specs.Parse.{Out, fault, got}
use Rattle.format.specs.Names.{read_name}
use Rattle.frame.specs.Pieces.{leaf_end}

abbrev pub start_by : ℕ → ℕ → Out (List ℕ) → ℕ
start_by total from (fault k) = from
start_by total from (got n fs r) = total - length r

-- where the payload starts
unfoldable pub start_at : Bool → List ℕ → ℕ → ℕ
start_at named s at = cond named (start_by (length s) (at + 1) (read_name (drop (at + 1) s))) (at + 1)

-- where a leaf ends
unfoldable pub end_at : List ℕ → ℕ → ℕ → ℕ
end_at s at b = at + leaf_end b (drop at s)
