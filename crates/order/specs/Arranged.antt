-- A table, arranged: its entries in order, up to the first that has the name of one before it in the part.
use Rattle.std.specs.Prelude.{Option, None, Some, ℕ, ◌-◌, ◌*◌, ◌/◌, cond, List, [], ◌∷◌, ◌++◌, length, take, drop, replicate, ltb}
use Rattle.entries.specs.Entry.{begin_in}
use Rattle.entries.specs.Least.{least}
use Rattle.compare.specs.Order.{upto}
use Rattle.order.specs.declared.Arranged.{Arranged}

-- the entries that begin before a place
unfoldable pub before : ℕ → List ℕ → List ℕ
before p [] = []
before p (e ∷ es) = cond (ltb (begin_in e) p) (e ∷ before p es) (before p es)

abbrev pub kept : List ℕ → List ℕ → List ℕ
kept s t = before (least s t) t

unfoldable pub inserted : List ℕ → ℕ → List ℕ → List ℕ
inserted s x [] = x ∷ []
inserted s x (y ∷ t) = cond (upto s x y) (x ∷ y ∷ t) (y ∷ inserted s x t)

unfoldable pub ordered : List ℕ → List ℕ → List ℕ
ordered s [] = []
ordered s (x ∷ t) = inserted s x (ordered s t)

-- the answer, and what the table holds afterwards
pub record Afterwards : Type 0 where
  pub answer : Option Arranged
  pub held : List ℕ

abbrev pub afterwards : Option Arranged → List ℕ → Afterwards
afterwards a t = record { answer = a; held = t }

abbrev pub done : ℕ → ℕ → Option Arranged
done k l = Some record { count = k; least = l }

-- what is kept of some entries, in order, and zeros up to a length
unfoldable pub settled : List ℕ → List ℕ → ℕ → List ℕ
settled s t n = ordered s (kept s t) ++ replicate (n - length (kept s t)) 0

-- the first n entries, with as much room behind them; where there is less, nothing
unfoldable pub arranged : List ℕ → List ℕ → ℕ → Afterwards
arranged s t n =
    cond (ltb (length t / 2) n)
    (afterwards None t)
    (afterwards (done (length (kept s (take n t))) (least s (take n t))) (settled s (take n t) (2 * n) ++ drop (2 * n) t))
