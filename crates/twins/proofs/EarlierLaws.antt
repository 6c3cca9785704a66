-- Of two frames the one that stands first, where it is known which.
use Prim.Native.Nat.{ℕ, ◌≤◌, ◌<◌}
use native.Mathlib.Omega.{arith}
use mathlib.Core.Path.{◌≡◌, refl}
use mathlib.Core.Option.{Option, none, some}
use mathlib.Core.List.{List}
use lib.ListN.{length}
use borrow.Author.Tests.{le-ltb, lt-ltb}
use Rattle.twins.specs.Least.{earlier}

-- there is none, or it stands behind where m bytes are left
abbrev pub Behind : ℕ → Option (List ℕ) → Type 0
Behind m none = Unit {0}
Behind m (some f) = length f < m

pub behind_less : (m j : ℕ) (o : Option (List ℕ)) → m ≤ j → Behind m o → Behind j o
behind_less m j none l h = tt
behind_less m j (some f) l h = omega arith

pub earlier_left : (f : List ℕ) (o : Option (List ℕ)) → Behind (length f) o → earlier (some f) o ≡ some f
earlier_left f none h = refl
earlier_left f (some g) h = rw (le-ltb (length f) (length g) (omega arith))

pub earlier_right : (f : List ℕ) (o : Option (List ℕ)) → Behind (length f) o → earlier o (some f) ≡ some f
earlier_right f none h = refl
earlier_right f (some g) h = rw (lt-ltb (length g) (length f) h)

pub earlier_same : (f : List ℕ) → earlier (some f) (some f) ≡ some f
earlier_same f = rw (le-ltb (length f) (length f) (omega arith))
