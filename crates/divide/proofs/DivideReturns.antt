-- What the whole answers: the first twin of entries that fit.
use Prim.Native.Nat.{ℕ, ◌+◌, ◌≤◌, ◌<◌}
use native.Mathlib.Omega.{arith}
use mathlib.Core.Path.{◌≡◌, refl, sym, ◌∙◌}
use mathlib.Core.Bool.{Bool, true, false}
use mathlib.Core.List.{List, ◌++◌}
use lib.ListN.{length, take, drop, replicate}
use lib.Seq.{length-take-le}
use Rattle.std.proofs.Common.{Some, None}
use borrow.Author.Tests.{lt-ltb, le-ltb, leb-true}
use Rattle.entries.specs.Entry.{begin_in, length_in}
use Rattle.entries.specs.Least.{least}
use Rattle.tables.specs.Fit.{all_fit}
use Rattle.tables.proofs.FitReturns.{all_fit_law}
use Rattle.divide.specs.Divided.{afterwards, divided}
use Rattle.divide.specs.Passes.{Alike}

pub fit_alike : (s u : List ℕ) (b : Bool) → b ≡ all_fit s u → b ≡ true → Alike s 0 u
fit_alike s u b d e = record {
  fit = λ x i. leb-true (begin_in x + length_in x) (length s) (all_fit_law s u x (sym d ∙ e) i);
  reach = λ x i. omega arith;
  alike = λ x e i j. refl;
}

-- ---- the whole

module _ (s t : List ℕ) (n : ℕ) where
  pub divide_few : length t < n → afterwards None t ≡ divided s t n
  unfolding divided
  divide_few l = rw (lt-ltb (length t) n l)

  module _ (l : n ≤ length t) (b : Bool) (d : b ≡ all_fit s (take n t)) where
    pub divide_unfit : b ≡ false → afterwards None t ≡ divided s t n
    unfolding divided
    divide_unfit e = let z : all_fit s (take n t) ≡ false = sym d ∙ e in rw (le-ltb (length t) n l, z)

    pub divide_done : b ≡ true → (r : ℕ) (y : List ℕ) → r ≡ least s (take n t) → y ≡ replicate (length (take n t)) 0
        → afterwards (Some r) (y ++ drop n t) ≡ divided s t n
    unfolding divided
    divide_done e r y f g =
        let z : all_fit s (take n t) ≡ true = sym d ∙ e in
        let q : length (take n t) ≡ n = length-take-le n t l in
        rw (le-ltb (length t) n l, z, f, g, q)
