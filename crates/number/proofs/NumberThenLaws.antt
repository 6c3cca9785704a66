-- What is made of a number that was read, by whoever only stops at a cut: what holds of a cut and of each whole value that is read holds of whatever stands
-- there. How many bytes are missing is not asked about.
use Prim.Native.Nat.{ℕ, ◌≤◌}
use mathlib.Core.Path.{◌≡◌, refl}
use mathlib.Core.Bool.{Bool}
use mathlib.Core.List.{List}
use lib.ListN.{length}
use Rattle.std.proofs.Common.{Result, Ok, Err}
use Rattle.number.specs.VarUInt.{whole, var_uint, number_then}
use Rattle.number.specs.declared.VarUInt.{VarUInt}
use Rattle.number.specs.declared.Cut.{Cut}
use Rattle.number.proofs.VarUIntLaws.{var_range}

pub number_both : {B C : Type 0} (P : B → C → Type 0) (halt : B) (f : ℕ → ℕ → Bool → B) (stop : C) (g : ℕ → ℕ → Bool → C) (s : List ℕ) → P halt stop
    → ((v n : ℕ) (x : Bool) → var_uint s ≡ whole v n x → P (f v n x) (g v n x)) → P (number_then halt f (var_uint s)) (number_then stop g (var_uint s))
number_both P halt f stop g s a b = at (var_uint s) refl
  where
    at : (o : Result VarUInt Cut) → var_uint s ≡ o → P (number_then halt f o) (number_then stop g o)
    at (Ok n) e = b n.value n.length n.minimal e
    at (Err c) e = a

pub number_all : {B : Type 0} (P : B → Type 0) (halt : B) (f : ℕ → ℕ → Bool → B) (s : List ℕ) → P halt
    → ((v n : ℕ) (x : Bool) → var_uint s ≡ whole v n x → P (f v n x)) → P (number_then halt f (var_uint s))
number_all P halt f s = number_both (λ b c. P b) halt f halt f s

-- a whole value stands inside
pub number_same : {B : Type 0} (halt : B) (f g : ℕ → ℕ → Bool → B) (s : List ℕ) → ((v n : ℕ) (x : Bool) → n ≤ length s → f v n x ≡ g v n x)
    → number_then halt f (var_uint s) ≡ number_then halt g (var_uint s)
number_same halt f g s h = number_both (λ b c. b ≡ c) halt f halt g s refl (λ v n x e. h v n x (var_range s v n x e).2)
