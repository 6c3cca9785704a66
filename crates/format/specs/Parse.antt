-- Reading from the front of a list of bytes: a stopping fault; or a value, the faults met that do not stop, and what is left.
use Rattle.std.specs.Prelude.{ℕ, zero, suc, Bool, true, false, not, cond, List, [], ◌∷◌, ◌++◌, length, take, drop, ltb, leb, Result}
use Rattle.number.specs.VarUInt.{var_uint, number_then}
use Rattle.format.specs.declared.Flaw.{Flaw}
use Rattle.format.specs.declared.Flaw.TheVariants.{Long}
use Rattle.format.specs.declared.Stop.{Stop}
use Rattle.format.specs.declared.Stop.TheVariants.{Early}
use Rattle.number.specs.declared.VarUInt.{VarUInt}
use Rattle.number.specs.declared.Cut.{Cut}

pub data Out (A : Type 0) : Type 0 where
  fault : Stop → Out A
  got : A → List Flaw → List ℕ → Out A

abbrev pub with_flaws : {A : Type 0} → List Flaw → Out A → Out A
with_flaws [] o = o
with_flaws (f ∷ fs) (fault k) = fault k
with_flaws (f ∷ fs) (got a gs r) = got a (f ∷ fs ++ gs) r

-- what is read goes to f, with what is left
abbrev pub bind : {A B : Type 0} → Out A → (A → List ℕ → Out B) → Out B
bind (fault k) f = fault k
bind (got a fs r) f = with_flaws fs (f a r)

abbrev pub raise : {A : Type 0} → Bool → Flaw → Out A → Out A
raise true f o = with_flaws (f ∷ []) o
raise false f o = o

abbrev pub make : {A B : Type 0} → (A → B) → Out A → Out B
make f o = bind o λ a r. got (f a) [] r

-- an inner part is used up, and reading goes on outside at r; bytes left in it are a fault
abbrev pub whole : {A : Type 0} → Out A → List ℕ → Out A
whole (fault k) r = fault k
whole (got a fs []) r = got a fs r
whole (got a fs (b ∷ bs)) r = fault Early

abbrev pub number : Result VarUInt Cut → List ℕ → Out ℕ
number o s = number_then (fault Early) (λ v n m. raise (not m) Long (got v [] (drop n s))) o

unfoldable pub read_var_uint : List ℕ → Out ℕ
read_var_uint s = number (var_uint s) s

-- n bytes
unfoldable pub fixed : ℕ → List ℕ → Out (List ℕ)
fixed n s = cond (ltb (length s) n) (fault Early) (got (take n s) [] (drop n s))

-- a size, and as many bytes, which p has to use up. The size is compared with what remains
abbrev pub sized : {A : Type 0} → (List ℕ → Out A) → List ℕ → Out A
sized p s = bind (read_var_uint s) λ n r. cond (ltb (length r) n) (fault Early) (whole (p (take n r)) (drop n r))

abbrev pub rest : List ℕ → Out (List ℕ)
rest s = got s [] []

-- n of them
abbrev pub many : {A : Type 0} → (List ℕ → Out A) → ℕ → List ℕ → Out (List A)
many p zero s = got [] [] s
many p (suc n) s = bind (p s) λ x r. bind (many p n r) λ xs q. got (x ∷ xs) [] q

-- as many as fill the part. The number bounds how many there are, and the part's length is enough
abbrev pub fill : {A : Type 0} → (List ℕ → Out A) → ℕ → List ℕ → Out (List A)
fill p zero [] = got [] [] []
fill p zero (b ∷ s) = fault Early
fill p (suc n) [] = got [] [] []
fill p (suc n) (b ∷ s) = bind (p (b ∷ s)) λ x r. bind (fill p n r) λ xs q. got (x ∷ xs) [] q
