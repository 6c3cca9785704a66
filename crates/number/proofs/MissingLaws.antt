-- How many bytes of a VarUInt are missing. If a first byte stands, the missing bytes, of any value, make it whole, and fewer do not. If no byte stands, 1 is
-- told; after that byte the value is whole, or the rest is told. So a receiver that waits for as many as it is told waits at most twice, and never past the
-- end of the value.
use Prim.Native.Nat.{ℕ, suc, ◌+◌, ◌-◌, ◌≤◌, ◌<◌}
use native.Mathlib.Omega.{arith}
use mathlib.Core.Path.{◌≡◌, refl, ap, ◌∙◌}
use mathlib.Core.Bool.{Bool, true, false, cond}
use mathlib.Core.List.{List, [], ◌∷◌, ◌++◌}
use lib.ListN.{length, length-append}
use lib.Dec.{ltb, leb}
use borrow.Author.Tests.{lt-ltb, ltb-true}
use Rattle.number.specs.VarUInt.{leads, bound, following, value_of, answer, cut, whole, var_uint}
use Rattle.number.proofs.Clash.{clash}
use Rattle.number.proofs.AnswerLaws.{cut_same}
use Rattle.number.proofs.ReachedLaws.{reached_most}
use Rattle.number.proofs.VarUIntLaws.{made, answer_whole, var_range}

-- what is missing of the n bytes that have to follow
record Lacks (n : ℕ) (s : List ℕ) (m : ℕ) : Type 0 where
  some_missing : 1 ≤ m
  all : n ≡ length s + m

lacks : (n b : ℕ) (s : List ℕ) (m : ℕ) → answer n b s ≡ cut m → Lacks n s m
lacks n b s m h = go (ltb (length s) n) refl h
  where
    go : (x : Bool) → ltb (length s) n ≡ x
        → cond x (cut (n - length s)) (whole (value_of n b s) (suc n) (leb (bound n) (value_of n b s))) ≡ cut m → Lacks n s m
    go true e h =
        let l : length s < n = ltb-true (length s) n e in
        let z : n - length s ≡ m = cut_same (n - length s) m h in
        record { some_missing = omega arith; all = omega arith }
    go false e h = clash cc

answer_cut : (n b : ℕ) (s : List ℕ) (m : ℕ) → 1 ≤ m → n ≡ length s + m → answer n b s ≡ cut m
answer_cut n b s m l e = let z : n - length s ≡ m = omega arith in rw (lt-ltb (length s) n (omega arith), z)

-- one is missing at least, and what is held and what is missing are 9 at most
pub missing_range : (s : List ℕ) (m : ℕ) → var_uint s ≡ cut m → (1 ≤ m) × (length s + m ≤ 9)
unfolding var_uint
missing_range [] m e = let z : 1 ≡ m = cut_same 1 m e in omega arith
missing_range (b ∷ s) m e = let i = lacks (following b) b s m e in omega (arith, i.some_missing, i.all, reached_most leads b)

-- one fewer does not make it whole, nor any number of bytes below: the rest of them is missing then
pub fewer_joined : (s t : List ℕ) (m : ℕ) → var_uint s ≡ cut m → length t < m → var_uint (s ++ t) ≡ cut (m - length t)
unfolding var_uint
fewer_joined [] [] m e l = let z : 1 ≡ m = cut_same 1 m e in ap cut (omega arith)
fewer_joined [] (c ∷ t) m e l = let z : 1 ≡ m = cut_same 1 m e in absurd (omega arith)
fewer_joined (b ∷ s) t m e l =
    answer_cut (following b) b (s ++ t) (m - length t) (omega arith) (omega (arith, (lacks (following b) b s m e).all, length-append s t))

-- once a first byte stands, as many make it whole, and how long it is does not depend on what comes after
pub missing_joined : (s t : List ℕ) (m : ℕ) → var_uint s ≡ cut m → 1 ≤ length s → m ≤ length t
    → (v : ℕ) × (x : Bool) × (var_uint (s ++ t) ≡ whole v (length s + m) x)
unfolding var_uint
missing_joined [] t m e h l = absurd (omega arith)
missing_joined (b ∷ s) t m e h l =
    let n = following b in
    let i = lacks n b s m e in
    let k : suc n ≡ suc (length s) + m = omega (arith, i.all) in (
      value_of n b (s ++ t),
      leb (bound n) (value_of n b (s ++ t)),
      answer_whole n b (s ++ t) (omega (arith, i.all, length-append s t))
          ∙ ap (λ z. whole (value_of n b (s ++ t)) z (leb (bound n) (value_of n b (s ++ t)))) k,
    )

-- who has got all that was missing and is told again held no byte before
pub told_again : (s t : List ℕ) (m k : ℕ) → var_uint s ≡ cut m → m ≤ length t → var_uint (s ++ t) ≡ cut k → s ≡ []
told_again [] t m k e l h = refl
told_again (b ∷ s) t m k e l h = let i = (missing_joined (b ∷ s) t m e (omega arith) l).2 in clash cc

-- whatever comes, what is whole then has all the bytes that were held and those that were missing
pub never_too_many : (s t : List ℕ) (m v n : ℕ) (x : Bool) → var_uint s ≡ cut m → var_uint (s ++ t) ≡ whole v n x → length s + m ≤ n
unfolding var_uint
never_too_many [] t m v n x e h = let z : 1 ≡ m = cut_same 1 m e in omega (arith, (var_range t v n x h).0)
never_too_many (b ∷ s) t m v n x e h =
    omega (arith, (lacks (following b) b s m e).all, (made (following b) b (s ++ t) v n x h).length_is)

-- of a value that is cut in two, what was cut off is missing from the first part
pub cut_off : (s t : List ℕ) (v : ℕ) (x : Bool) → 1 ≤ length s → 1 ≤ length t → var_uint (s ++ t) ≡ whole v (length s + length t) x → var_uint s ≡ cut (length t)
unfolding var_uint
cut_off [] t v x h l e = absurd (omega arith)
cut_off (b ∷ s) t v x h l e =
    answer_cut (following b) b s (length t) l (omega (arith, (made (following b) b (s ++ t) v (suc (length s) + length t) x e).length_is))
