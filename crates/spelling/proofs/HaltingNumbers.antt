-- A VarUInt stops exactly where only its beginning is there.
use Rattle.std.specs.Prelude.{Result, Err, Ok}
use Prim.Native.Nat.{ℕ, zero, suc, ◌+◌}
use native.Mathlib.Omega.{arith}
use mathlib.Core.Path.{◌≡◌, refl, sym, ap, subst, ◌∙◌}
use mathlib.Core.Bool.{Bool, not}
use mathlib.Core.List.{List, [], ◌∷◌, ◌++◌, append_assoc}
use lib.ListN.{length, take, drop, replicate, length-append, length-replicate, take-append-drop}
use lib.Seq.{take_all}
use lib.Dec.{leb}
use Rattle.number.specs.BigEndian.{Bytes}
use Rattle.number.specs.VarUInt.{bound, var_uint, cut, whole}
use Rattle.number.proofs.AnswerLaws.{whole_same}
use Rattle.number.proofs.NumberThenLaws.{number_all}
use Rattle.number.proofs.MissingLaws.{missing_range, missing_joined}
use Rattle.number.proofs.VarUIntLaws.{form_reads, form_length, var_form, var_range, var_local}
use Rattle.format.specs.declared.Stop.{Stop}
use Rattle.format.specs.declared.Stop.TheVariants.{Early}
use Rattle.format.specs.declared.Flaw.TheVariants.{Long}
use Rattle.format.specs.Parse.{fault, number, read_var_uint}
use Rattle.spelling.specs.Halts.{NumberCut, NumberHalts}
use Rattle.format.proofs.Lists.{append_nil}
use Rattle.spelling.proofs.Halting.{raise_never, Halt}
use Rattle.number.specs.declared.VarUInt.{VarUInt}
use Rattle.number.specs.declared.Cut.{Cut}

padded : (s : List ℕ) (n : ℕ) → Bytes s → Bytes (s ++ replicate n 0)
padded [] n y = go n
  where
    go : (n : ℕ) → Bytes (replicate n 0)
    go zero = tt
    go (suc n) = (omega arith, go n)
padded (b ∷ s) n y = (y.0, padded s n y.1)

-- zeros in the place of the missing bytes
cut_begins : (s : List ℕ) (m : ℕ) → Bytes s → var_uint s ≡ cut m → NumberCut s
cut_begins [] m y e = (0, 0 ∷ [], omega arith, (0, omega arith, omega arith, refl))
cut_begins (b ∷ s) m y e =
    let t : List ℕ = replicate m 0 in
    let l : length t ≡ m = length-replicate {A = ℕ} m 0 in
    let i = missing_joined (b ∷ s) t m e (omega arith) (omega arith) in
    let f = var_form (b ∷ (s ++ t)) i.0 (suc (length s) + m) i.1 (padded (b ∷ s) m y) i.2 in (
      i.0,
      t,
      omega (arith, (missing_range (b ∷ s) m e).0),
      (f.0, f.1, f.2, sym (take_all (suc (length s) + m) (b ∷ (s ++ t)) (omega (arith, length-append s t))) ∙ f.3),
    )

begins_cut : (s : List ℕ) → NumberCut s → read_var_uint s ≡ fault Early
unfolding read_var_uint
begins_cut s i = number_all (λ o. o ≡ fault Early) (fault Early) _ s refl (λ u n m e. absurd (go u n m e))
  where
    go : (u n : ℕ) (m : Bool) → var_uint s ≡ whole u n m → ⊥
    go u n m e =
        let t = i.1 in
        let f = i.3 in
        let a : take n s ++ (drop n s ++ t) ≡ s ++ t = sym (append_assoc (take n s) (drop n s) t) ∙ ap (λ z. z ++ t) (take-append-drop n s) in
        let l : var_uint (s ++ t) ≡ whole u n m = subst (λ z. var_uint z ≡ whole u n m) a (var_local s u n m e (drop n s ++ t)) in
        let r : var_uint (s ++ t) ≡ whole i.0 (suc f.0) (leb (bound f.0) i.0) =
        ap var_uint f.3 ∙ (rw append_nil at (form_reads f.0 i.0 [] f.1 f.2)) in
        let z = (whole_same u n m i.0 (suc f.0) (leb (bound f.0) i.0) (sym l ∙ r)).1 in
        let k : length s + length t ≡ suc f.0 = rw (← length-append s t) (ap length f.3 ∙ form_length f.0 i.0) in
        omega (arith, (var_range s u n m e).2, i.2, z, k)

pub halt_number : Halt read_var_uint NumberHalts
unfolding read_var_uint
halt_number = record { to = λ s k y e. go s k y (var_uint s) refl e; from = λ k s i. rw i.0 (begins_cut s i.1) }
  where
    go : (s : List ℕ) (k : Stop) → Bytes s → (o : Result VarUInt Cut) → var_uint s ≡ o → number o s ≡ fault k → NumberHalts k s
    go s k y (Err c) e h = (cc, cut_begins s c.missing y e)
    go s k y (Ok w) e h = raise_never (not w.minimal) Long w.value (drop w.length s) h
