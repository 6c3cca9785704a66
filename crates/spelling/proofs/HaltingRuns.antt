-- Runs: items that are counted stop exactly where one of them does, and fields that fill a part exactly where one that begins there does.
use Prim.Native.Nat.{ℕ, zero, suc, ◌+◌, ◌≤◌, ◌<◌}
use native.Mathlib.Omega.{arith}
use mathlib.Core.Path.{◌≡◌, refl, sym, ap, subst, ◌∙◌}
use mathlib.Core.List.{List, [], ◌∷◌, ◌++◌, append_assoc}
use lib.ListN.{length, length-append}
use Rattle.number.specs.BigEndian.{Bytes}
use Rattle.format.specs.declared.Stop.{Stop}
use Rattle.format.specs.Parse.{Out, fault, got, bind, many, fill}
use Rattle.spelling.specs.Spells.{Run}
use Rattle.format.proofs.Back.{never}
use Rattle.format.proofs.Lists.{bytes_right}
use Rattle.spelling.proofs.Grammar.{Front}
use Rattle.spelling.proofs.GrammarRuns.{fill_more}
use Rattle.spelling.proofs.SpelledNumbers.{Any, any_clean}
use Rattle.spelling.proofs.Halting.{bind_fault, bind_stop, Halt}

module _ {A : Type 0} (p : List ℕ → Out A) (S : A → List ℕ → Type 0) (H : Stop → List ℕ → Type 0) (f : Front Any p S) (h : Halt p H) where
  -- what stands before the one that stops is put together
  joined : (s u q v t : List ℕ) → s ≡ u ++ q → q ≡ v ++ t → s ≡ (u ++ v) ++ t
  joined s u q v t e i = e ∙ (ap (λ z. u ++ z) i ∙ sym (append_assoc u v t))

  apart : (s u v w t : List ℕ) → s ≡ u ++ t → u ≡ v ++ w → s ≡ v ++ (w ++ t)
  apart s u v w t e i = e ∙ (ap (λ z. z ++ t) i ∙ append_assoc v w t)

  rest_stops : (k : Stop) (o : Out (List A)) (x : A) → bind o (λ xs q. got (x ∷ xs) [] q) ≡ fault k → o ≡ fault k
  rest_stops k o x e = bind_fault o _ e (λ i. i) (λ xs fs q i j. never (sym j))

  pub many_halts : (n : ℕ) (s : List ℕ) (k : Stop) → Bytes s → many p n s ≡ fault k
      → (xs : List A) × (u t : List ℕ) × (s ≡ u ++ t) × Run S xs u × (length xs < n) × H k t
  many_halts zero s k y e = never (sym e)
  many_halts (suc n) s k y e = bind_fault (p s) _ e (λ i. ([], [], s, refl, refl, omega arith, h.to s k y i)) (λ x fs q i j.
      let w = f.to s x fs q y i tt in
      let m = many_halts n q k (bytes_right _ w.0 q y w.1) (rest_stops k (many p n q) x j) in
      (x ∷ m.0, w.0 ++ m.1, m.2, joined s w.0 q m.1 m.2 w.1 m.3, (w.0, m.1, refl, w.2, m.4), omega (arith, m.5), m.6))

  pub halts_many : (n : ℕ) (xs : List A) (s u t : List ℕ) (k : Stop) → s ≡ u ++ t → Run S xs u → length xs < n → H k t → many p n s ≡ fault k
  halts_many zero xs s u t k e r l i = absurd (omega arith)
  halts_many (suc n) [] s u t k e r l i = rw (h.from k s (subst (H k) (sym (e ∙ ap (λ z. z ++ t) r)) i))
  halts_many (suc n) (x ∷ xs) s u t k e r l i =
      let w = f.from x r.0 r.3 (r.1 ++ t) in
      bind_stop (p s) _ x w.0 (r.1 ++ t) k (subst (λ s. p s ≡ got x w.0 (r.1 ++ t)) (sym (apart s u r.0 r.1 t e r.2)) w.2)
      (rw (halts_many n xs (r.1 ++ t) r.1 t k refl r.4 (omega arith) i))

  module _ (some : (x : A) (w : List ℕ) → S x w → 1 ≤ length w) where
    pub fill_halts : (n : ℕ) (s : List ℕ) (k : Stop) → Bytes s → length s ≤ n → fill p n s ≡ fault k
        → (xs : List A) × (u t : List ℕ) × (s ≡ u ++ t) × Run S xs u × (1 ≤ length t) × H k t
    fill_halts zero [] k y l e = never (sym e)
    fill_halts zero (b ∷ s) k y l e = absurd (omega arith)
    fill_halts (suc n) [] k y l e = never (sym e)
    fill_halts (suc n) (b ∷ s) k y l e = bind_fault (p (b ∷ s)) _ e (λ i. ([], [], b ∷ s, refl, refl, omega arith, h.to (b ∷ s) k y i)) (λ x fs q i j.
        let w = f.to (b ∷ s) x fs q y i tt in
        let o = some x w.0 w.2 in
        let z : length (b ∷ s) ≡ length (w.0 ++ q) = ap length w.1 in
        let m = fill_halts n q k (bytes_right _ w.0 q y w.1) (omega (arith, o, l, simp length-append at z)) (rest_stops k (fill p n q) x j) in
        (x ∷ m.0, w.0 ++ m.1, m.2, joined (b ∷ s) w.0 q m.1 m.2 w.1 m.3, (w.0, m.1, refl, w.2, m.4), m.5, m.6))

    pub halts_fill : (n : ℕ) (xs : List A) (s u t : List ℕ) (k : Stop) → s ≡ u ++ t → Run S xs u → 1 ≤ length t → H k t → length s ≤ n → fill p n s ≡ fault k
    halts_fill zero xs s u t k e r m i l = absurd (omega (arith, simp length-append at (ap length e)))
    halts_fill (suc n) [] s u t k e r m i l =
        let z : s ≡ t = e ∙ ap (λ z. z ++ t) r in
        fill_more any_clean p S f n s (omega (arith, ap length z)) ∙ rw (h.from k s (subst (H k) (sym z) i))
    halts_fill (suc n) (x ∷ xs) s u t k e r m i l =
        let w = f.from x r.0 r.3 (r.1 ++ t) in
        let o = some x r.0 r.3 in
        let a = apart s u r.0 r.1 t e r.2 in
        let z : length s ≡ length r.0 + length (r.1 ++ t) = ap length a ∙ length-append r.0 (r.1 ++ t) in
        fill_more any_clean p S f n s (omega (arith, o, z))
        ∙ bind_stop (p s) _ x w.0 (r.1 ++ t) k (subst (λ s. p s ≡ got x w.0 (r.1 ++ t)) (sym a) w.2)
        (rw (halts_fill n xs (r.1 ++ t) r.1 t k refl r.4 m i (omega (arith, o, l, z))))
