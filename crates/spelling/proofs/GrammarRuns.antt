-- Runs: n things one behind the other, or as many as fill a part, are read just as a grammar spells them.
use Prim.Native.Nat.{ℕ, zero, suc, ◌+◌, ◌≤◌}
use native.Mathlib.Omega.{arith}
use mathlib.Core.Path.{◌≡◌, refl, sym, ap, subst, ◌∙◌}
use mathlib.Core.List.{List, [], ◌∷◌, ◌++◌}
use lib.ListN.{length, length-append}
use Rattle.number.specs.BigEndian.{Bytes}
use Rattle.format.specs.declared.Flaw.{Flaw}
use Rattle.format.specs.Parse.{Out, got, bind, make, many, fill}
use Rattle.spelling.specs.Spells.{Made, Behind, Run}
use Rattle.format.proofs.Back.{never}
use Rattle.format.proofs.Lists.{bytes_right}
use Rattle.format.proofs.Local.{with_put, bind_got}
use Rattle.spelling.proofs.Grammar.{Clean, Front, front_as, front_bind, front_make}

module _ {C : List Flaw → Type 0} (clean : Clean C) {A : Type 0} (p : List ℕ → Out A) (S : A → List ℕ → Type 0) (h : Front C p S) where
  pub front_many : (n : ℕ) → Front C (many p n) (λ xs w. (length xs ≡ n) × Run S xs w)
  front_many zero = record {
    to = λ s xs fs r y e c. ([], cc, (let z : [] ≡ xs = cc in subst (λ (xs : List A). (length xs ≡ 0) × Run S xs []) z (refl, refl)));
    from = λ xs w x r. go xs w x.0 x.1 r;
  }
    where
      go : (xs : List A) (w : List ℕ) → length xs ≡ 0 → Run S xs w → (r : List ℕ) → (fs : List Flaw) × C fs × (got [] [] (w ++ r) ≡ got xs fs r)
      go [] w l e r = ([], clean.none, rw e)
      go (x ∷ xs) w l e r = absurd (omega arith)
  front_many (suc n) = front_as clean (many p (suc n)) (Behind S (λ x. Made (λ xs. x ∷ xs) (λ xs w. (length xs ≡ n) × Run S xs w))) _ out back
      (front_bind clean p (λ x r. make (λ xs. x ∷ xs) (many p n r)) S _ h (λ x. front_make clean (λ xs. x ∷ xs) (many p n) _ (front_many n)))
    where
      out : (ys : List A) (w : List ℕ) → Bytes w → Behind S (λ x. Made (λ xs. x ∷ xs) (λ xs w. (length xs ≡ n) × Run S xs w)) ys w
          → (length ys ≡ suc n) × Run S ys w
      out ys w y i = subst (λ ys. (length ys ≡ suc n) × Run S ys w) (sym i.5.1) (ap suc i.5.2.0, (i.1, i.2, i.3, i.4, i.5.2.1))

      back : (ys : List A) (w : List ℕ) → (length ys ≡ suc n) × Run S ys w → Behind S (λ x. Made (λ xs. x ∷ xs) (λ xs w. (length xs ≡ n) × Run S xs w)) ys w
      back [] w i = absurd (omega (arith, i.0))
      back (x ∷ xs) w i = (x, i.1.0, i.1.1, i.1.2, i.1.3, (xs, refl, (omega (arith, i.0), i.1.4)))

  pub fill_to : (n : ℕ) (s : List ℕ) (xs : List A) (fs : List Flaw) (r : List ℕ) → Bytes s → fill p n s ≡ got xs fs r → C fs → (r ≡ []) × Run S xs s
  fill_to zero [] xs fs r y e c = (cc, (let z : [] ≡ xs = cc in subst (λ (xs : List A). Run S xs []) z refl))
  fill_to zero (b ∷ s) xs fs r y e c = never e
  fill_to (suc n) [] xs fs r y e c = (cc, (let z : [] ≡ xs = cc in subst (λ (xs : List A). Run S xs []) z refl))
  fill_to (suc n) (b ∷ s) xs fs r y e c = bind_got (p (b ∷ s)) _ e λ x es q gs i j ef. bind_got (fill p n q) _ j λ ys es' q' gs' i' j' ef'.
      let c' = clean.right es gs (subst C ef c) in
      let u = h.to (b ∷ s) x es q y i (clean.left es gs (subst C ef c)) in
      let t = fill_to n q ys es' q' (bytes_right _ u.0 q y u.1) i' (clean.left es' gs' (subst C ef' c')) in
      let z : x ∷ ys ≡ xs = cc in
      let z' : q' ≡ r = cc in
      (sym z' ∙ t.0, subst (λ xs. Run S xs (b ∷ s)) z (u.0, q, u.1, u.2, t.1))

  pub fill_more : (n : ℕ) (s : List ℕ) → 1 ≤ length s → fill p (suc n) s ≡ bind (p s) λ x r. bind (fill p n r) λ xs q. got (x ∷ xs) [] q
  fill_more n [] l = absurd (omega arith)
  fill_more n (b ∷ s) l = refl

  fill_step : (n : ℕ) (x : A) (xs : List A) (s u t : List ℕ) (es gs : List Flaw) → s ≡ u ++ t → p (u ++ t) ≡ got x es t
      → fill p n t ≡ got xs gs [] → 1 ≤ length s → fill p (suc n) s ≡ got (x ∷ xs) (es ++ (gs ++ [])) []
  fill_step n x xs s u t es gs e i j l = fill_more n s l ∙ rw (e, i, j, with_put gs [] (x ∷ xs) []) (with_put es (gs ++ []) (x ∷ xs) [])

  pub fill_none : (n : ℕ) → fill p n [] ≡ got [] [] []
  fill_none zero = refl
  fill_none (suc n) = refl

  pub fill_from : ((x : A) (w : List ℕ) → S x w → 1 ≤ length w) → (n : ℕ) (xs : List A) (s : List ℕ) → Run S xs s → length s ≤ n
      → (fs : List Flaw) × C fs × (fill p n s ≡ got xs fs [])
  fill_from m n [] s e l = ([], clean.none, rw (e, fill_none n))
  fill_from m zero (x ∷ xs) s e l = absurd (omega (arith, m x e.0 e.3, simp length-append at (ap length e.2)))
  fill_from m (suc n) (x ∷ xs) s e l =
      let k : length s ≡ length e.0 + length e.1 = simp length-append at (ap length e.2) in
      let o = m x e.0 e.3 in
      let i = h.from x e.0 e.3 e.1 in
      let j = fill_from m n xs e.1 e.4 (omega (arith, k, o, l)) in (
        i.0 ++ (j.0 ++ []),
        clean.both i.0 (j.0 ++ []) i.1 (clean.both j.0 [] j.1 clean.none),
        fill_step n x xs s e.0 e.1 i.0 j.0 e.2 i.2 j.2 (omega (arith, k, o)),
      )
