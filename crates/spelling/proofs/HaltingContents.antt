-- A layer's contents: a part behind its size, fields that fill and items that are counted stop exactly where specs/Halts.antt says.
use Prim.Native.Nat.{ℕ, ◌≤◌, ◌<◌}
use native.Mathlib.Omega.{arith}
use mathlib.Core.Path.{◌≡◌, refl, sym, ap, subst, ◌∙◌}
use mathlib.Core.Logic.{◌⊎◌, inl, inr}
use mathlib.Core.Bool.{◌&&◌}
use mathlib.Core.List.{List, [], ◌∷◌, ◌++◌, map, append_assoc}
use lib.ListN.{length}
use Rattle.number.specs.BigEndian.{Bytes}
use Rattle.format.specs.declared.Form.{Form}
use Rattle.format.specs.declared.Stop.{Stop}
use Rattle.format.specs.declared.Stop.TheVariants as T
use Rattle.format.specs.Kinds.{is_uniform, is_uniform_array}
use Rattle.format.specs.declared.Flaw.{Flaw}
use Rattle.format.specs.declared.Flaw.TheVariants.{Twin, NotUniform}
use Rattle.format.specs.Parse.{Out, fault, got, bind, raise, whole, sized, many, fill}
use Rattle.format.specs.Names.{twins}
use Rattle.format.specs.Tree.{Node, array, object}
use Rattle.format.specs.Payload.{Head, fields_in, items_in}
use Rattle.format.specs.Reader.{Standing, Named, Reader, kinds_in, names_in, is_typed, as_array, as_object, contents}
use Rattle.spelling.specs.Spells.{any_form, Run, Sized}
use Rattle.spelling.specs.Halts.{OrBehind, SizedHalts, FieldsHalt, ItemsHalt}
use Rattle.format.proofs.Back.{never}
use Rattle.format.proofs.Lists.{bytes_left, bytes_right}
use Rattle.format.proofs.Local.{with_put, bind_got, raise_got}
use Rattle.spelling.proofs.Grammar.{Front, Part, front_sized, raise_from}
use Rattle.spelling.proofs.GrammarRuns.{front_many, fill_to}
use Rattle.spelling.proofs.SpelledNumbers.{Any, any_clean, any_number}
use Rattle.spelling.proofs.Halting.{bind_fault, bind_stop, whole_fault, raise_fault, raise_never, Halt, halt_self, halt_as, halt_bind, halt_sized}
use Rattle.spelling.proofs.HaltingNumbers.{halt_number}
use Rattle.spelling.proofs.HaltingRuns.{many_halts, halts_many, fill_halts, halts_fill}

-- what stands outside does not matter where an inner part stops
whole_any : {A : Type 0} (o : Out A) (r q : List ℕ) (k : Stop) → whole o r ≡ fault k → whole o q ≡ fault k
whole_any (fault n) r q k h = h
whole_any (got a fs []) r q k h = never (sym h)
whole_any (got a fs (b ∷ t)) r q k h = h

pub whole_left : {A : Type 0} (o : Out A) (a : A) (fs : List Flaw) (t r : List ℕ) → o ≡ got a fs t → 1 ≤ length t → whole o r ≡ fault T.Early
whole_left o a fs [] r e l = absurd (omega arith)
whole_left o a fs (b ∷ t) r e l = rw e

module _ {X : Type 0} (p : Reader X) where
  -- a part that is a head's, and then its contents
  pub halt_part : (q : List ℕ → Out Head) (J : Stop → List ℕ → Type 0) → ((b : List ℕ) (h : Head) (fs : List Flaw) (r : List ℕ) → q b ≡ got h fs r → r ≡ [])
      → Halt (λ b. bind (q b) λ h r. whole (contents p h) r) J → Halt (λ s. bind (sized q s) λ h r. whole (contents p h) r) (SizedHalts J)
  halt_part q J uses i = halt_as _ (OrBehind (SizedHalts (λ k b. q b ≡ fault k)) (Sized any_form G) K) (SizedHalts J) out back
      (halt_bind (sized q) (λ h r. whole (contents p h) r) (Sized any_form G) (SizedHalts (λ k b. q b ≡ fault k)) K (front_sized any_clean any_number q G part)
      (halt_sized halt_number q (λ k b. q b ≡ fault k) uses (halt_self q))
      (λ h. record { to = λ s k y e. whole_any (contents p h) s [] k e; from = λ k s e. whole_any (contents p h) [] s k e }))
    where
      G : Head → List ℕ → Type 0
      G h b = (fs : List Flaw) × (q b ≡ got h fs [])

      K : Head → Stop → List ℕ → Type 0
      K h k t = whole (contents p h) [] ≡ fault k

      part : Part Any q G
      part = record { to = λ b h fs y e c. (fs, e); from = λ h b j. (j.0, tt, j.1) }

      out : (k : Stop) (s : List ℕ) → Bytes s → OrBehind (SizedHalts (λ k b. q b ≡ fault k)) (Sized any_form G) K k s → SizedHalts J k s
      out k s y (inl (inl c)) = inl c
      out k s y (inl (inr j)) =
          let z : bind (q j.1) (λ h r. whole (contents p h) r) ≡ fault k = rw j.5 in
          inr (j.0, j.1, j.2, j.3, j.4, i.to j.1 k (bytes_left _ j.1 j.2 (bytes_right _ j.0 (j.1 ++ j.2) y j.3) refl) z)
      out k s y (inr j) =
          let w = j.4 in
          let e : s ≡ w.0 ++ (w.1 ++ j.2) = j.3 ∙ (ap (λ z. z ++ j.2) w.2 ∙ append_assoc w.0 w.1 j.2) in
          inr (
            w.0,
            w.1,
            j.2,
            e,
            w.3,
            i.to w.1 k (bytes_left _ w.1 j.2 (bytes_right _ w.0 (w.1 ++ j.2) y e) refl)
                (bind_stop (q w.1) _ j.0 w.4.0 [] k w.4.1 j.5),
          )

      back : (k : Stop) (s : List ℕ) → SizedHalts J k s → OrBehind (SizedHalts (λ k b. q b ≡ fault k)) (Sized any_form G) K k s
      back k s (inl c) = inl (inl c)
      back k s (inr j) = bind_fault (q j.1) (λ h r. whole (contents p h) r) (i.from k j.1 j.5) (λ e. inl (inr (j.0, j.1, j.2, j.3, j.4, e)))
          (λ h fs r e x. inr (
            h,
            j.0 ++ j.1,
            j.2,
            j.3 ∙ sym (append_assoc j.0 j.1 j.2),
            (j.0, j.1, refl, j.4, (fs, subst (λ r. q j.1 ≡ got h fs r) (uses j.1 h fs r e) e)),
            whole_any (contents p h) r [] k x,
          ))

  module _ (S : Form → Named (Standing X) → List ℕ → Type 0) (H : Form → Stop → List ℕ → Type 0) (good : (g : Form) → Front Any (p g) (S g))
      (halts : (g : Form) → Halt (p g) (H g)) where
    pub fields_halt : (g : Form) → ((x : Named (Standing X)) (w : List ℕ) → S g x w → 1 ≤ length w)
        → Halt (λ b. whole (contents p (fields_in g b)) []) (FieldsHalt H S g)
    fields_halt g some = record {
      to = λ b k y e. whole_fault (bind (fill (p g) (length b) b) (as_object g)) [] e
          (λ i. bind_fault (fill (p g) (length b) b) (as_object g) i (fill_halts (p g) (S g) (H g) (good g) (halts g) some (length b) b k y (omega arith))
          (λ xs fs r _ j. absurd (object_never xs r k j)))
          (λ a fs c r i _. bind_got (fill (p g) (length b) b) (as_object g) i λ xs es q gs i' j' _. absurd (left_never xs es q b y i' a gs c r j'));
      from = λ k b i. rw (halts_fill (p g) (S g) (H g) (good g) (halts g) some (length b) i.0 b i.1 i.2 k i.3 i.4 i.5 i.6 (omega arith));
    }
      where
        object_never : (xs : List (Named (Standing X))) (r : List ℕ) (k : Stop) → as_object g xs r ≡ fault k → ⊥
        object_never xs r k e = raise_never (twins (names_in xs)) Twin (object xs) r (raise_fault (is_typed g && is_uniform (kinds_in xs)) NotUniform _ e)

        left_never : (xs : List (Named (Standing X))) (es : List Flaw) (q b : List ℕ) → Bytes b → fill (p g) (length b) b ≡ got xs es q
            → (a : Node (Standing X)) (gs : List Flaw) (c : ℕ) (r : List ℕ) → as_object g xs q ≡ got a gs (c ∷ r) → ⊥
        left_never xs es q b y i a gs c r j =
            raise_got (is_typed g && is_uniform (kinds_in xs)) NotUniform (raise (twins (names_in xs)) Twin (got (object xs) [] q)) j λ hs k. raise_got
            (twins (names_in xs)) Twin (got (object xs) [] q) k λ hs' k'.
            let m = fill_to any_clean (p g) (S g) (good g) (length b) b xs es q y i tt in
            let z : c ∷ r ≡ [] = cc m.0 in
            let z' : ◌≡◌ {A = ℕ} 0 1 = cc in omega arith

    pub items_halt : (g : Form) (n : ℕ) → Halt (λ b. whole (contents p (items_in g n b)) []) (ItemsHalt H S g n)
    items_halt g n = record { to = to; from = from }
      where
        to : (b : List ℕ) (k : Stop) → Bytes b → whole (contents p (items_in g n b)) [] ≡ fault k → ItemsHalt H S g n k b
        to b k y e = whole_fault (bind (many (p g) n b) (as_array g)) [] e
            (λ i. bind_fault (many (p g) n b) (as_array g) i
            (λ j. let m = many_halts (p g) (S g) (H g) (good g) (halts g) n b k y j in (m.0, m.1, m.2, m.3, m.4, inl (m.5, m.6)))
            (λ xs fs r _ j. raise_never (is_typed g && is_uniform_array (kinds_in xs)) NotUniform (array (map (λ x. x.1) xs)) r j))
            (λ a fs c r i l. bind_got (many (p g) n b) (as_array g) i λ xs es q gs i' j' _. raise_got (is_typed g && is_uniform_array (kinds_in xs)) NotUniform
            (got (array (map (λ x. x.1) xs)) [] q) j' λ hs o.
            let m = (front_many any_clean (p g) (S g) (good g) n).to b xs es q y i' tt in
            let z : q ≡ c ∷ r = cc in
            (xs, m.0, q, m.1, m.2.1, inr (m.2.0, l, rw z (omega arith))))

        left : (xs : List (Named (Standing X))) (b u t : List ℕ) → b ≡ u ++ t → Run (S g) xs u → length xs ≡ n → 1 ≤ length t
            → whole (contents p (items_in g n b)) [] ≡ fault T.Early
        left xs b u t e r l m =
            let w = (front_many any_clean (p g) (S g) (good g) n).from xs u (l, r) t in
            let o =
            raise_from any_clean (is_typed g && is_uniform_array (kinds_in xs)) NotUniform refl (got (array (map (λ x. x.1) xs)) [] t)
            (array (map (λ x. x.1) xs)) t ([], tt, refl) in
            whole_left (contents p (items_in g n b)) (array (map (λ x. x.1) xs)) (w.0 ++ o.0) t []
            (rw (e, w.2, o.2) (with_put w.0 o.0 (array (map (λ x. x.1) xs)) t)) m

        split : (k : Stop) (xs : List (Named (Standing X))) (b u t : List ℕ) → b ≡ u ++ t → Run (S g) xs u
            → ((length xs < n) × H g k t) ⊎ ((length xs ≡ n) × (k ≡ T.Early) × (1 ≤ length t))
            → whole (contents p (items_in g n b)) [] ≡ fault k
        split k xs b u t e r (inl i) = rw (halts_many (p g) (S g) (H g) (good g) (halts g) n xs b u t k e r i.0 i.1)
        split k xs b u t e r (inr i) = rw i.1 (left xs b u t e r i.0 i.2)

        from : (k : Stop) (b : List ℕ) → ItemsHalt H S g n k b → whole (contents p (items_in g n b)) [] ≡ fault k
        from k b i = split k i.0 b i.1 i.2 i.3 i.4 i.5
