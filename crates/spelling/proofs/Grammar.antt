-- A reader reads just what a grammar spells (specs/Spells.antt): both directions, kept by the ways of putting readers together. Which flaws are asked for is
-- open: once it is any, once none that is `long`.
use Prim.Native.Nat.{ℕ}
use native.Mathlib.Omega.{arith}
use mathlib.Core.Path.{◌≡◌, refl, sym, ap, subst, ◌∙◌}
use mathlib.Core.Bool.{Bool, true, false, cond}
use mathlib.Core.List.{List, [], ◌∷◌, ◌++◌, append_assoc}
use lib.ListN.{length, take, drop, length-append, take-append-drop}
use lib.Seq.{take_at, drop_at, length-take-le}
use lib.Dec.{ltb}
use borrow.Author.Tests.{ltb-false, le-ltb}
use Rattle.number.specs.BigEndian.{Bytes}
use Rattle.number.proofs.BigEndianLaws.{bytes_take}
use Rattle.format.specs.declared.Stop.TheVariants.{Early}
use Rattle.format.specs.declared.Flaw.{Flaw}
use Rattle.format.specs.declared.Flaw.TheVariants.{Long}
use Rattle.format.specs.Parse.{Out, fault, got, bind, raise, make, whole, read_var_uint, fixed, sized, rest}
use Rattle.spelling.specs.Spells.{All-of, Exactly, Made, Behind, Sized}
use Rattle.format.proofs.Back.{never}
use Rattle.format.proofs.Lists.{append_nil, bytes_left, bytes_right}
use Rattle.format.proofs.Local.{with_put, bind_got, whole_got}
use Rattle.spelling.proofs.Tells.{is}

-- which lists of flaws are asked for: one that is put together exactly if its parts are, and any flaw but `long`
pub record Clean (C : List Flaw → Type 0) : Type 0 where
  pub none : C []
  pub both : (fs gs : List Flaw) → C fs → C gs → C (fs ++ gs)
  pub left : (fs gs : List Flaw) → C (fs ++ gs) → C fs
  pub right : (fs gs : List Flaw) → C (fs ++ gs) → C gs
  pub other : (f : Flaw) → is f Long ≡ false → C (f ∷ [])

-- a reader from the front reads just what S spells; a reader of a part uses it up
pub record Front {A : Type 0} (C : List Flaw → Type 0) (p : List ℕ → Out A) (S : A → List ℕ → Type 0) : Type 0 where
  pub to : (s : List ℕ) (a : A) (fs : List Flaw) (r : List ℕ) → Bytes s → p s ≡ got a fs r → C fs → (w : List ℕ) × (s ≡ w ++ r) × S a w
  pub from : (a : A) (w : List ℕ) → S a w → (r : List ℕ) → (fs : List Flaw) × C fs × (p (w ++ r) ≡ got a fs r)

pub record Part {A : Type 0} (C : List Flaw → Type 0) (p : List ℕ → Out A) (S : A → List ℕ → Type 0) : Type 0 where
  pub to : (b : List ℕ) (a : A) (fs : List Flaw) → Bytes b → p b ≡ got a fs [] → C fs → S a b
  pub from : (a : A) (b : List ℕ) → S a b → (fs : List Flaw) × C fs × (p b ≡ got a fs [])

module _ {C : List Flaw → Type 0} (clean : Clean C) where
  pub front_part : {A : Type 0} (p : List ℕ → Out A) (S : A → List ℕ → Type 0) → Front C p S → Part C p S
  front_part p S h = record {
    to = λ b a fs y e c. let i = h.to b a fs [] y e c in subst (S a) (sym (i.1 ∙ append_nil i.0)) i.2;
    from = λ a b i. let j = h.from a b i [] in (j.0, j.1, subst (λ x. p x ≡ got a j.0 []) (append_nil b) j.2);
  }

  pub front_as : {A : Type 0} (p : List ℕ → Out A) (S T : A → List ℕ → Type 0) → ((a : A) (w : List ℕ) → Bytes w → S a w → T a w)
      → ((a : A) (w : List ℕ) → T a w → S a w) → Front C p S → Front C p T
  front_as p S T f g h = record {
    to = λ s a fs r y e c. let i = h.to s a fs r y e c in (i.0, i.1, f a i.0 (bytes_left _ i.0 r y i.1) i.2);
    from = λ a w t. h.from a w (g a w t);
  }

  pub front_bind : {A B : Type 0} (p : List ℕ → Out A) (k : A → List ℕ → Out B) (S : A → List ℕ → Type 0) (T : A → B → List ℕ → Type 0)
      → Front C p S → ((a : A) → Front C (k a) (T a)) → Front C (λ s. bind (p s) k) (Behind S T)
  front_bind p k S T f g = record {
    to = λ s b fs r y h c. bind_got (p s) k h λ a es q gs e e' ef.
        let i = f.to s a es q y e (clean.left es gs (subst C ef c)) in
        let j = (g a).to q b gs r (bytes_right _ i.0 q y i.1) e' (clean.right es gs (subst C ef c)) in
        (i.0 ++ j.0, i.1 ∙ (ap (λ z. i.0 ++ z) j.1 ∙ sym (append_assoc i.0 j.0 r)), (a, i.0, j.0, refl, i.2, j.2));
    from = λ b w x r.
        let i = f.from x.0 x.1 x.4 (x.2 ++ r) in
        let j = (g x.0).from b x.2 x.5 r in
        (i.0 ++ j.0, clean.both i.0 j.0 i.1 j.1, rw (x.3, append_assoc x.1 x.2 r, i.2, j.2) (with_put i.0 j.0 b r));
  }

  pub part_bind : {A B : Type 0} (p : List ℕ → Out A) (k : A → List ℕ → Out B) (S : A → List ℕ → Type 0) (T : A → B → List ℕ → Type 0)
      → Front C p S → ((a : A) → Part C (k a) (T a)) → Part C (λ s. bind (p s) k) (Behind S T)
  part_bind p k S T f g = record {
    to = λ s b fs y h c. bind_got (p s) k h λ a es q gs e e' ef.
        let i = f.to s a es q y e (clean.left es gs (subst C ef c)) in
        (a, i.0, q, i.1, i.2, (g a).to q b gs (bytes_right _ i.0 q y i.1) e' (clean.right es gs (subst C ef c)));
    from = λ b w x.
        let i = f.from x.0 x.1 x.4 x.2 in
        let j = (g x.0).from b x.2 x.5 in
        (i.0 ++ j.0, clean.both i.0 j.0 i.1 j.1, rw (x.3, i.2, j.2) (with_put i.0 j.0 b []));
  }

  pub front_got : {A : Type 0} (a : A) → Front C (λ s. got a [] s) (λ b w. (b ≡ a) × (w ≡ []))
  front_got a = record {
    to = λ s b fs r y h c. ([], cc, (cc, refl));
    from = λ b w x r. ([], clean.none, rw (x.0, x.1));
  }

  pub part_rest : Part C rest All-of
  part_rest = record { to = λ b a fs y e c. cc; from = λ a b e. ([], clean.none, rw e) }

  pub front_make : {A B : Type 0} (g : A → B) (p : List ℕ → Out A) (S : A → List ℕ → Type 0) → Front C p S → Front C (λ s. make g (p s)) (Made g S)
  front_make g p S h = front_as (λ s. make g (p s)) (Behind S (λ a b w. (b ≡ g a) × (w ≡ []))) (Made g S)
      (λ b w y x. (x.0, x.5.0, subst (S x.0) (sym (x.3 ∙ (ap (λ z. x.1 ++ z) x.5.1 ∙ append_nil x.1))) x.4))
      (λ b w x. (x.0, w, [], sym (append_nil w), x.2, (x.1, refl)))
      (front_bind p (λ a r. got (g a) [] r) S _ h (λ a. front_got (g a)))

  pub part_make : {A B : Type 0} (g : A → B) (p : List ℕ → Out A) (S : A → List ℕ → Type 0) → Part C p S → Part C (λ s. make g (p s)) (Made g S)
  part_make g p S h = record {
    to = λ s b fs y e c. bind_got (p s) _ e λ a es q gs i j ef.
        (a, cc, h.to s a es y (let z : q ≡ [] = cc in subst (λ q. p s ≡ got a es q) z i) (clean.left es gs (subst C ef c)));
    from = λ b w x.
        let i = h.from x.0 w x.2 in
        (i.0 ++ [], clean.both i.0 [] i.1 clean.none, rw (i.2, x.1) (with_put i.0 [] (g x.0) []));
  }

  -- a flaw other than `long` changes nothing
  pub front_flag : {A B : Type 0} (g : A → B) (t : A → Bool) (f : Flaw) → is f Long ≡ false → (p : List ℕ → Out A) (S : A → List ℕ → Type 0) → Front C p S
      → Front C (λ s. bind (p s) λ a r. raise (t a) f (got (g a) [] r)) (Made g S)
  front_flag g t f n p S h = front_as _ (Behind S (λ a b w. (b ≡ g a) × (w ≡ []))) (Made g S)
      (λ b w y x. (x.0, x.5.0, subst (S x.0) (sym (x.3 ∙ (ap (λ z. x.1 ++ z) x.5.1 ∙ append_nil x.1))) x.4))
      (λ b w x. (x.0, w, [], sym (append_nil w), x.2, (x.1, refl)))
      (front_bind p (λ a r. raise (t a) f (got (g a) [] r)) S _ h (λ a. go (g a) (t a)))
    where
      go : {B : Type 0} (b : B) (x : Bool) → Front C (λ s. raise x f (got b [] s)) (λ a w. (a ≡ b) × (w ≡ []))
      go b true = record {
        to = λ s a fs r y h c. ([], cc, (cc, refl));
        from = λ a w x r. (f ∷ [], clean.other f n, rw (x.0, x.1));
      }
      go b false = front_got b

  pub front_fixed : (n : ℕ) → Front C (fixed n) (Exactly n)
  unfolding fixed
  front_fixed n =
      record {
        to = λ s a fs r y h c. go s a fs r (ltb (length s) n) refl h;
        from = λ a w x r. (
          [],
          clean.none,
          rw (x.0, le-ltb (length (w ++ r)) n (rw (length-append w r) (omega (arith, x.1))), take_at w r n x.1, drop_at w r n x.1),
        );
      }
    where
      go : (s a : List ℕ) (fs : List Flaw) (r : List ℕ) (x : Bool) → ltb (length s) n ≡ x → cond x (fault Early) (got (take n s) [] (drop n s)) ≡ got a fs r
          → (w : List ℕ) × (s ≡ w ++ r) × Exactly n a w
      go s a fs r true e h = never h
      go s a fs r false e h = (take n s, cc (take-append-drop n s), (cc, length-take-le n s (ltb-false (length s) n e)))

  module _ {Num : ℕ → List ℕ → Type 0} (num : Front C read_var_uint Num) where
    pub front_sized : {A : Type 0} (p : List ℕ → Out A) (S : A → List ℕ → Type 0) → Part C p S → Front C (sized p) (Sized Num S)
    front_sized {A} p S h = record {
      to = λ s a fs r y e c. bind_got (read_var_uint s) _ e λ n es q gs i j ef.
          let x = num.to s n es q y i (clean.left es gs (subst C ef c)) in
          go s a r n q gs x.0 x.1 (bytes_right _ x.0 q y x.1) x.2 (clean.right es gs (subst C ef c)) (ltb (length q) n) refl j;
      from = λ a w x r.
          let i = num.from (length x.1) x.0 x.3 (x.1 ++ r) in
          let j = h.from a x.1 x.4 in (
            i.0 ++ j.0,
            clean.both i.0 j.0 i.1 j.1,
            rw (
              x.2,
              append_assoc x.0 x.1 r,
              i.2,
              le-ltb (length (x.1 ++ r)) (length x.1) (rw (length-append x.1 r) (omega arith)),
              take_at
                  x.1 r (length x.1) refl,
              drop_at x.1 r (length x.1) refl,
              j.2,
            ) (with_put i.0 j.0 a r),
          );
    }
      where
        go : (s : List ℕ) (a : A) (r : List ℕ) (n : ℕ) (q : List ℕ) (gs : List Flaw) (u : List ℕ) → s ≡ u ++ q → Bytes q → Num n u → C gs → (b : Bool)
            → ltb (length q) n ≡ b
            → cond b (fault Early) (whole (p (take n q)) (drop n q)) ≡ got a gs r → (w : List ℕ) × (s ≡ w ++ r) × Sized Num S a w
        go s a r n q gs u e y v c true l k = never k
        go s a r n q gs u e y v c false l k = whole_got (p (take n q)) (drop n q) k λ i j. (
          u ++ take n q,
          e ∙ (ap (λ z. u ++ z) (sym (take-append-drop n q) ∙ ap (λ z. take n q ++ z) j) ∙ sym (append_assoc u (take n q) r)),
          (u, take n q, refl, subst (λ z. Num z u) (sym (length-take-le n q (ltb-false (length q) n l))) v, h.to (take n q) a gs (bytes_take n q y) i c),
        )

  pub raise_from : {A : Type 0} (x : Bool) (f : Flaw) → is f Long ≡ false → (o : Out A) (a : A) (r : List ℕ) → (gs : List Flaw) × C gs × (o ≡ got a gs r)
      → (fs : List Flaw) × C fs × (raise x f o ≡ got a fs r)
  raise_from false f n o a r i = i
  raise_from true f n o a r i = (f ∷ i.0, clean.both (f ∷ []) i.0 (clean.other f n) i.1, rw i.2)

  pub put : {A B : Type 0} (o : Out A) (k : A → List ℕ → Out B) (a : A) (b t : B) (fs : List Flaw) → C fs → (gs : List Flaw) → C gs → o ≡ got a fs []
      → k a [] ≡ got b gs [] → t ≡ b
      → (hs : List Flaw) × C hs × (bind o k ≡ got t hs [])
  put o k a b t fs c gs d e i j = (fs ++ gs, clean.both fs gs c d, rw (e, i, j) (with_put fs gs b []))

  pub front_whole : {A : Type 0} (o : Out A) → Front C (λ r. whole o r) (λ t w. (w ≡ []) × (gs : List Flaw) × C gs × (o ≡ got t gs []))
  front_whole o = record {
    to = λ s a fs r y e c. whole_got o s e λ i j. ([], j, (refl, fs, c, i));
    from = λ a w x r. (x.1, x.2, rw (x.3, x.0));
  }
