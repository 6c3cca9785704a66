-- The least beginning from a bound on, and that the least but one is the first twin of entries of one name.
use Prim.Native.Nat.{ℕ, ◌+◌, ◌≤◌, ◌<◌}
use native.Mathlib.Omega.{arith}
use mathlib.Core.Path.{◌≡◌, refl, sym, ap, ◌∙◌}
use mathlib.Core.Bool.{Bool, true, false, cond}
use mathlib.Core.List.{List, [], ◌∷◌, ◌++◌, map}
use Rattle.std.specs.List.{filter, fold}
use Rattle.std.proofs.lemmas.List.{append-nil, append_assoc}
use lib.Dec.{ltb, leb}
use borrow.Author.Tests.{ltb-true, ltb-false, lt-ltb, le-ltb, leb-true, leb-false}
use Rattle.entries.specs.Entry.{begin_in, name_in}
use Rattle.entries.specs.Least.{lesser, least}
use Rattle.entries.specs.Among.{In, here, there}
use Rattle.entries.proofs.Perms.{in_left, in_last, in_cases}
use Rattle.entries.proofs.LeastLaws.{first_is, is_first_law, least_bound, least_over_law, least_pair, lesser_left, lesser_right}
use Rattle.tables.specs.Second.{nearer, smallest, second}

-- an entry begins there
pub record Begun (t : List ℕ) (bound r : ℕ) : Type 0 where
  pub entry : ℕ
  pub there : In entry t
  pub is : begin_in entry ≡ r
  pub late : bound ≤ r

-- the least beginning from a bound on; 16777216 if there is none
pub record Smallest (t : List ℕ) (bound r : ℕ) : Type 0 where
  pub most : r ≤ 16777216
  pub least : (x : ℕ) → In x t → bound ≤ begin_in x → r ≤ begin_in x
  pub begun : r < 16777216 → Begun t bound r

none_in : (x : ℕ) → In x [] → ⊥
none_in x = elim [ ]

module _ (b bound r : ℕ) where
  near_few : nearer b bound r ≤ r
  near_few = go (ltb b bound)
    where
      go : (o : Bool) → cond o r (lesser b r) ≤ r
      go true = omega arith
      go false = lesser_right b r

  near_least : bound ≤ b → nearer b bound r ≤ b
  near_least l = rw (le-ltb b bound l) (lesser_left b r)

  near_cases : {X : Type 0} → (nearer b bound r ≡ r → X) → (bound ≤ b → nearer b bound r ≡ b → X) → X
  near_cases {X} f g = go (ltb b bound) refl (ltb b r) f g
    where
      go : (o : Bool) → ltb b bound ≡ o → (q : Bool) → (cond o r (cond q b r) ≡ r → X) → (bound ≤ b → cond o r (cond q b r) ≡ b → X) → X
      go true e q f g = f refl
      go false e true f g = g (ltb-false b bound e) refl
      go false e false f g = f refl

-- one entry more, in front
in_front_law : (t : List ℕ) (y bound r : ℕ) → Smallest t bound r → Smallest (y ∷ t) bound (nearer (begin_in y) bound r)
in_front_law t y bound r w = record {
  most = omega (arith, near_few (begin_in y) bound r, w.most);
  least = λ x i l. of x i l;
  begun = λ l. near_cases (begin_in y) bound r (λ e. kept e l) (λ m e. record { entry = y; there = here; is = sym e; late = omega arith });
}
  where
    of : (x : ℕ) → In x (y ∷ t) → bound ≤ begin_in x → nearer (begin_in y) bound r ≤ begin_in x
    of x here l = near_least (begin_in y) bound r l
    of x (there i) l = omega (arith, near_few (begin_in y) bound r, w.least x i l)

    kept : nearer (begin_in y) bound r ≡ r → nearer (begin_in y) bound r < 16777216 → Begun (y ∷ t) bound (nearer (begin_in y) bound r)
    kept e l =
        let b : Begun t bound r = w.begun (omega arith) in
        record { entry = b.entry; there = there b.there; is = b.is ∙ sym e; late = omega (arith, b.late) }

upto : (t : List ℕ) (bound a b : ℕ) → Smallest t bound a → Smallest t bound b → a ≤ b
upto t bound a b w v = go (ltb b 16777216) refl
  where
    go : (o : Bool) → ltb b 16777216 ≡ o → a ≤ b
    go true e =
        let z : Begun t bound b = v.begun (ltb-true b 16777216 e) in
        omega (arith, w.least z.entry z.there (omega (arith, z.is, z.late)), z.is)
    go false e = omega (arith, w.most, ltb-false b 16777216 e)

-- ---- the definition

pub smallest_is : (bound : ℕ) (t : List ℕ) → Smallest t bound (smallest bound t)
unfolding smallest
smallest_is bound [] = record { most = omega arith; least = λ x i l. absurd (none_in x i); begun = λ l. absurd (omega arith) }
smallest_is bound (y ∷ t) = in_front_law t y bound (smallest bound t) (smallest_is bound t)

-- there is one least
pub one_smallest : (t : List ℕ) (bound a b : ℕ) → Smallest t bound a → Smallest t bound b → a ≡ b
one_smallest t bound a b w v = omega (arith, upto t bound a b w v, upto t bound b a v w)

one_more_law : (t : List ℕ) (y bound r : ℕ) → Smallest t bound r → Smallest (t ++ (y ∷ [])) bound (nearer (begin_in y) bound r)
one_more_law t y bound r w = record {
  most = omega (arith, near_few (begin_in y) bound r, w.most);
  least = λ x i l. in_cases x t y i (λ j. omega (arith, near_few (begin_in y) bound r, w.least x j l)) (λ e. of x e l);
  begun = λ l. near_cases (begin_in y) bound r (λ e. kept e l) (λ m e. record { entry = y; there = in_last t y; is = sym e; late = omega arith });
}
  where
    of : (x : ℕ) → x ≡ y → bound ≤ begin_in x → nearer (begin_in y) bound r ≤ begin_in x
    of x e l = rw e (near_least (begin_in y) bound r (rw e at l))

    kept : nearer (begin_in y) bound r ≡ r → nearer (begin_in y) bound r < 16777216 → Begun (t ++ (y ∷ [])) bound (nearer (begin_in y) bound r)
    kept e l =
        let b : Begun t bound r = w.begun (omega arith) in
        record { entry = b.entry; there = in_left t (y ∷ []) b.there; is = b.is ∙ sym e; late = omega (arith, b.late) }

-- ---- the least of those that begin from the bound on

-- of what was found and one beginning more
abbrev pub sooner : ℕ → ℕ → ℕ
sooner found begin = lesser begin found

module _ (bound : ℕ) where
  abbrev pub late : List ℕ → List ℕ
  late u = filter (λ b. leb bound b) (map begin_in u)

  late_nearer : (b r : ℕ) → leb bound b ≡ true → nearer b bound r ≡ sooner r b
  late_nearer b r e = rw (le-ltb b bound (leb-true bound b e))

  early_nearer : (b r : ℕ) → leb bound b ≡ false → nearer b bound r ≡ r
  early_nearer b r e = rw (lt-ltb b bound (leb-false bound b e))

  rest_law : (t u : List ℕ) (r : ℕ) → Smallest t bound r → Smallest (t ++ u) bound (fold sooner r (late u))
  rest_law t [] r w = rw append-nil w
  rest_law t (y ∷ u) r w =
      go (leb bound (begin_in y)) refl (one_more_law t y bound r w) (λ q v. rw (← append_assoc t (y ∷ []) u) (rest_law (t ++ (y ∷ [])) u q v))
    where
      go : (o : Bool) → leb bound (begin_in y) ≡ o → Smallest (t ++ (y ∷ [])) bound (nearer (begin_in y) bound r)
          → ((q : ℕ) → Smallest (t ++ (y ∷ [])) bound q → Smallest (t ++ (y ∷ u)) bound (fold sooner q (late u)))
          → Smallest (t ++ (y ∷ u)) bound (fold sooner r (cond o (begin_in y ∷ late u) (late u)))
      go true e v f = f (sooner r (begin_in y)) (rw (late_nearer (begin_in y) r e) at v)
      go false e v f = f r (rw (early_nearer (begin_in y) r e) at v)

  pub late_smallest : (t : List ℕ) → fold sooner 16777216 (late t) ≡ smallest bound t
  unfolding smallest
  late_smallest t =
      one_smallest t bound (fold sooner 16777216 (late t)) (smallest bound t) (rest_law [] t 16777216 (smallest_is bound [])) (smallest_is bound t)

-- ---- of entries of one name

pub second_is : (t : List ℕ) (f r : ℕ) → f ≡ smallest 0 t → r ≡ smallest (f + 1) t → r ≡ second t
unfolding second
second_is t f r e d = d ∙ ap (λ (n : ℕ). smallest (n + 1) t) e

twin_is : (t : List ℕ) (f r : ℕ) → Smallest t 0 f → Smallest t (f + 1) r
    → (s : List ℕ) → ((x e : ℕ) → In x t → In e t → name_in s x ≡ name_in s e) → r ≡ least s t
twin_is t f r w v s same = omega (arith, low s same, high s same)
  where
    low : (s : List ℕ) → ((x e : ℕ) → In x t → In e t → name_in s x ≡ name_in s e) → r ≤ least s t
    low s same = least_over_law s t r v.most (λ e x i j h. v.least e i (omega (arith, (first_is s x e h).0, w.least x j (omega arith))))

    high : (s : List ℕ) → ((x e : ℕ) → In x t → In e t → name_in s x ≡ name_in s e) → least s t ≤ r
    high s same = go (ltb r 16777216) refl
      where
        found : (b : Begun t (f + 1) r) (a : Begun t 0 f) → least s t ≤ r
        found b a =
            let z : least s t ≤ begin_in b.entry =
            least_pair s t b.entry a.entry b.there a.there
            (is_first_law s a.entry b.entry (omega (arith, a.is, b.is, b.late)) (same a.entry b.entry a.there b.there)) in
            omega (arith, b.is)

        go : (o : Bool) → ltb r 16777216 ≡ o → least s t ≤ r
        go true e = let b : Begun t (f + 1) r = v.begun (ltb-true r 16777216 e) in found b (w.begun (omega (arith, b.late, ltb-true r 16777216 e)))
        go false e = omega (arith, least_bound s t, ltb-false r 16777216 e)

pub second_twin : (s t : List ℕ) → ((x e : ℕ) → In x t → In e t → name_in s x ≡ name_in s e) → second t ≡ least s t
unfolding second
second_twin s t same = twin_is t (smallest 0 t) (smallest (smallest 0 t + 1) t) (smallest_is 0 t) (smallest_is (smallest 0 t + 1) t) s same

pub smallest_few : (bound : ℕ) (t : List ℕ) (f : ℕ) → f ≡ smallest bound t → f ≤ 16777216
smallest_few bound t f e = omega (arith, e, (smallest_is bound t).most)
