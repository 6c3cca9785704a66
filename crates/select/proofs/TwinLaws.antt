-- A twin begins before 16777216 exactly if two of the names are equal.
use Prim.Native.Nat.{ℕ, suc, ◌≤◌, ◌<◌}
use native.Mathlib.Omega.{arith}
use mathlib.Core.Path.{◌≡◌, refl, sym, ap, ◌∙◌}
use mathlib.Core.Bool.{Bool, true, false, ◌||◌}
use mathlib.Core.List.{List, [], ◌∷◌, map}
use lib.Dec.{ltb}
use borrow.Author.Tests.{lt-ltb, le-ltb, eq-eqb}
use Rattle.number.proofs.Clash.{clash}
use Rattle.text.specs.Equal.{equal}
use Rattle.format.specs.Kinds.{any}
use Rattle.format.specs.Names.{twins}
use Rattle.entries.specs.Entry.{begin_in, bytes_in, name_in}
use Rattle.entries.specs.Least.{least}
use Rattle.entries.specs.Among.{In, here, there}
use Rattle.select.proofs.HalfLaws.{none_in, in_first}
use Rattle.entries.proofs.LeastLaws.{begin_below, first_is, is_first_law, least_over_law, least_pair}

-- ---- entries that begin one behind the other

abbrev pub Ascends : ℕ → List ℕ → Type 0
Ascends m [] = Unit {0}
Ascends m (e ∷ es) = (m ≤ begin_in e) × Ascends (suc (begin_in e)) es

pub ascends_less : (m n : ℕ) (es : List ℕ) → n ≤ m → Ascends m es → Ascends n es
ascends_less m n [] l h = tt
ascends_less m n (e ∷ es) l h = (omega (arith, h.0), h.1)

pub ascends_in : (m : ℕ) {e : ℕ} {es : List ℕ} → Ascends m es → In e es → m ≤ begin_in e
ascends_in m h here = h.0
ascends_in m h (there {x = x} {y = y} {xs = xs} i) = let w = ascends_in (suc (begin_in y)) h.1 i in omega (arith, h.0)

-- names of one key have one name where their bytes are equal
abbrev pub Keyed : List ℕ → List ℕ → Type 0
Keyed s es = (x e : ℕ) → In x es → In e es → equal (bytes_in s x) (bytes_in s e) ≡ true → name_in s x ≡ name_in s e

or_left : (a b : Bool) → a ≡ true → (a || b) ≡ true
or_left a b h = rw h

or_right : (a b : Bool) → b ≡ true → (a || b) ≡ true
or_right true b h = refl
or_right false b h = h

equal_self : (n : List ℕ) → equal n n ≡ true
unfolding equal
equal_self [] = refl
equal_self (b ∷ n) = rw (eq-eqb b b refl) (equal_self n)

module _ (s : List ℕ) where
  abbrev names : List ℕ → List (List ℕ)
  names es = map (λ e. bytes_in s e) es

  any_in : (n : List ℕ) (es : List ℕ) → any (equal n) (names es) ≡ true → {X : Type 0} → ((e : ℕ) → In e es → equal n (bytes_in s e) ≡ true → X) → X
  any_in n [] h f = clash cc
  any_in n (e ∷ es) h {X} f = go (equal n (bytes_in s e)) refl h (λ i g. any_in n es i g)
    where
      go : (b : Bool) → equal n (bytes_in s e) ≡ b → (b || any (equal n) (names es)) ≡ true
          → (any (equal n) (names es) ≡ true → ((e : ℕ) → In e es → equal n (bytes_in s e) ≡ true → X) → X) → X
      go true q h k = f e here q
      go false q h k = k h (λ d i j. f d (there i) j)

  in_any : (n : List ℕ) {e : ℕ} {es : List ℕ} → In e es → equal n (bytes_in s e) ≡ true → any (equal n) (names es) ≡ true
  in_any n here h = rw h
  in_any n (there {y = y} {xs = xs} i) h = go (equal n (bytes_in s y)) (in_any n i h)
    where
      go : (b : Bool) → any (equal n) (names xs) ≡ true → (b || any (equal n) (names xs)) ≡ true
      go true q = refl
      go false q = q

  pair_twins : (m : ℕ) (es : List ℕ) → Ascends m es → (x e : ℕ) → In x es → In e es → begin_in x < begin_in e → equal (bytes_in s x) (bytes_in s e) ≡ true
      → twins (names es) ≡ true
  unfolding twins
  pair_twins m [] a x e i j l h = none_in x [] i refl
  pair_twins m (y ∷ es) a x e i j l h =
      in_first x y es i
      (λ d. in_first e y es j (λ c. absurd (let z : x ≡ e = d ∙ sym c in let w : begin_in x ≡ begin_in e = ap begin_in z in omega arith))
      (λ k. or_left (any (equal (bytes_in s y)) (names es)) (twins (names es))
      (in_any (bytes_in s y) k (ap (λ (n : ℕ). equal (bytes_in s n) (bytes_in s e)) (sym d) ∙ h))))
      (λ k. in_first e y es j
      (λ c. absurd (let w = ascends_in (suc (begin_in y)) a.1 k in let v : begin_in e ≡ begin_in y = ap begin_in c in omega arith))
      (λ q. or_right (any (equal (bytes_in s y)) (names es)) (twins (names es)) (pair_twins (suc (begin_in y)) es a.1 x e k q l h)))

  twins_pair : {X : Type 0} (m : ℕ) (es : List ℕ) → Ascends m es → twins (names es) ≡ true
      → ((x e : ℕ) → In x es → In e es → begin_in x < begin_in e → equal (bytes_in s x) (bytes_in s e) ≡ true → X) → X
  unfolding twins
  twins_pair m [] a h f = clash cc
  twins_pair {X} m (y ∷ es) a h f =
      go (any (equal (bytes_in s y)) (names es)) refl h
      (λ q. twins_pair (suc (begin_in y)) es a.1 q (λ x e i j l d. f x e (there i) (there j) l d))
    where
      go : (b : Bool) → any (equal (bytes_in s y)) (names es) ≡ b → (b || twins (names es)) ≡ true → (twins (names es) ≡ true → X) → X
      go true q h k = any_in (bytes_in s y) es q (λ e i d. f y e here (there i) (let w = ascends_in (suc (begin_in y)) a.1 i in omega arith) d)
      go false q h k = k h

  pub twins_are : (m : ℕ) (es : List ℕ) → Ascends m es → Keyed s es → ltb (least s es) 16777216 ≡ twins (names es)
  twins_are m es a keyed = go (twins (names es)) refl
    where
      go : (b : Bool) → twins (names es) ≡ b → ltb (least s es) 16777216 ≡ b
      go true h = twins_pair m es a h λ x e i j l d.
          let w = least_pair s es e x j i (is_first_law s x e l (keyed x e i j d)) in
          lt-ltb (least s es) 16777216 (omega (arith, begin_below e))
      go false h = le-ltb (least s es) 16777216 (least_over_law s es 16777216 (omega arith) λ e x j i f.
          let w = first_is s x e f in
          let d : equal (bytes_in s x) (bytes_in s e) ≡ true = ap (λ (n : List ℕ). equal (tail n) (bytes_in s e)) w.1 ∙ equal_self (bytes_in s e) in
          let z : true ≡ false = sym (pair_twins m es a x e i j w.0 d) ∙ h in
          clash cc)
        where
          tail : List ℕ → List ℕ
          tail [] = []
          tail (b ∷ n) = n
