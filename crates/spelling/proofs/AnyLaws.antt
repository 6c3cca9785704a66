-- A test that some element of a list meets: of lists put together and mapped, and which element it is.
use mathlib.Core.Path.{◌≡◌, refl, ap}
use mathlib.Core.Bool.{Bool, true, false, ◌||◌, or-true, or_assoc}
use mathlib.Core.List.{List, [], ◌∷◌, ◌++◌, map}
use Rattle.number.proofs.Clash.{clash}
use Rattle.format.specs.Kinds.{any}
use Rattle.spelling.specs.Flawed.{flat_map}
use Rattle.spelling.specs.FlawTable.{In}

or_swap : (a b c : Bool) → (a || (b || c)) ≡ (b || (a || c))
or_swap true true c = refl
or_swap true false c = refl
or_swap false b c = refl

pub any_append : {A : Type 0} (t : A → Bool) (xs ys : List A) → any t (xs ++ ys) ≡ (any t xs || any t ys)
any_append t [] ys = refl
any_append t (x ∷ xs) ys = rw (any_append t xs ys, or_assoc (t x) (any t xs) (any t ys))

pub any_flat : {A B : Type 0} (t : B → Bool) (g : A → List B) (xs : List A) → any t (flat_map g xs) ≡ any (λ x. any t (g x)) xs
any_flat t g [] = refl
any_flat t g (x ∷ xs) = rw (any_append t (g x) (flat_map g xs), any_flat t g xs)

pub any_both : {A : Type 0} (t u : A → Bool) (xs : List A) → any (λ x. t x || u x) xs ≡ (any t xs || any u xs)
any_both t u [] = refl
any_both t u (x ∷ xs) = rw (any_both t u xs) (go (t x) (u x) (any t xs) (any u xs))
  where
    go : (a b c d : Bool) → (a || b || (c || d)) ≡ (a || c || (b || d))
    go true b c d = refl
    go false b c d = or_swap b c d

pub any_map : {A B : Type 0} (t : A → Bool) (u : B → Bool) (g : A → B) → ((x : A) → t x ≡ u (g x)) → (xs : List A) → any t xs ≡ any u (map g xs)
any_map t u g h [] = refl
any_map t u g h (x ∷ xs) = rw (h x, any_map t u g h xs)

pub any_none : {A : Type 0} (t : A → Bool) → ((x : A) → t x ≡ false) → (xs : List A) → any t xs ≡ false
any_none t h [] = refl
any_none t h (x ∷ xs) = rw (h x, any_none t h xs)

-- ---- one of them

pub any_in : {A : Type 0} (t : A → Bool) (xs : List A) → any t xs ≡ true → (x : A) × In x xs × (t x ≡ true)
any_in t [] h = clash cc
any_in {A} t (x ∷ xs) h = go (t x) refl (any_in t xs) h
  where
    go : (b : Bool) → t x ≡ b → (any t xs ≡ true → (y : A) × In y xs × (t y ≡ true)) → (b || any t xs) ≡ true → (y : A) × In y (x ∷ xs) × (t y ≡ true)
    go true e ih h = (x, ([], xs, refl), e)
    go false e ih h = let i = ih h in (i.0, (x ∷ i.1.0, i.1.1, ap (λ l. x ∷ l) i.1.2), i.2)

pub in_any : {A : Type 0} (t : A → Bool) (xs : List A) (x : A) → In x xs → t x ≡ true → any t xs ≡ true
in_any t xs x i h = rw (i.2, any_append t i.0 (x ∷ i.1), h) (or-true (any t i.0))
