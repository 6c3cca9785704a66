-- The same entries in another order; and an entry that is among them.
use Rattle.std.specs.Prelude.{ℕ, List, [], ◌∷◌}

pub data Perm : List ℕ → List ℕ → Type 0 where
  done : Perm [] []
  keep : {x : ℕ} {xs ys : List ℕ} → Perm xs ys → Perm (x ∷ xs) (x ∷ ys)
  swap : {x y : ℕ} {xs : List ℕ} → Perm (x ∷ y ∷ xs) (y ∷ x ∷ xs)
  then : {xs ys zs : List ℕ} → Perm xs ys → Perm ys zs → Perm xs zs

-- an entry is among them
pub data In : ℕ → List ℕ → Type 0 where
  here : {x : ℕ} {xs : List ℕ} → In x (x ∷ xs)
  there : {x y : ℕ} {xs : List ℕ} → In x xs → In x (y ∷ xs)
