-- What `join` and `is_uniform` return, case by case.
use Prim.Native.Nat.{ℕ}
use mathlib.Core.Path.{◌≡◌, refl, sym}
use mathlib.Core.Logic.{◌⊎◌, inl, inr}
use mathlib.Core.Bool.{Bool, true, false, ◌||◌, or-false}
use borrow.Author.Tests.{eq-eqb, ne_eqb}
use Rattle.run.specs.Run.{join, uniform}

module _ (c i : ℕ) where
  pub join_first : c ≡ 0 → i ≡ join c i
  unfolding join
  join_first h = rw h

  pub join_same : (c ≡ 0 → ⊥) → c ≡ i → c ≡ join c i
  unfolding join
  join_same h e = rw (ne_eqb c 0 h, eq-eqb c i e)

  pub join_mixed : (c ≡ 0 → ⊥) → (c ≡ i → ⊥) → 255 ≡ join c i
  unfolding join
  join_mixed h e = rw (ne_eqb c 0 h, ne_eqb c i e)

module _ (b : Bool) (c : ℕ) where
  pub uniform_none : c ≡ 0 → false ≡ uniform b c
  unfolding uniform
  uniform_none h = rw h

  pub uniform_mixed : c ≡ 255 → false ≡ uniform b c
  unfolding uniform
  uniform_mixed h = rw h

  pub uniform_bare : (c ≡ 1) ⊎ ((c ≡ 12) ⊎ (c ≡ 13)) → b ≡ uniform b c
  unfolding uniform
  uniform_bare (inl h) = rw h (sym (or-false b))
  uniform_bare (inr (inl h)) = rw h (sym (or-false b))
  uniform_bare (inr (inr h)) = rw h (sym (or-false b))

  pub uniform_other : (c ≡ 0 → ⊥) → (c ≡ 255 → ⊥) → (c ≡ 1 → ⊥) → (c ≡ 12 → ⊥) → (c ≡ 13 → ⊥) → true ≡ uniform b c
  unfolding uniform
  uniform_other h i j k l = rw (ne_eqb c 0 h, ne_eqb c 255 i, ne_eqb c 1 j, ne_eqb c 12 k, ne_eqb c 13 l) (yes b)
    where
      yes : (b : Bool) → true ≡ (b || true)
      yes true = refl
      yes false = refl
