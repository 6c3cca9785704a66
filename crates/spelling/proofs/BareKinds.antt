-- The kinds with no payload, 01, 0C and 0D: the test of specs/Kinds.antt says what Spells.antt says by their names.
use Prim.Native.Nat.{ℕ}
use native.Mathlib.Omega.{arith}
use mathlib.Core.Path.{◌≡◌, refl}
use mathlib.Core.Logic.{◌↔◌, inl, inr}
use mathlib.Core.Bool.{Bool, true, false, ◌||◌}
use Rattle.number.proofs.Clash.{clash}
use Rattle.format.specs.declared.Kind.{Kind}
use Rattle.format.specs.declared.Kind.TheVariants.{Null, False, True}
use Rattle.format.specs.Kinds.{same, is_bare}
use Rattle.format.proofs.KindLaws.{same_eq}
use Rattle.spelling.specs.Spells.{Bare}

pub bare_exactly : (j : Kind) → (is_bare j ≡ true) ↔ Bare j
unfolding is_bare
bare_exactly j = (to, from)
  where
    fails : {X : Type 0} → false ≡ true → X
    fails h = clash cc

    by : (x y z : Bool) → same j Null ≡ x → same j False ≡ y → same j True ≡ z → (x || (y || (z || false))) ≡ true → Bare j
    by true y z e f g h = inl (same_eq j Null e)
    by false true z e f g h = inr (inl (same_eq j False f))
    by false false true e f g h = inr (inr (same_eq j True g))
    by false false false e f g h = fails h

    to : is_bare j ≡ true → Bare j
    to h = by (same j Null) (same j False) (same j True) refl refl refl h

    from : Bare j → is_bare j ≡ true
    from (inl e) = rw e
    from (inr (inl e)) = rw e
    from (inr (inr e)) = rw e

pub not_bare_exactly : (j : Kind) → (is_bare j ≡ false) ↔ (Bare j → ⊥)
not_bare_exactly j = ((λ h b. let e = (bare_exactly j).1 b in let z : ◌≡◌ {A = ℕ} 0 1 = cc in omega arith), λ f. go f (is_bare j) refl)
  where
    go : (Bare j → ⊥) → (x : Bool) → is_bare j ≡ x → x ≡ false
    go f true e = absurd (f ((bare_exactly j).0 e))
    go f false e = refl
