-- The kinds met so far, one more, and what a container's uniformity asks of them.
use Prim.Native.Nat.{ℕ}
use native.Mathlib.Omega.{arith}
use mathlib.Core.Path.{◌≡◌, refl, sym, ◌∙◌}
use mathlib.Core.Bool.{Bool, true, false, not, ◌&&◌, ◌||◌, cond, and_assoc, and-true}
use mathlib.Core.List.{List, [], ◌∷◌, ◌++◌, map}
use lib.Dec.{eqb}
use borrow.Author.Tests.{ne_eqb}
use Rattle.format.specs.declared.Kind.{Kind}
use Rattle.format.specs.Kinds.{id, same, all, is_bare, is_uniform, is_uniform_array}
use Rattle.format.proofs.KindLaws.{bare_is, id_range}
use Rattle.run.specs.Run.{shared, run_of, join, uniform}

map_snoc : (ks : List Kind) (l : Kind) → map id (ks ++ (l ∷ [])) ≡ map id ks ++ (id l ∷ [])
map_snoc [] l = refl
map_snoc (k ∷ ks) l = rw (map_snoc ks l)

all_snoc : (f : ℕ → Bool) (is : List ℕ) (i : ℕ) → all f (is ++ (i ∷ [])) ≡ (all f is && f i)
all_snoc f [] i = and-true (f i)
all_snoc f (j ∷ is) i = rw (all_snoc f is i) (sym (and_assoc (f j) (all f is) (f i)))

pub run_snoc : (ks : List Kind) (l : Kind) → run_of (ks ++ (l ∷ [])) ≡ join (run_of ks) (id l)
unfolding shared join
run_snoc [] l = refl
run_snoc (k ∷ ks) l = rw (map_snoc ks l, all_snoc (eqb (id k)) (map id ks) (id l)) (at (all (eqb (id k)) (map id ks)))
  where
    last : (b : Bool) → ◌≡◌ {A = ℕ} 255 (cond b 255 255)
    last true = refl
    last false = refl

    at : (a : Bool) → cond (a && eqb (id k) (id l)) (id k) 255
        ≡ cond (eqb (cond a (id k) 255) 0) (id l) (cond (eqb (cond a (id k) 255) (id l)) (cond a (id k) 255) 255)
    at true = rw (ne_eqb (id k) 0 (λ e. omega (arith, (id_range k).0)))
    at false = last (eqb 255 (id l))

-- ---- uniform

all_ids : (k : Kind) (ks : List Kind) → all (same k) ks ≡ all (eqb (id k)) (map id ks)
all_ids k [] = refl
all_ids k (l ∷ ks) = rw (all_ids k ks)

-- of one kind's ID, whether that is shared or not
uniform_one : (named : Bool) (k : Kind) (a : Bool) → uniform named (cond a (id k) 255) ≡ (a && (named || not (is_bare k)))
unfolding uniform
uniform_one named k true =
    rw (ne_eqb (id k) 0 (λ e. omega (arith, (id_range k).0)), ne_eqb (id k) 255 (λ e. omega (arith, (id_range k).1)), bare_is (id k) k refl)
uniform_one named k false = refl

pub run_uniform : (ks : List Kind) → uniform true (run_of ks) ≡ is_uniform ks
unfolding is_uniform shared uniform
run_uniform [] = refl
run_uniform (k ∷ ks) = uniform_one true k (all (eqb (id k)) (map id ks)) ∙ and-true (all (eqb (id k)) (map id ks)) ∙ sym (all_ids k ks)

pub run_uniform_array : (ks : List Kind) → uniform false (run_of ks) ≡ is_uniform_array ks
unfolding is_uniform_array shared uniform
run_uniform_array [] = refl
run_uniform_array (k ∷ ks) = uniform_one false k (all (eqb (id k)) (map id ks)) ∙ rw (← all_ids k ks) (turned (all (same k) ks) (not (is_bare k)))
  where
    turned : (a b : Bool) → (a && b) ≡ (b && a)
    turned true true = refl
    turned true false = refl
    turned false true = refl
    turned false false = refl
