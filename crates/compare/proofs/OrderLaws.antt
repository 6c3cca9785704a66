-- The order of names is a strict order, and that of entries is total.
use Prim.Native.Nat.{ℕ, ◌≤◌, ◌<◌}
use native.Mathlib.Omega.{arith}
use mathlib.Core.Path.{◌≡◌, refl, sym, ap, ◌∙◌}
use mathlib.Core.Bool.{true, false}
use mathlib.Core.List.{List, ◌∷◌}
use lib.Pointwise.{bytes_decides}
use Rattle.number.proofs.Clash.{clash}
use Rattle.std.specs.declared.cmp.Ordering.{Ordering}
use Rattle.std.specs.declared.cmp.Ordering.TheVariants.{Less, Equal, Greater}
use Rattle.std.specs.Ordering.{MatchOrdering, nat_cmp, ordering_then, ordering_reverse, is_le, is_eq}
use Rattle.std.specs.Cmp.{ranks, nat_cmp_is, tied_itself}
use Rattle.std.specs.Cmp.Lexicographic.{slice_cmp, texts_ties, nat_list_cmp_total}
use Rattle.entries.specs.Entry.{begin_in, name_in}
use Rattle.entries.proofs.LeastLaws.{name_key}
use Rattle.compare.specs.Order.{order, upto}

-- ---- names

pub order_refl : (s : List ℕ) → order s s ≡ Equal
unfolding order
order_refl s = tied_itself nat_list_cmp_total s

pub order_same : (s t : List ℕ) → order s t ≡ Equal → s ≡ t
unfolding order
order_same s t h = (bytes_decides s t).0 (texts_ties s t ∙ ap is_eq h)

pub order_flip : (s t : List ℕ) → order s t ≡ Greater → order t s ≡ Less
unfolding order
order_flip s t h = nat_list_cmp_total.antisymm t s ∙ ap ordering_reverse h

pub order_trans : (s t u : List ℕ) → order s t ≡ Less → order t u ≡ Less → order s u ≡ Less
unfolding order
order_trans s t u h i = nat_list_cmp_total.trans s t u h i

-- two names that begin with these numbers
module _ (a b : ℕ) (s t : List ℕ) where
  pub order_apart : (a ≡ b → ⊥) → nat_cmp a b ≡ order (a ∷ s) (b ∷ t)
  unfolding order
  order_apart f = go (nat_cmp a b) (ranks a b)
    where
      go : (r : Ordering) → MatchOrdering r (a < b) (a ≡ b) (b < a) → r ≡ ordering_then r (slice_cmp nat_cmp s t)
      go Less h = refl
      go Equal h = absurd (f h)
      go Greater h = refl

  pub order_level : a ≡ b → order s t ≡ order (a ∷ s) (b ∷ t)
  unfolding order
  order_level h = ap (λ (r : Ordering). ordering_then r (slice_cmp nat_cmp s t)) (nat_cmp_is a b Equal h)

pub order_not : {X : Type 0} (s : List ℕ) → order s s ≡ Less → X
order_not s h = let z : Equal ≡ Less = sym (order_refl s) ∙ h in clash cc

-- ---- entries

-- x is up to y: its name is less, or they have one name and its number is no greater
pub data Upto (s : List ℕ) (x y : ℕ) : Type 0 where
  less : order (name_in s x) (name_in s y) ≡ Less → Upto s x y
  same : name_in s x ≡ name_in s y → x ≤ y → Upto s x y

-- the two numbers, by what `cmp` answers
numbers_are : (x y : ℕ) (o : Ordering) → MatchOrdering o (x < y) (x ≡ y) (y < x) → is_le o ≡ true → x ≤ y
numbers_are x y Less l h = omega arith
numbers_are x y Equal l h = omega arith
numbers_are x y Greater l h = clash cc

numbers_are_not : (x y : ℕ) (o : Ordering) → MatchOrdering o (x < y) (x ≡ y) (y < x) → is_le o ≡ false → y < x
numbers_are_not x y Less l h = clash cc
numbers_are_not x y Equal l h = clash cc
numbers_are_not x y Greater l h = l

numbers_upto : (x y : ℕ) (o : Ordering) → MatchOrdering o (x < y) (x ≡ y) (y < x) → x ≤ y → is_le o ≡ true
numbers_upto x y Less l h = refl
numbers_upto x y Equal l h = refl
numbers_upto x y Greater l h = absurd (omega arith)

module _ (s : List ℕ) (x y : ℕ) where
  by_order : (o : Ordering) → order (name_in s x) (name_in s y) ≡ o → upto s x y ≡ is_le (ordering_then o (nat_cmp x y))
  unfolding upto
  by_order o h = ap (λ (p : Ordering). is_le (ordering_then p (nat_cmp x y))) h

  pub upto_is : upto s x y ≡ true → Upto s x y
  upto_is h = go (order (name_in s x) (name_in s y)) refl
    where
      go : (o : Ordering) → order (name_in s x) (name_in s y) ≡ o → Upto s x y
      go Less e = less e
      go Equal e = same (order_same (name_in s x) (name_in s y) e) (numbers_are x y (nat_cmp x y) (ranks x y) (sym (by_order Equal e) ∙ h))
      go Greater e = let z : false ≡ true = sym (by_order Greater e) ∙ h in clash cc

  pub is_upto_law : Upto s x y → upto s x y ≡ true
  is_upto_law (less h) = by_order Less h
  is_upto_law (same e l) =
      by_order Equal (ap (λ (n : List ℕ). order (name_in s x) n) (sym e) ∙ order_refl (name_in s x)) ∙ numbers_upto x y (nat_cmp x y) (ranks x y) l

  pub upto_not : upto s x y ≡ false → Upto s y x
  upto_not h = go (order (name_in s x) (name_in s y)) refl
    where
      go : (o : Ordering) → order (name_in s x) (name_in s y) ≡ o → Upto s y x
      go Less e = let z : true ≡ false = sym (by_order Less e) ∙ h in clash cc
      go Equal e =
          let l : y < x = numbers_are_not x y (nat_cmp x y) (ranks x y) (sym (by_order Equal e) ∙ h) in
          same (sym (order_same (name_in s x) (name_in s y) e)) (omega arith)
      go Greater e = less (order_flip (name_in s x) (name_in s y) e)

-- of one name, what is up to the other begins no later
pub upto_begins : (s : List ℕ) (x y : ℕ) → Upto s x y → name_in s x ≡ name_in s y → begin_in x ≤ begin_in y
upto_begins s x y (less h) e = order_not (name_in s x) (ap (λ (n : List ℕ). order (name_in s x) n) e ∙ h)
upto_begins s x y (same d l) e = omega (arith, name_key s x y e)

pub upto_refl : (s : List ℕ) (x : ℕ) → Upto s x x
upto_refl s x = same refl (omega arith)

pub upto_trans : (s : List ℕ) (x y z : ℕ) → Upto s x y → Upto s y z → Upto s x z
upto_trans s x y z (less h) (less i) = less (order_trans (name_in s x) (name_in s y) (name_in s z) h i)
upto_trans s x y z (less h) (same e l) = less (ap (λ (n : List ℕ). order (name_in s x) n) (sym e) ∙ h)
upto_trans s x y z (same d k) (less i) = less (ap (λ (n : List ℕ). order n (name_in s z)) d ∙ i)
upto_trans s x y z (same d k) (same e l) = same (d ∙ e) (omega arith)

pub upto_one : (s : List ℕ) (x y : ℕ) → Upto s x y → Upto s y x → x ≡ y
upto_one s x y (less h) (less i) = order_not (name_in s x) (order_trans (name_in s x) (name_in s y) (name_in s x) h i)
upto_one s x y (less h) (same e l) = order_not (name_in s x) (ap (λ (n : List ℕ). order (name_in s x) n) (sym e) ∙ h)
upto_one s x y (same d k) (less i) = order_not (name_in s y) (ap (λ (n : List ℕ). order (name_in s y) n) (sym d) ∙ i)
upto_one s x y (same d k) (same e l) = omega arith

-- what stands between two entries of one name has it
pub between : (s : List ℕ) (x y z : ℕ) → Upto s x y → Upto s y z → name_in s x ≡ name_in s z → name_in s y ≡ name_in s z
between s x y z (less h) (less i) e =
    order_not (name_in s x) (ap (λ (n : List ℕ). order (name_in s x) n) e ∙ order_trans (name_in s x) (name_in s y) (name_in s z) h i)
between s x y z (less h) (same d l) e = d
between s x y z (same d k) i e = sym d ∙ e
