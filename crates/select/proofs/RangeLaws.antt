-- Ranges of names: what is up to a bound is not above it, and entries of one name are in the same ranges.
use Prim.Native.Nat.{ℕ, ◌<◌}
use mathlib.Core.Path.{◌≡◌, refl, sym, ap, ◌∙◌}
use mathlib.Core.Bool.{Bool, true, false, cond}
use mathlib.Core.List.{List}
use lib.Dec.{leb}
use borrow.Author.Tests.{leb-false, lt-leb}
use Rattle.std.proofs.Common.{Option, None, Some}
use Rattle.std.specs.declared.cmp.Ordering.{Ordering}
use Rattle.std.specs.declared.cmp.Ordering.TheVariants.{Less, Equal, Greater}
use Rattle.std.specs.Ordering.{is_gt, is_le}
use Rattle.number.proofs.Clash.{clash}
use Rattle.entries.specs.Entry.{begin_in, name_in}
use Rattle.compare.specs.Order.{order}
use Rattle.compare.proofs.OrderLaws.{order_same, order_refl, order_trans}
use Rattle.select.specs.Range.{above, up_to, wanted}

module _ (s : List ℕ) (y e : ℕ) where
  pub not_above : up_to s (Some y) e ≡ true → above s (Some y) e ≡ false
  not_above h = go (order (name_in s e) (name_in s y)) h
    where
      go : (o : Ordering) → is_le o ≡ true → is_gt o ≡ false
      go Less h = refl
      go Equal h = refl
      go Greater h = clash cc

  pub is_up_to : above s (Some y) e ≡ false → up_to s (Some y) e ≡ true
  is_up_to h = go (order (name_in s e) (name_in s y)) h
    where
      go : (o : Ordering) → is_gt o ≡ false → is_le o ≡ true
      go Less h = refl
      go Equal h = refl
      go Greater h = clash cc

  pub up_cases : {X : Type 0} → up_to s (Some y) e ≡ true → (order (name_in s e) (name_in s y) ≡ Less → X) → (name_in s e ≡ name_in s y → X) → X
  up_cases {X} h f g = go (order (name_in s e) (name_in s y)) refl h
    where
      go : (o : Ordering) → order (name_in s e) (name_in s y) ≡ o → is_le o ≡ true → X
      go Less i h = f i
      go Equal i h = g (order_same (name_in s e) (name_in s y) i)
      go Greater i h = clash cc

  pub up_less : order (name_in s e) (name_in s y) ≡ Less → up_to s (Some y) e ≡ true
  up_less h = ap is_le h

  pub up_same : name_in s e ≡ name_in s y → up_to s (Some y) e ≡ true
  up_same h = ap (λ (n : List ℕ). is_le (order n (name_in s y))) h ∙ ap is_le (order_refl (name_in s y))

pub same_above : (s : List ℕ) (low : Option ℕ) (x e : ℕ) → name_in s x ≡ name_in s e → above s low x ≡ above s low e
same_above s None x e h = refl
same_above s (Some y) x e h = ap (λ (n : List ℕ). is_gt (order n (name_in s y))) h

pub same_up : (s : List ℕ) (high : Option ℕ) (x e : ℕ) → name_in s x ≡ name_in s e → up_to s high x ≡ up_to s high e
same_up s None x e h = refl
same_up s (Some y) x e h = ap (λ (n : List ℕ). is_le (order n (name_in s y))) h

pub up_trans : (s : List ℕ) (high : Option ℕ) (y e : ℕ) → up_to s (Some y) e ≡ true → up_to s high y ≡ true → up_to s high e ≡ true
up_trans s None y e h i = refl
up_trans s (Some z) y e h i =
    up_cases s y e h
    (λ l. up_cases s z y i (λ k. up_less s z e (order_trans (name_in s e) (name_in s y) (name_in s z) l k))
    (λ k. up_less s z e (ap (λ (n : List ℕ). order (name_in s e) n) (sym k) ∙ l)))
    (λ d. same_up s (Some z) e y d ∙ i)

-- a name that is above one bound and up to the other, and begins before a place
pub record Wanted (s : List ℕ) (low high : Option ℕ) (stop e : ℕ) : Type 0 where
  pub begins : begin_in e < stop
  pub over : above s low e ≡ true
  pub under : up_to s high e ≡ true

module _ (s : List ℕ) (low high : Option ℕ) (stop e : ℕ) where
  pub wanted_is : wanted s low high stop e ≡ true → Wanted s low high stop e
  unfolding wanted
  wanted_is h = go (leb stop (begin_in e)) (above s low e) refl refl h
    where
      go : (a b : Bool) → leb stop (begin_in e) ≡ a → above s low e ≡ b → cond a false (cond b (up_to s high e) false) ≡ true → Wanted s low high stop e
      go true b i j h = clash cc
      go false true i j h = record { begins = leb-false stop (begin_in e) i; over = j; under = h }
      go false false i j h = clash cc

  pub is_wanted : Wanted s low high stop e → wanted s low high stop e ≡ true
  unfolding wanted
  is_wanted w = rw (lt-leb stop (begin_in e) w.begins, w.over) w.under
