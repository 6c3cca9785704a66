-- One turn: few entries, or entries of one name, are done with; entries that have one digit in common go on with the next; others are divided. And turn after
-- turn.
use Prim.Native.Nat.{ℕ, min, ◌+◌, ◌-◌, ◌/◌, ◌≤◌, ◌<◌}
use native.Mathlib.Omega.{arith}
use mathlib.Core.Path.{◌≡◌, refl, sym, ap, ◌∙◌}
use mathlib.Core.Bool.{Bool, true, false, cond}
use mathlib.Core.List.{List, [], ◌++◌, append-nil}
use lib.Dec.{ltb}
use borrow.Author.Tests.{ltb-true, ltb-false}
use lib.ListN.{length, take, drop, get_or, length-drop, length-append, take-append-drop, drop_of_length-le}
use lib.Seq.{take_all, take-length, take_at, take-append-le, length-take-le, length_front}
use Rattle.entries.specs.Entry.{length_in}
use Rattle.entries.specs.Least.{lesser, least_of, least}
use Rattle.entries.specs.Among.{In}
use Rattle.entries.proofs.Perms.{perm_in, perm_length}
use Rattle.entries.proofs.LeastLaws.{lesser_left, least_bound}
use Rattle.divide.specs.Passes.{digit_in, Reach, Alike, Ranges, Astride, Parts, Narrows, Tells}
use Rattle.tables.specs.Second.{second}
use Rattle.tables.proofs.FitReturns.{in_at}
use Rattle.tables.proofs.SecondReturns.{second_twin}
use Rattle.divide.proofs.TableLaws.{none_in, in_take, in_drop}
use Rattle.divide.proofs.ApartLaws.{least_apart, lesser_swap, lesser_assoc, lesser_none}
use Rattle.divide.proofs.DepthLaws.{bits, bits_upto, bits_half}
use Rattle.divide.proofs.DigitLaws.{alike_fewer, alike_reach, alike_end, alike_on, other_name}

least_of_two : (a b : ℕ) → min b a ≡ lesser a b
least_of_two a b = go (ltb a b) refl
  where
    go : (o : Bool) → ltb a b ≡ o → min b a ≡ cond o a b
    go true e = omega (arith, ltb-true a b e)
    go false e = omega (arith, ltb-false a b e)

alike_none : (s : List ℕ) (j : ℕ) → Alike s j []
alike_none s j = record { fit = λ x i. absurd (none_in x i); reach = λ x i. absurd (none_in x i); alike = λ x e i k. absurd (none_in x i) }

least_none : (s : List ℕ) → least s [] ≡ 16777216
unfolding least_of
least_none s = refl

-- none is left
all_done : (s : List ℕ) (j : ℕ) (t : List ℕ) (b : ℕ) → 0 < length t → b ≡ least s t → Narrows s j t t b 0 j
all_done s j t b l e = record {
  length_kept = refl;
  few = omega arith;
  less = omega arith;
  bound = omega (arith, least_bound s t);
  alike = alike_none s j;
  is = ap (lesser b) (least_none s) ∙ (lesser_none b (omega (arith, least_bound s t)) ∙ e);
}

pub narrow_few : (s : List ℕ) (j : ℕ) (t : List ℕ) (b : ℕ) → 0 < length t → b ≡ least s (take (length t) t) → Narrows s j t t b 0 j
narrow_few s j t b l e = all_done s j t b l (e ∙ ap (least s) (take-length t))

module _ (s : List ℕ) (j : ℕ) (t : List ℕ) (l : 0 < length t) (w : Alike s j t) where
  first_in : In (get_or t 0 0) t
  first_in = in_at t 0 l

  pub narrow_one : length_in (get_or t 0 0) < j → (b : ℕ) → b ≡ second t → Narrows s j t t b 0 j
  narrow_one h b e = all_done s j t b l (e ∙ second_twin s t (alike_end s j t w (get_or t 0 0) first_in h))

  module _ (h : j ≤ length_in (get_or t 0 0)) where
    pub narrow_reach : Reach s j t
    narrow_reach = alike_reach s j t w (get_or t 0 0) first_in h

    module _ (low high : ℕ) (r : Ranges s j t low high) where
      pub narrow_on : high ≤ low → Narrows s j t t 16777216 (length t) (j + 1)
      narrow_on m = record {
        length_kept = refl;
        few = omega arith;
        less = omega (arith, narrow_reach.reach (get_or t 0 0) first_in);
        bound = omega arith;
        alike = rw (take-length t) (alike_on s j t w (get_or t 0 0) first_in narrow_reach one_digit);
        is = ap (λ (u : List ℕ). lesser 16777216 (least s u)) (take-length t)
            ∙ (lesser_swap 16777216 (least s t) ∙ lesser_none (least s t) (least_bound s t));
      }
        where
          one_digit : (x e : ℕ) → In x t → In e t → digit_in s j x ≡ digit_in s j e
          one_digit x e i k = omega (arith, r.least x i, r.least e k, r.greatest x i, r.greatest e k)

      pub narrow_astride : low < high → Astride s j (low + (high - low) / 2) t
      narrow_astride m = record {
        reach = narrow_reach;
        low = low;
        high = high;
        low_shown = r.low_shown;
        high_shown = r.high_shown;
        low_is = omega arith;
        high_is = below low high m;
      }
        where
          below : (a b : ℕ) → a < b → a + (b - a) / 2 < b
          below a b k = omega arith

-- ---- divided: the first k of t₁ stay, and the others were lent

rest_is : (k : ℕ) (t : List ℕ) → take (length t - k) (drop k t) ≡ drop k t
rest_is k t = take_all (length t - k) (drop k t) (omega (arith, length-drop k t))

module _ (s : List ℕ) (j : ℕ) (t t₁ : List ℕ) (k : ℕ) (w : Alike s j t) (p : Parts s j t t₁ k) where
  kept_length : length t₁ ≡ length t
  kept_length = perm_length p.perm

  pub lent_few : k ≤ length t₁
  lent_few = omega (arith, kept_length, p.few)

  lent_length : length (take (length t₁ - k) (drop k t₁)) ≡ length t₁ - k
  lent_length = ap length (rest_is k t₁) ∙ length-drop k t₁

  pub lent_less : bits (length (take (length t₁ - k) (drop k t₁))) < bits (length t)
  lent_less =
      bits_half (length (take (length t₁ - k) (drop k t₁))) (length t)
      (half (length t) k (length t₁) (length (take (length t₁ - k) (drop k t₁))) kept_length lent_length p.most)
      (omega (arith, p.few))
    where
      half : (n k m u : ℕ) → m ≡ n → u ≡ m - k → n ≤ k + k → u + u ≤ n
      half n k m u e f l = omega arith

  alike_all : Alike s j t₁
  alike_all = alike_fewer s j t t₁ (λ x i. perm_in p.perm i) w

  pub lent_alike : Alike s j (take (length t₁ - k) (drop k t₁))
  lent_alike = rw (rest_is k t₁) (alike_fewer s j t₁ (drop k t₁) (λ x i. in_drop k t₁ i) alike_all)

  module _ (y t₂ : List ℕ) (b : ℕ) (v : Tells s (take (length t₁ - k) (drop k t₁)) y b) (e : t₂ ≡ take k t₁ ++ (y ++ drop (length t₁ - k) (drop k t₁))) where
    front_length : length (take k t₁) ≡ k
    front_length = length-take-le k t₁ (omega (arith, kept_length, p.few))

    front_is : take k t₂ ≡ take k t₁
    front_is = ap (take k) e ∙ take_at (take k t₁) (y ++ drop (length t₁ - k) (drop k t₁)) k front_length

    best_is : b ≡ least s (drop k t₁)
    best_is = v.is ∙ ap (least s) (rest_is k t₁)

    back_is : t₂ ≡ take k t₁ ++ y
    back_is =
        let z : drop (length t₁ - k) (drop k t₁) ≡ [] = drop_of_length-le (drop k t₁) {i = length t₁ - k} (omega (arith, length-drop k t₁)) in
        e ∙ ap (λ (u : List ℕ). take k t₁ ++ u) (ap (λ (u : List ℕ). y ++ u) z ∙ append-nil y)

    pub divided_length : length t₂ ≡ length t
    divided_length =
        ap length back_is ∙ (length-append (take k t₁) y
        ∙ (let z : length (take k t₁) + length y ≡ length t =
        omega (arith, front_length, v.length_kept ∙ (ap length (rest_is k t₁) ∙ length-drop k t₁), kept_length, p.few) in z))

    both : lesser (least s (take k t₁)) (least s (drop k t₁)) ≡ least s t
    both =
        least_apart s t (take k t₁) (drop k t₁) (rw (take-append-drop k t₁) p.perm)
        (λ x e i h. other_name s j x e (p.apart x e i h))

    pub narrow_divided : Narrows s j t t₂ b k j
    narrow_divided = record {
      length_kept = divided_length;
      few = omega (arith, p.few);
      less = omega (arith, p.few);
      bound = omega (arith, best_is, least_bound s (drop k t₁));
      alike = rw front_is (alike_fewer s j t₁ (take k t₁) (λ x i. in_take k t₁ i) alike_all);
      is = ap (λ (u : List ℕ). lesser b (least s u)) front_is
          ∙ (ap (λ (a : ℕ). lesser a (least s (take k t₁))) best_is ∙ (lesser_swap (least s (drop k t₁)) (least s (take k t₁)) ∙ both));
    }

-- ---- turn after turn

pub record Narrowing (s t₀ t : List ℕ) (best count from : ℕ) : Type 0 where
  pub length_kept : length t ≡ length t₀
  pub few : count ≤ length t
  pub bound : best ≤ 16777216
  pub alike : Alike s from (take count t)
  pub is : lesser best (least s (take count t)) ≡ least s t₀

pub turns_start : (s : List ℕ) (j : ℕ) (t : List ℕ) → Alike s j t → Narrowing s t t 16777216 (length t) j
turns_start s j t w = record {
  length_kept = refl;
  few = omega arith;
  bound = omega arith;
  alike = rw (take-length t) w;
  is = ap (λ (u : List ℕ). lesser 16777216 (least s u)) (take-length t)
      ∙ (lesser_swap 16777216 (least s t) ∙ lesser_none (least s t) (least_bound s t));
}

module _ (s t₀ t : List ℕ) (best count from : ℕ) (w : Narrowing s t₀ t best count from) where
  pub turn_length : length (take count t) ≡ count
  turn_length = length-take-le count t w.few

  -- what a turn is lent has no more binary digits than the table's length
  pub turn_depth : bits (length (take count t)) ≤ bits (length t₀)
  turn_depth = bits_upto (length (take count t)) (length t₀) (omega (arith, turn_length, w.few, w.length_kept))

  module _ (y : List ℕ) (b k j : ℕ) (v : Narrows s from (take count t) y b k j) where
    pub turn_kept : length (y ++ drop count t) ≡ length t
    turn_kept = length_front t y count v.length_kept

    turn_front : take k (y ++ drop count t) ≡ take k y
    turn_front = take-append-le k y (drop count t) (omega (arith, v.length_kept, v.few))

    pub turn_less : k + (16777217 - j) < count + (16777217 - from)
    turn_less = omega (arith, v.less, turn_length)

    pub turns_on : (q : ℕ) → q ≡ min b best → Narrowing s t₀ (y ++ drop count t) q k j
    turns_on q d = let e : q ≡ lesser best b = d ∙ least_of_two best b in record {
      length_kept = turn_kept ∙ w.length_kept;
      few = omega (arith, turn_kept, v.few, turn_length, w.few);
      bound = omega (arith, e, lesser_left best b, w.bound);
      alike = rw turn_front v.alike;
      is = ap (λ (u : List ℕ). lesser q (least s u)) turn_front
          ∙ (ap (λ (a : ℕ). lesser a (least s (take k y))) e
          ∙ (lesser_assoc best b (least s (take k y)) ∙ (ap (lesser best) v.is ∙ w.is)));
    }

  pub turns_end : count ≤ 0 → Tells s t₀ t best
  turns_end l =
      let z : count ≡ 0 = omega arith in
      let e : lesser best (least s []) ≡ least s t₀ = rw z at w.is in
      record { length_kept = w.length_kept; is = sym (lesser_none best w.bound) ∙ (ap (lesser best) (sym (least_none s)) ∙ e) }
