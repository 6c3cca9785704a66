-- A pass: one entry more, and what is known when all names were met. And the passes one after another.
use Prim.Native.Nat.{ℕ, suc, ◌+◌, ◌/◌, ◌≤◌, ◌<◌}
use native.Mathlib.Omega.{arith}
use native.Mathlib.Numerals.{add-one}
use mathlib.Core.Path.{◌≡◌, refl, sym, ap, ◌∙◌}
use mathlib.Core.Bool.{Bool, true, false, cond}
use mathlib.Core.List.{List, [], ◌∷◌, ◌++◌}
use lib.ListN.{length, take, set, length-set}
use lib.Seq.{take-suc-set}
use lib.Dec.{ltb}
use borrow.Author.Tests.{ltb-true, ltb-false}
use Rattle.std.proofs.Common.{Option, None, Some}
use Rattle.std.specs.declared.cmp.Ordering.{Ordering}
use Rattle.std.specs.declared.cmp.Ordering.TheVariants.{Less, Equal, Greater}
use Rattle.std.specs.Ordering.{is_gt}
use Rattle.number.proofs.Clash.{clash}
use Rattle.order.specs.declared.Arranged.{Arranged}
use Rattle.entries.specs.Entry.{begin_in, name_in}
use Rattle.entries.specs.Least.{is_first, lesser, least}
use Rattle.order.specs.Arranged.{afterwards, done, arranged}
use Rattle.entries.specs.Among.{In, here, there}
use Rattle.compare.specs.Order.{order}
use Rattle.compare.proofs.OrderLaws.{order_same, order_refl, order_flip, order_trans, order_not}
use Rattle.entries.proofs.LeastLaws.{first_is, lesser_left, lesser_right, lesser_both, least_bound, least_over_law, least_pair, least_more}
use Rattle.entries.proofs.Perms.{in_left, in_last, in_cases}
use Rattle.select.specs.declared.Pass.{Pass}
use Rattle.select.specs.Range.{above, up_to, wanted}
use Rattle.select.specs.Passes.{Covered, Settled, Standing, Cuts, Adds}
use Rattle.select.proofs.RangeLaws.{is_up_to, same_above, same_up, is_wanted}
use Rattle.select.proofs.CutLaws.{least_is}

-- ---- one entry more

module _ (s t : List ℕ) (low : Option ℕ) (x : ℕ) (p : Pass) where
  pub put_out : wanted s low p.high p.stop x ≡ false → Adds s t t low x p p
  put_out h =
      record {
        kept = refl;
        is = λ es ws i st.
            record {
              inside = λ e j. in_cases e ws x j (st.inside e) (λ d. rw d i);
              covered = st.covered;
              holds =
                  record {
                    few = st.holds.few;
                    there = λ e j. let w = st.holds.there e j in (in_left ws (x ∷ []) w.0, w.1);
                    all = λ e j v. in_cases e ws x j (λ k. st.holds.all e k v)
                        (λ d. let z : true ≡ false = sym v ∙ ap (λ (n : ℕ). wanted s low p.high p.stop n) d ∙ h in clash cc);
                  };
              reached = st.reached;
            };
      }

  module _ (h : wanted s low p.high p.stop x ≡ true) (l : p.count < length t / 2) where
    longer : take (p.count + 1) (set t p.count x) ≡ take p.count t ++ (x ∷ [])
    longer = ap (λ (n : ℕ). take n (set t p.count x)) (add-one p.count) ∙ take-suc-set t p.count x (omega arith)

    pub put_in : Adds s t (set t p.count x) low x p (record { high = p.high; count = p.count + 1; stop = p.stop })
    put_in =
        record {
          kept = length-set t p.count x;
          is = λ es ws i st.
              record {
                inside = λ e j. in_cases e ws x j (st.inside e) (λ d. rw d i);
                covered = st.covered;
                holds =
                    record {
                      few = rw (length-set t p.count x) (omega arith);
                      there = λ e j.
                          in_cases e (take p.count t) x (rw longer at j)
                          (λ k. let w = st.holds.there e k in (in_left ws (x ∷ []) w.0, w.1))
                          (λ d. rw d (in_last ws x, h));
                      all = λ e j v.
                          rw longer
                          (in_cases e ws x j (λ k. in_left (take p.count t) (x ∷ []) (st.holds.all e k v)) (λ d. rw d (in_last (take p.count t) x)));
                    };
                reached = st.reached;
              };
        }

-- a cut, and then one entry more
pub add_cut : (s t t₁ t₂ : List ℕ) (low : Option ℕ) (x : ℕ) (p p₁ p₂ : Pass) → Cuts s t t₁ p p₁ → Adds s t₁ t₂ low x p₁ p₂ → Adds s t t₂ low x p p₂
add_cut s t t₁ t₂ low x p p₁ p₂ c a = record { kept = a.kept ∙ c.kept; is = λ es ws i st. a.is es ws i (c.is es ws low st) }

-- ---- all names were met

module _ (s es t : List ℕ) (low : Option ℕ) (p : Pass) (st : Standing s es es low t p) (a : Option Arranged) (t' : List ℕ)
    (e : afterwards a t' ≡ arranged s t p.count)
    (k l : ℕ) (h : a ≡ done k l) (stop : ℕ) (stop_is : stop ≡ lesser p.stop l) where
  l_is : l ≡ least s (take p.count t)
  l_is = least_is s t p.count st.holds.few a t' e k l h

  pub pass_end : Settled s es p.high stop
  pass_end =
      record {
        bound = omega (arith, st.covered.bound, sooner);
        late = rw stop_is (lesser_both (least s es) p.stop l st.covered.late (rw l_is (least_more s (take p.count t) es
            (λ e i. (st.holds.there e i).0))));
        done = λ x e i j f u. over x e i j f u (above s low e) refl;
      }
    where
      sooner : stop ≤ p.stop
      sooner = rw stop_is (lesser_left p.stop l)

      early : (x e : ℕ) → In x es → In e es → is_first s x e ≡ true → up_to s p.high e ≡ true → above s low e ≡ true → begin_in e < p.stop → stop ≤ begin_in e
      early x e i j f u o b =
          let w = first_is s x e f in
          let n = w.1 in
          let in_e = st.holds.all e j (is_wanted s low p.high p.stop e (record { begins = b; over = o; under = u })) in
          let in_x = st.holds.all x i (is_wanted s low p.high p.stop x
          (record { begins = omega (arith, w.0); over = same_above s low x e n ∙ o; under = same_up s p.high x e n ∙ u })) in
          let q : l ≤ begin_in e = rw l_is (least_pair s (take p.count t) e x in_e in_x f) in
          let r : stop ≤ l = rw stop_is (lesser_right p.stop l) in
          omega arith

      over : (x e : ℕ) → In x es → In e es → is_first s x e ≡ true → up_to s p.high e ≡ true → (b : Bool) → above s low e ≡ b → stop ≤ begin_in e
      over x e i j f u false o = omega (arith, sooner, st.covered.done x e i j f o)
      over x e i j f u true o = at (ltb (begin_in e) p.stop) refl
        where
          at : (c : Bool) → ltb (begin_in e) p.stop ≡ c → stop ≤ begin_in e
          at true q = early x e i j f u o (ltb-true (begin_in e) p.stop q)
          at false q = omega (arith, sooner, ltb-false (begin_in e) p.stop q)

-- ---- the passes

pub first_pass : (s es : List ℕ) → Covered s es None 16777216
first_pass s es = record { bound = omega arith; late = least_bound s es; done = λ x e i j f o. clash cc }

pub next_pass : (s es : List ℕ) (y stop : ℕ) → Settled s es (Some y) stop → Covered s es (Some y) stop
next_pass s es y stop w = record { bound = w.bound; late = w.late; done = λ x e i j f o. w.done x e i j f (is_up_to s y e o) }

pub last_pass : (s es : List ℕ) (stop : ℕ) → Settled s es None stop → stop ≡ least s es
last_pass s es stop w = omega (arith, w.late, least_over_law s es stop w.bound (λ e x i j f. w.done x e j i f refl))

-- ---- each pass leaves fewer names

unfoldable pub left : List ℕ → Option ℕ → List ℕ → ℕ
left s low [] = 0
left s low (e ∷ es) = cond (above s low e) (suc (left s low es)) (left s low es)

order_back : (m n : List ℕ) → order n m ≡ Less → order m n ≡ Greater
order_back m n h = go (order m n) refl
  where
    go : (o : Ordering) → order m n ≡ o → order m n ≡ Greater
    go Less e = order_not m (order_trans m n m e h)
    go Equal e = order_not m (ap (λ (k : List ℕ). order k m) (order_same m n e) ∙ h)
    go Greater e = e

above_more : (s : List ℕ) (y e : ℕ) → above s (Some y) e ≡ true → order (name_in s y) (name_in s e) ≡ Less
above_more s y e h = order_flip (name_in s e) (name_in s y) (go (order (name_in s e) (name_in s y)) h)
  where
    go : (o : Ordering) → is_gt o ≡ true → o ≡ Greater
    go Less h = clash cc
    go Equal h = clash cc
    go Greater h = refl

above_trans : (s : List ℕ) (low : Option ℕ) (y e : ℕ) → above s (Some y) e ≡ true → above s low y ≡ true → above s low e ≡ true
above_trans s None y e h i = refl
above_trans s (Some z) y e h i =
    ap is_gt (order_back (name_in s e) (name_in s z) (order_trans (name_in s z) (name_in s y) (name_in s e) (above_more s z y i) (above_more s y e h)))

module _ (s : List ℕ) (low : Option ℕ) (y : ℕ) (o : above s low y ≡ true) where
  left_le : (es : List ℕ) → left s (Some y) es ≤ left s low es
  unfolding left
  left_le [] = omega arith
  left_le (e ∷ es) = go (above s (Some y) e) (above s low e) refl refl (left_le es)
    where
      go : (a b : Bool) → above s (Some y) e ≡ a → above s low e ≡ b → left s (Some y) es ≤ left s low es
          → cond a (suc (left s (Some y) es)) (left s (Some y) es) ≤ cond b (suc (left s low es)) (left s low es)
      go true true i j l = omega arith
      go true false i j l = let z : true ≡ false = sym (above_trans s low y e i o) ∙ j in clash cc
      go false true i j l = omega arith
      go false false i j l = l

  pub left_less : (es : List ℕ) → In y es → left s (Some y) es < left s low es
  unfolding left
  left_less es (here {xs = xs}) =
      let z : above s (Some y) y ≡ false = ap is_gt (order_refl (name_in s y)) in
      rw (z, o) (omega (arith, left_le xs))
  left_less es (there {y = e} {xs = xs} i) = go (above s (Some y) e) (above s low e) refl refl (left_less xs i)
    where
      go : (a b : Bool) → above s (Some y) e ≡ a → above s low e ≡ b → left s (Some y) xs < left s low xs
          → cond a (suc (left s (Some y) xs)) (left s (Some y) xs) < cond b (suc (left s low xs)) (left s low xs)
      go true true i j l = omega arith
      go true false i j l = let z : true ≡ false = sym (above_trans s low y e i o) ∙ j in clash cc
      go false true i j l = omega arith
      go false false i j l = l
