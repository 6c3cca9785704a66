-- A full table is cut: it is arranged, what begins at the first twin or behind it goes, and then the upper half, if more than half is left.
use Prim.Native.Nat.{ℕ, suc, ◌+◌, ◌-◌, ◌*◌, ◌/◌, ◌≤◌, ◌<◌}
use native.Mathlib.Omega.{arith}
use mathlib.Core.Path.{◌≡◌, ap, ◌∙◌, sym}
use mathlib.Core.Bool.{Bool, true, false, cond}
use mathlib.Core.List.{List, [], ◌∷◌, ◌++◌, append_assoc}
use lib.ListN.{length, take, drop, get_or, replicate, length-append, length-drop, length-replicate}
use lib.Seq.{take_at, length-take-le, get_or-take, take-take}
use lib.Dec.{ltb}
use borrow.Author.Tests.{le-ltb}
use Rattle.std.proofs.Common.{Option, None, Some}
use Rattle.number.proofs.Clash.{clash}
use Rattle.order.specs.declared.Arranged.{Arranged}
use Rattle.entries.specs.Entry.{begin_in, name_in}
use Rattle.entries.specs.Least.{lesser, least}
use Rattle.order.specs.Arranged.{before, kept, ordered, Afterwards, afterwards, done, settled, arranged}
use Rattle.entries.specs.Among.{In}
use Rattle.order.specs.Sorted.{Sorted}
use Rattle.entries.proofs.Perms.{perm_in, perm_back}
use Rattle.order.proofs.SortedLaws.{ordered_sorted, ordered_perm, ordered_length}
use Rattle.entries.proofs.LeastLaws.{same_named, one_begin, lesser_left, lesser_right, lesser_both, least_more}
use Rattle.order.proofs.KeptLaws.{kept_in, kept_before, kept_has, kept_once}
use Rattle.select.specs.declared.Pass.{Pass}
use Rattle.select.specs.Passes.{Covered, Standing}
use Rattle.select.proofs.RangeLaws.{up_trans, Wanted, wanted_is, is_wanted}
use Rattle.select.proofs.HalfLaws.{half_last, half_there, half_all}

-- ---- what begins before a place

before_few : (p : ℕ) (t : List ℕ) → length (before p t) ≤ length t
unfolding before
before_few p [] = omega arith
before_few p (e ∷ t) = go (ltb (begin_in e) p) (before_few p t)
  where
    go : (o : Bool) → length (before p t) ≤ length t → length (cond o (e ∷ before p t) (before p t)) ≤ suc (length t)
    go true l = omega arith
    go false l = omega arith

-- ---- a table that is arranged

abbrev count_of : Option Arranged → ℕ
count_of None = 0
count_of (Some g) = g.count

abbrev place_of : Option Arranged → ℕ
place_of None = 0
place_of (Some g) = g.least

module _ (s t : List ℕ) (n : ℕ) (few : n ≤ length t / 2) (a : Option Arranged) (t' : List ℕ) (e : afterwards a t' ≡ arranged s t n) where
  done_is : afterwards a t' ≡ afterwards (done (length (kept s (take n t))) (least s (take n t))) (settled s (take n t) (2 * n) ++ drop (2 * n) t)
  unfolding arranged
  done_is = e ∙ rw (le-ltb (length t / 2) n few)

  pub never_full : {X : Type 0} → a ≡ None → X
  never_full h = let z : a ≡ done (length (kept s (take n t))) (least s (take n t)) = ap (λ (w : Afterwards). w.answer) done_is in clash cc

  held_is : t' ≡ settled s (take n t) (2 * n) ++ drop (2 * n) t
  held_is = ap (λ (w : Afterwards). w.held) done_is

  kept_few : length (kept s (take n t)) ≤ n
  kept_few = omega (arith, before_few (least s (take n t)) (take n t), length-take-le n t (omega arith))

  pub arranged_kept : length t' ≡ length t
  unfolding settled
  arranged_kept =
      let z : length (ordered s (kept s (take n t))) ≡ length (kept s (take n t)) = ordered_length s (kept s (take n t)) in
      ap length held_is
      ∙ rw (length-append, length-append, z, length-replicate, length-drop) (sum (length (kept s (take n t))) n (length t) kept_few (omega arith))
    where
      sum : (k n m : ℕ) → k ≤ n → 2 * n ≤ m → k + (2 * n - k) + (m - 2 * n) ≡ m
      sum k n m l h = omega arith

  module _ (k l : ℕ) (h : a ≡ done k l) where
    pub count_is : k ≡ length (kept s (take n t))
    count_is = let z : a ≡ done (length (kept s (take n t))) (least s (take n t)) = ap (λ (w : Afterwards). w.answer) done_is in ap count_of (sym h ∙ z)

    pub least_is : l ≡ least s (take n t)
    least_is = let z : a ≡ done (length (kept s (take n t))) (least s (take n t)) = ap (λ (w : Afterwards). w.answer) done_is in ap place_of (sym h ∙ z)

    pub count_few : k ≤ n
    count_few = rw count_is kept_few

    front_is : t' ≡ ordered s (kept s (take n t)) ++ (replicate (2 * n - length (kept s (take n t))) 0 ++ drop (2 * n) t)
    unfolding settled
    front_is = held_is ∙ append_assoc (ordered s (kept s (take n t))) (replicate (2 * n - length (kept s (take n t))) 0) (drop (2 * n) t)

    pub taken_is : take k t' ≡ ordered s (kept s (take n t))
    taken_is = rw (front_is, count_is)
        (take_at (ordered s (kept s (take n t))) (replicate (2 * n - length (kept s (take n t))) 0 ++ drop (2 * n) t) (length (kept s (take n t)))
        (ordered_length s (kept s (take n t))))

    -- what stands in front then: the entries that begin before the first twin
    pub taken_in : (e : ℕ) → In e (take k t') → In e (take n t) × (begin_in e < l)
    taken_in e i =
        let j : In e (kept s (take n t)) = perm_in (ordered_perm s (kept s (take n t))) (rw taken_is at i) in
        (kept_in s e (take n t) j, rw least_is (kept_before s e (take n t) j))

    pub in_taken : (e : ℕ) → In e (take n t) → begin_in e < l → In e (take k t')
    in_taken e i b = rw taken_is (perm_in (perm_back (ordered_perm s (kept s (take n t)))) (kept_has s e (take n t) i (rw least_is at b)))

    taken_once : (x y : ℕ) → In x (take k t') → In y (take k t') → name_in s x ≡ name_in s y → x ≡ y
    taken_once x y i j d =
        let q = ordered_perm s (kept s (take n t)) in
        one_begin s x y d (kept_once s (take n t) x y (perm_in q (rw taken_is at i)) (perm_in q (rw taken_is at j)) (same_named s x y d))

    module _ (p : Pass) (n_is : p.count ≡ n) (stop : ℕ) (stop_is : stop ≡ lesser p.stop l) where
      sooner : stop ≤ p.stop
      sooner = rw stop_is (lesser_left p.stop l)

      sooner_too : stop ≤ l
      sooner_too = rw stop_is (lesser_right p.stop l)

      module _ (es ws : List ℕ) (low : Option ℕ) (st : Standing s es ws low t p) where
        met : (e : ℕ) → In e (take n t) → In e ws × Wanted s low p.high p.stop e
        met e i = let w = st.holds.there e (rw n_is i) in (w.0, wanted_is s low p.high p.stop e w.1)

        found : (e : ℕ) → In e ws → Wanted s low p.high p.stop e → In e (take n t)
        found e i w = rw n_is at (st.holds.all e i (is_wanted s low p.high p.stop e w))

        still : Covered s es low stop
        still =
            record {
              bound = omega (arith, sooner, st.covered.bound);
              late = rw stop_is (lesser_both (least s es) p.stop l st.covered.late
                  (rw least_is (least_more s (take n t) es (λ e i. st.inside e (met e i).0))));
              done = λ x e i j f o. omega (arith, sooner, st.covered.done x e i j f o);
            }

        pub cut_whole : Standing s es ws low t' (record { high = p.high; count = k; stop = stop })
        cut_whole =
            record {
              inside = st.inside;
              covered = still;
              holds =
                  record {
                    few = rw arranged_kept (omega (arith, count_few, few));
                    there = λ e i.
                        let j = taken_in e i in
                        let w = met e j.0 in (
                          w.0,
                          is_wanted s low p.high stop e (record {
                            begins = rw stop_is (lesser_both (suc (begin_in e)) p.stop l w.1.begins
                                j.1);
                            over = w.1.over;
                            under = w.1.under;
                          }),
                        );
                    all = λ e i v.
                        let w = wanted_is s low p.high stop e v in
                        in_taken e (found e i (record { begins = omega (arith, w.begins, sooner); over = w.over; under = w.under }))
                        (omega (arith, w.begins, sooner_too));
                  };
              reached = st.reached;
            }

        -- the first of them up to the j-th, if there are so many
        module _ (j : ℕ) (less : j < k) where
          last : ℕ
          last = get_or (take k t') j 0

          in_order : Sorted s (take k t')
          in_order = rw taken_is (ordered_sorted s (kept s (take n t)))

          long : j < length (take k t')
          long = rw taken_is (omega (arith, ordered_length s (kept s (take n t)), count_is))

          last_in : In (get_or (take k t') j 0) (take n t)
          last_in = (taken_in (get_or (take k t') j 0) (half_last s (take k t') in_order taken_once j long)).0

          front : take (suc j) (take k t') ≡ take (suc j) t'
          front = take-take (suc j) k t' (omega arith)

          last_wanted : Wanted s low p.high p.stop (get_or (take k t') j 0)
          last_wanted = (met (get_or (take k t') j 0) last_in).1

          halved : Standing s es ws low t' (record { high = Some (get_or (take k t') j 0); count = suc j; stop = stop })
          halved =
              record {
                inside = st.inside;
                covered = still;
                holds =
                    record {
                      few = rw arranged_kept (omega (arith, count_few, few));
                      there = λ e i.
                          let q = half_there s (take k t') in_order taken_once j long e (rw front i) in
                          let g = taken_in e q.0 in
                          let w = met e g.0 in (
                            w.0,
                            is_wanted s low (Some (get_or (take k t') j 0)) stop e
                                (record {
                                  begins = rw stop_is (lesser_both (suc (begin_in e)) p.stop l w.1.begins g.1);
                                  over = w.1.over;
                                  under =
                                      q.1;
                                }),
                          );
                      all = λ e i v.
                          let w = wanted_is s low (Some (get_or (take k t') j 0)) stop e v in
                          let u = up_trans s p.high (get_or (take k t') j 0) e w.under last_wanted.under in
                          let g = in_taken e (found e i (record { begins = omega (arith, w.begins, sooner); over = w.over; under = u }))
                          (omega (arith, w.begins, sooner_too)) in
                          rw front at (half_all s (take k t') in_order taken_once j long e g w.under);
                    };
                reached = (st.inside (get_or (take k t') j 0) (met (get_or (take k t') j 0) last_in).0, last_wanted.over);
              }

          pub cut_half : Standing s es ws low t' (record { high = Some (get_or t' j 0); count = suc j; stop = stop })
          cut_half = rw (get_or-take k t' j 0 less) at halved
