-- A table sorted, its first twin found, what begins before it kept, and the rest cleared, is arranged.
use Prim.Native.Nat.{ℕ, ◌-◌, ◌*◌, ◌/◌, ◌≤◌, ◌<◌}
use native.Mathlib.Omega.{arith}
use mathlib.Core.Path.{◌≡◌, sym, ap, ◌∙◌}
use mathlib.Core.List.{List, [], ◌++◌, append-nil}
use lib.ListN.{length, take, drop, replicate, length-drop, drop_of_length-le}
use lib.Seq.{take-take, length-take-le}
use borrow.Author.Tests.{lt-ltb, le-ltb}
use Rattle.order.specs.declared.Arranged.{Arranged}
use Rattle.std.proofs.Common.{Option, None}
use Rattle.entries.specs.Least.{least}
use Rattle.order.specs.Arranged.{before, kept, ordered, settled, Afterwards, afterwards, done, arranged}
use Rattle.order.specs.Passes.{Holds, Sorts, Tells, Keeps}
use Rattle.order.proofs.SortedLaws.{ordered_sorted, ordered_perm}
use Rattle.entries.proofs.LeastLaws.{least_alike}
use Rattle.order.proofs.KeptLaws.{before_ordered, before_length}

module _ (s t : List ℕ) (n : ℕ) where
  pub arrange_refused : length t / 2 < n → afterwards None t ≡ arranged s t n
  unfolding arranged
  arrange_refused l = rw (lt-ltb (length t / 2) n l)

  pub arranged_is : n ≤ length t / 2
      → arranged s t n ≡ afterwards (done (length (kept s (take n t))) (least s (take n t))) (settled s (take n t) (2 * n) ++ drop (2 * n) t)
  unfolding arranged
  arranged_is l = rw (le-ltb (length t / 2) n l)

pub all_room : (t : List ℕ) (n : ℕ) → length t ≡ 2 * n → Holds t n n
all_room t n e = record { apart = omega arith; fits = omega arith }

-- the table t of n entries and as much room, sorted to t₁, what is kept moved to the front in t₂, and the rest cleared in t₃
module _ (s t : List ℕ) (n : ℕ) (e : length t ≡ 2 * n) (t₁ t₂ t₃ : List ℕ) (l k : ℕ) (w₁ : Sorts s n n t t₁) (w₂ : Tells s t₁ n l) (w₃ : Keeps l n k t₁ t₂)
    (e₃ : t₃ ≡ take k t₂ ++ replicate (length t₂ - k) 0) where
  sorted_is : take n t₁ ≡ ordered s (take n t)
  sorted_is = w₁.is (take n t) [] (length-take-le n t (omega arith)) (sym (append-nil (take n t))) ∙ append-nil (ordered s (take n t))

  least_is : l ≡ least s (take n t)
  least_is =
      w₂.is (rw sorted_is (ordered_sorted s (take n t)))
      ∙ (ap (least s) sorted_is ∙ least_alike s (ordered s (take n t)) (take n t) (ordered_perm s (take n t)))

  kept_is : before l (take n t₁) ≡ ordered s (kept s (take n t))
  kept_is = ap (before l) sorted_is ∙ (before_ordered s l (take n t) ∙ ap (λ (p : ℕ). ordered s (before p (take n t))) least_is)

  count_is : k ≡ length (kept s (take n t))
  count_is =
      w₃.number ∙ (ap (λ (u : List ℕ). length (before l u)) sorted_is
      ∙ (before_length s l (take n t) ∙ ap (λ (p : ℕ). length (before p (take n t))) least_is))

  table_is : t₃ ≡ settled s (take n t) (2 * n)
  unfolding settled
  table_is =
      let z : length t₂ ≡ 2 * n = w₃.length_kept ∙ (w₁.length_kept ∙ e) in
      e₃ ∙ (ap (λ (u : List ℕ). u ++ replicate (length t₂ - k) 0) (w₃.is ∙ kept_is)
      ∙ (ap (λ (a : ℕ). ordered s (kept s (take n t)) ++ replicate (a - k) 0) z
      ∙ ap (λ (a : ℕ). ordered s (kept s (take n t)) ++ replicate (2 * n - a) 0) count_is))

  pub settle_done : afterwards (done k l) t₃ ≡ arranged s t n
  settle_done =
      let z : drop (2 * n) t ≡ [] = drop_of_length-le t {i = 2 * n} (omega arith) in
      let a : t₃ ≡ settled s (take n t) (2 * n) ++ drop (2 * n) t =
      table_is ∙ sym (ap (λ (u : List ℕ). settled s (take n t) (2 * n) ++ u) z ∙ append-nil (settled s (take n t) (2 * n))) in
      ap (λ (u : List ℕ). afterwards (done k l) u) a ∙ (ap (λ (c : ℕ). afterwards (done c l) (settled s (take n t) (2 * n) ++ drop (2 * n) t)) count_is
      ∙ (ap (λ (c : ℕ). afterwards (done (length (kept s (take n t))) c) (settled s (take n t) (2 * n) ++ drop (2 * n) t)) least_is
      ∙ sym (arranged_is s t n (omega arith))))

pub lent_length : (t : List ℕ) (n : ℕ) → n ≤ length t / 2 → length (take (2 * n) t) ≡ 2 * n
lent_length t n l = length-take-le (2 * n) t (omega arith)

-- what is lent of a table is its first 2 * n numbers, and the others stay
pub arrange_lent : (s t : List ℕ) (n : ℕ) → n ≤ length t / 2 → (r : Option Arranged) (y : List ℕ) → afterwards r y ≡ arranged s (take (2 * n) t) n
    → afterwards r (y ++ drop (2 * n) t) ≡ arranged s t n
arrange_lent s t n l r y e =
    let a : length (take (2 * n) t) ≡ 2 * n = lent_length t n l in
    let b : take n (take (2 * n) t) ≡ take n t = take-take n (2 * n) t (omega arith) in
    let c : drop (2 * n) (take (2 * n) t) ≡ [] = drop_of_length-le (take (2 * n) t) {i = 2 * n} (omega arith) in
    let f : afterwards r y ≡ afterwards (done (length (kept s (take n t))) (least s (take n t))) (settled s (take n t) (2 * n)) =
    e ∙ (arranged_is s (take (2 * n) t) n (omega (arith, a)) ∙ rw (b, c, append-nil (settled s (take n t) (2 * n)))) in
    ap (λ (z : Afterwards). afterwards z.answer (z.held ++ drop (2 * n) t)) f ∙ sym (arranged_is s t n l)

-- what stands behind k numbers is filled with zeros
pub cleared : (t y : List ℕ) (k : ℕ) → y ≡ replicate (length (take (length t - k) (drop k t))) 0
    → take k t ++ (y ++ drop (length t - k) (drop k t)) ≡ take k t ++ replicate (length t - k) 0
cleared t y k e =
    let a : length (drop k t) ≡ length t - k = length-drop k t in
    let b : length (take (length t - k) (drop k t)) ≡ length t - k = length-take-le (length t - k) (drop k t) (omega (arith, a)) in
    let c : drop (length t - k) (drop k t) ≡ [] = drop_of_length-le (drop k t) {i = length t - k} (omega (arith, a)) in
    ap (λ (u : List ℕ). take k t ++ u) (ap (λ (u : List ℕ). y ++ u) c ∙ (append-nil y ∙ (e ∙ ap (λ (n : ℕ). replicate n 0) b)))
