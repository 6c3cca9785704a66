-- Items of which the kind tells the size: as many of them fill their part as it has bytes for, and nothing is noted of them.
use Rattle.std.specs.Prelude.{Err, Ok, Result}
use Prim.Native.Nat.{ℕ, zero, suc, ◌+◌, ◌-◌, ◌*◌, ◌/◌, ◌%◌, ◌≤◌, ◌<◌}
use native.Mathlib.Nat.{suc-mul, zero-mul, div-add-mod', mul-div_cancel, mul-mod_left}
use native.Mathlib.Omega.{arith}
use mathlib.Core.Path.{◌≡◌, refl, sym, ap, ◌∙◌}
use mathlib.Core.Bool.{Bool, true, false, ◌&&◌, cond}
use mathlib.Core.List.{List}
use lib.ListN.{length, drop, length-drop}
use lib.Dec.{eqb, ltb, eqb-suc-zero}
use borrow.Author.Tests.{ltb-true, ltb-false, lt-ltb, eqb-true, eq-eqb, ne_eqb}
use Rattle.number.proofs.Clash.{clash}
use Rattle.format.specs.declared.Kind.{Kind}
use Rattle.format.specs.declared.Form.{Form}
use Rattle.format.specs.declared.Form.TheVariants as G
use Rattle.format.specs.declared.Stop.TheVariants.{Early, TooDeep}
use Rattle.format.specs.declared.Stop.{Stop}
use Rattle.faults.specs.declared.Modes.{Modes}
use Rattle.faults.specs.declared.Faults.{Faults}
use Rattle.format.specs.Kinds.{id}
use Rattle.format.specs.Payload.{items_in}
use Rattle.front.specs.Between.{between}
use Rattle.head.specs.Pieces.{fixed_size}
use Rattle.head.specs.declared.Met.TheVariants as M
use Rattle.faults.proofs.NotedLaws.{noted_none}
use Rattle.front.proofs.BetweenLaws.{rest_all}
use Rattle.head.proofs.ItemReturns.{fixed_short, fixed_long}
use Rattle.run.specs.Run.{join}
use Rattle.contents.specs.Contents.{array_end, item_size, sized_items}
use Rattle.contents.specs.Made.{field_read}
use Rattle.checks.specs.Checks.{field_at, contents_at}
use Rattle.checks.proofs.FieldCases.{field_deep, field_stop, field_leaf}
use Rattle.checks.proofs.LoopLaws.{Items, items_start, items_fault, items_step, items_left, items_end}

either : {R : Type 0} (a b : ℕ) → (a < b → R) → (b ≤ a → R) → R
either {R} a b y n = at (ltb a b) refl
  where
    at : (x : Bool) → ltb a b ≡ x → R
    at true e = y (ltb-true a b e)
    at false e = n (ltb-false a b e)

-- ---- the end, with any depth left

module _ (k : Kind) (n : ℕ) (m : Modes) (d : ℕ) (g : Faults) (s : List ℕ) (at : ℕ) (u : ℕ) (l : Items (G.SharedItem k) n m d g s at 0 g u) where
  end_full : length s ≡ at → Ok g ≡ contents_at (items_in (G.SharedItem k) n s) m d g
  unfolding array_end
  end_full e = items_end (G.SharedItem k) n m d g s at 0 g u l refl (omega arith) g (sym (noted_none m g))

  end_left : (length s ≡ at → ⊥) → Err Early ≡ contents_at (items_in (G.SharedItem k) n s) m d g
  end_left e = items_left (G.SharedItem k) n m d g s at 0 g u l refl (either at (length s) (λ i. i) (λ i. absurd (e (omega (arith, l.inside)))))

-- ---- one after another

module _ (k : Kind) (n : ℕ) (m : Modes) (d : ℕ) (g : Faults) (s : List ℕ) (z : ℕ) (e : fixed_size k ≡ z) (i : 0 < z) where
  item_short : (t : List ℕ) → length t < z → Err Early ≡ field_at (G.SharedItem k) m (suc d) g t
  item_short t j = field_stop (G.SharedItem k) m g t (Err Early) (rw (rest_all 0 t) (fixed_short k m g t z e i j)) (suc d) d refl Early refl

  item_long : (t : List ℕ) → z ≤ length t → field_read k z g ≡ field_at (G.SharedItem k) m (suc d) g t
  item_long t j = field_leaf (G.SharedItem k) m g t (Ok (M.Leaf k (length t - length t - 0) (length t - length t) z g))
      (rw (rest_all 0 t) (fixed_long k m g t z e i j)) (suc d) d refl k _ _ z g refl

  abbrev Sofar : ℕ → ℕ → ℕ → Type 0
  Sofar at room u = Items (G.SharedItem k) n m (suc d) g s at room g u

  one_more_law : (at room : ℕ) (u : ℕ) → Sofar at (suc room) u → at + z ≤ length s → Sofar (at + z) room (join u (id k))
  one_more_law at room u l j =
      let q : suc room - 1 ≡ room = omega arith in
      rw q at (items_step (G.SharedItem k) n m (suc d) g s at (suc room) g u l (omega arith) (field_read k z g)
      (rw (rest_all at s) (item_long (drop at s) (rw (length-drop at s) (omega arith))))
      (record { kind = k; end = z; faults = g }) refl)

  full : (room at : ℕ) (u : ℕ) → Sofar at room u → length s ≡ at + room * z → Ok g ≡ contents_at (items_in (G.SharedItem k) n s) m (suc d) g
  full zero at u l j = end_full k n m (suc d) g s at u l (omega (arith, j, zero-mul z))
  full (suc room) at u l j = full room (at + z) (join u (id k)) (one_more_law at room u l (omega (arith, j, suc-mul room z))) (omega (arith, j, suc-mul room z))

  unequal : (room at : ℕ) (u : ℕ) → Sofar at room u → (length s ≡ at + room * z → ⊥) → Err Early ≡ contents_at (items_in (G.SharedItem k) n s) m (suc d) g
  unequal zero at u l j = end_left k n m (suc d) g s at u l (λ q. j (omega (arith, q, zero-mul z)))
  unequal (suc room) at u l j =
      either (length s) (at + z)
      (λ q. items_fault (G.SharedItem k) n m (suc d) g s at (suc room) g u l (omega arith) (Err Early)
      (rw (rest_all at s) (item_short (drop at s) (rw (length-drop at s) (omega (arith, l.inside))))) Early refl)
      (λ q. unequal room (at + z) (join u (id k)) (one_more_law at room u l q) (λ p. j (omega (arith, p, suc-mul room z))))

-- ---- all of them

-- the test goes by quotient and remainder
abbrev exact : ℕ → ℕ → ℕ → Bool
exact n z l = eqb (l % z) 0 && eqb (l / z) n

exact_true : (n z l : ℕ) → exact n z l ≡ true → l ≡ n * z
exact_true n z l e = at (eqb (l % z) 0) refl e
  where
    at : (x : Bool) → eqb (l % z) 0 ≡ x → (x && eqb (l / z) n) ≡ true → l ≡ n * z
    at true p q = omega (arith, div-add-mod' l z, eqb-true (l % z) 0 p, ap (λ x. x * z) (eqb-true (l / z) n q))
    at false p q = clash cc

exact_false : (n z l : ℕ) → 0 < z → exact n z l ≡ false → l ≡ n * z → ⊥
exact_false n z l i e q =
    let r : eqb (l % z) 0 ≡ true = eq-eqb (l % z) 0 (ap (λ x. x % z) q ∙ mul-mod_left n z) in
    let w : eqb (l / z) n ≡ true = eq-eqb (l / z) n (ap (λ x. x / z) q ∙ mul-div_cancel n i) in
    let t : true ≡ false = rw (r, w) at e in
    let p : ◌≡◌ {A = ℕ} 0 1 = cc in
    omega arith

module _ (k : Kind) (m : Modes) (g : Faults) (s : List ℕ) (z : ℕ) (e : fixed_size k ≡ z) (i : 0 < z) where
  none : (b : Bool) → exact 0 z (length s) ≡ b → cond b (Ok g) (Err Early) ≡ contents_at (items_in (G.SharedItem k) 0 s) m 0 g
  none true q = end_full k 0 m 0 g s 0 0 (items_start (G.SharedItem k) 0 m 0 g s) (omega (arith, exact_true 0 z (length s) q, zero-mul z))
  none false q = end_left k 0 m 0 g s 0 0 (items_start (G.SharedItem k) 0 m 0 g s) (λ p. exact_false 0 z (length s) i q (omega (arith, p, zero-mul z)))

  some : (n d : ℕ) (b : Bool) → exact n z (length s) ≡ b → cond b (Ok g) (Err Early) ≡ contents_at (items_in (G.SharedItem k) n s) m (suc d) g
  some n d true q = full k n m d g s z e i n 0 0 (items_start (G.SharedItem k) n m (suc d) g s) (omega (arith, exact_true n z (length s) q))
  some n d false q = unequal k n m d g s z e i n 0 0 (items_start (G.SharedItem k) n m (suc d) g s) (λ p. exact_false n z (length s) i q (omega (arith, p)))

  deep : (n : ℕ) → Err TooDeep ≡ contents_at (items_in (G.SharedItem k) (suc n) s) m 0 g
  deep n =
      items_fault (G.SharedItem k) (suc n) m 0 g s 0 (suc n) g 0 (items_start (G.SharedItem k) (suc n) m 0 g s) (omega arith) (Err TooDeep)
      (field_deep (G.SharedItem k) m g (between 0 (length s) s) 0 refl) TooDeep refl

  sized : (n d : ℕ) → sized_items n z d g (length s) ≡ contents_at (items_in (G.SharedItem k) n s) m d g
  sized zero zero = rw (ne_eqb z 0 (λ e. omega arith)) (none (exact 0 z (length s)) refl)
  sized (suc n) zero = rw (ne_eqb z 0 (λ e. omega arith), lt-ltb 0 (suc n) (omega arith)) (deep n)
  sized n (suc d) = rw (ne_eqb z 0 (λ e. omega arith), eqb-suc-zero d) (some n d (exact n z (length s)) refl)

pub sized_items_law : (f : Form) (n : ℕ) (m : Modes) (d : ℕ) (g : Faults) (s : List ℕ) (z : ℕ) → z ≡ item_size f → 0 < z → (r : Result Faults Stop)
    → r ≡ sized_items n z d g (length s)
    → r ≡ contents_at (items_in f n s) m d g
sized_items_law G.Top n m d g s z e i r w = absurd (omega arith)
sized_items_law G.Field n m d g s z e i r w = absurd (omega arith)
sized_items_law G.Item n m d g s z e i r w = absurd (omega arith)
sized_items_law (G.SharedField k) n m d g s z e i r w = absurd (omega arith)
sized_items_law (G.SharedItem k) n m d g s z e i r w = w ∙ sized k m g s z (sym e) i n d
