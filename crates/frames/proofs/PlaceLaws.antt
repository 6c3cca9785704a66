-- A place in a list, and runs of stores into one.
use Prim.Native.Nat.{ℕ, ◌+◌, ◌-◌, ◌≤◌, ◌<◌, zero, suc}
use lib.ListN.{length, drop, get_or, length-append, length-drop, set, take, take-append-drop}
use lib.Seq.{drop-cons, drop-drop, drop-append_seam, set-set, sets, sets-eq, drop-set-lt, get_or-drop, set_comm}
use mathlib.Core.List.{List, [], ◌∷◌, ◌++◌}
use mathlib.Core.Path.{◌≡◌, refl, sym, ◌∙◌, ap}
use native.Mathlib.Nat.{add-zero, sub-zero}
use native.Mathlib.Numerals.{add-one}
use native.Mathlib.Omega.{arith}
use Rattle.format.proofs.Lists.{bytes_right}
use Rattle.frames.specs.Writer.{zeros}
use Rattle.number.specs.BigEndian.{Bytes}

-- a place in the list
pub rest : (s : List ℕ) (at : ℕ) → at < length s → drop at s ≡ get_or s at 0 ∷ drop (at + 1) s
rest s at h = rw (add-one at) (drop-cons s at 0 h)

pub bytes_drop : (s : List ℕ) (at : ℕ) → Bytes s → Bytes (drop at s)
bytes_drop s at w = bytes_right s (take at s) (drop at s) w (sym (take-append-drop at s))

pub place : (s : List ℕ) (at : ℕ) → at ≤ length s → length s - length (drop at s) ≡ at
place s at h = rw (length-drop at s) (omega arith)

pub tail_at : (s : List ℕ) (p : ℕ) (pre r : List ℕ) → p ≤ length s → drop p s ≡ pre ++ r
    → (length s - length r ≡ p + length pre) × (p + length pre ≤ length s) × (drop (p + length pre) s ≡ r)
tail_at s p pre r h e =
    let z : length s - p ≡ length pre + length r = sym (length-drop p s) ∙ ap length e ∙ length-append pre r in
    (omega arith, omega arith, rw (← drop-drop, e) (drop-append_seam pre r))

pub drop_head : (w : List ℕ) (k x : ℕ) (m : List ℕ) → drop k w ≡ x ∷ m → (get_or w k 0 ≡ x) × (k < length w) × (drop (k + 1) w ≡ m)
drop_head w k x m e =
    let a : get_or (drop k w) 0 0 ≡ x = rw e in
    let b : length w - k ≡ suc (length m) = sym (length-drop k w) ∙ ap length e in
    let f : drop 1 (drop k w) ≡ m = rw e in
    (rw (get_or-drop, add-zero) at a, omega arith, rw drop-drop at f)

-- runs of stores
pub set_sets : (vs l : List ℕ) (i j v : ℕ) → i < j → set (sets l j vs) i v ≡ sets (set l i v) j vs
set_sets [] l i j v h = refl
set_sets (x ∷ vs) l i j v h = rw (set_sets vs (set l j x) i (suc j) v (omega arith), set_comm l j i x v (λ e. omega arith))

pub sets_append : (a b l : List ℕ) (i : ℕ) → sets (sets l i a) (i + length a) b ≡ sets l i (a ++ b)
sets_append [] b l i = rw (add-zero i)
sets_append (x ∷ a) b l i = let e : i + suc (length a) ≡ suc i + length a = omega arith in rw (e, sets_append a b (set l i x) (suc i))

pub sets_back : (a b l : List ℕ) (i : ℕ) → sets (sets l (i + length a) b) i a ≡ sets l i (a ++ b)
sets_back [] b l i = rw (add-zero i)
sets_back (x ∷ a) b l i =
    let e : i + suc (length a) ≡ suc i + length a = omega arith in
    rw (set_sets b l i (i + suc (length a)) x (omega arith), e) (sets_back a b (set l i x) (suc i))

pub drop_sets : (vs l : List ℕ) (i : ℕ) → drop (i + length vs) (sets l i vs) ≡ drop (i + length vs) l
drop_sets [] l i = refl
drop_sets (v ∷ vs) l i =
    let e : i + suc (length vs) ≡ suc i + length vs = omega arith in
    rw (e, drop_sets vs (set l i v) (suc i), drop-set-lt (suc i + length vs) l i v (omega arith))

pub sets_over : (a b l : List ℕ) (i : ℕ) → length a ≡ length b → sets (sets l i a) i b ≡ sets l i b
sets_over [] [] l i e = refl
sets_over [] (y ∷ b) l i e = absurd (omega arith)
sets_over (x ∷ a) [] l i e = absurd (omega arith)
sets_over (x ∷ a) (y ∷ b) l i e = rw (set_sets a (set l i x) i (suc i) y (omega arith), set-set l i x y) (sets_over a b (set l i y) (suc i) (omega arith))

pub sets_front : (vs l : List ℕ) → length vs ≤ length l → sets l 0 vs ≡ vs ++ drop (length vs) l
sets_front vs l h = let e : 0 + length vs ≡ length vs = omega arith in rw e at (sets-eq vs l 0 (omega arith))

pub drop_zeros : (n m : ℕ) → m ≤ n → drop m (zeros n) ≡ zeros (n - m)
drop_zeros n zero h = rw (sub-zero n)
drop_zeros zero (suc m) h = absurd (omega arith)
drop_zeros (suc n) (suc m) h = let e : suc n - suc m ≡ n - m = omega arith in rw e (drop_zeros n m (omega arith))
