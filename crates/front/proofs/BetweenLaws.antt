-- A part of a list of bytes: where it lies, how long it is, and what is left behind it.
use Prim.Native.Nat.{ℕ, suc, ◌+◌, ◌-◌, ◌≤◌, ◌<◌}
use native.Mathlib.Omega.{arith}
use mathlib.Core.Path.{◌≡◌, sym, ap, ◌∙◌}
use mathlib.Core.List.{List, [], ◌∷◌, ◌++◌}
use lib.ListN.{length, drop, length-take, length-drop, length-append, get_or}
use lib.Seq.{drop-drop, take_all, drop-append_seam, drop-cons}
use lib.Dec.{eqb}
use borrow.Author.Tests.{eq-eqb, ne_eqb}
use Rattle.format.specs.Names.{is_empty}
use Rattle.front.specs.Between.{between}
use Rattle.format.proofs.Lists.{drop_take}

-- a part lies inside
pub record Inside (a e : ℕ) (s : List ℕ) : Type 0 where
  pub order : a ≤ e
  pub within : e ≤ length s

-- positions inside
module _ (a e : ℕ) (s : List ℕ) (i : Inside a e s) where
  pub part_length : length (between a e s) ≡ e - a
  part_length = rw (length-take (e - a) (drop a s), length-drop a s) (omega (arith, i.within))

  pub rest_at : length s - length (drop e s) ≡ e
  rest_at = rw (length-drop e s) (omega (arith, i.within))

  pub part_at : e - length (between a e s) ≡ a
  part_at = rw part_length (omega (arith, i.order))

  pub past_at : (n : ℕ) → n ≤ length (between a e s) → e - length (drop n (between a e s)) ≡ a + n
  past_at n l = rw (length-drop n (between a e s)) (omega (arith, part_length, i.order))

  pub empty_at : is_empty (between a e s) ≡ eqb a e
  unfolding is_empty
  empty_at = go (between a e s) part_length
    where
      go : (t : List ℕ) → length t ≡ e - a → is_empty t ≡ eqb a e
      go [] h = sym (eq-eqb a e (omega (arith, i.order)))
      go (b ∷ t) h = sym (ne_eqb a e (λ z. omega arith))

-- ---- what is left is an end of the part

pub end_drop : (s w r : List ℕ) → s ≡ w ++ r → drop (length s - length r) s ≡ r
end_drop s w r e =
    let n : length s - length r ≡ length w = omega (arith, simp length-append at (ap length e)) in
    rw (n, e) (drop-append_seam w r)

pub rest_all : (a : ℕ) (s : List ℕ) → between a (length s) s ≡ drop a s
rest_all a s = take_all (length s - a) (drop a s) (rw (length-drop a s) (omega arith))

-- ---- its first byte, and what is behind some of its bytes

pub part_cons : (a b : ℕ) (s : List ℕ) → a < b → b ≤ length s → between a b s ≡ get_or s a 0 ∷ between (suc a) b s
part_cons a b s l w =
    let n : b - a ≡ suc (b - suc a) = omega arith in
    rw (n, drop-cons s a 0 (omega arith))

pub part_none : (a b : ℕ) (s : List ℕ) → a ≡ b → between a b s ≡ []
part_none a b s e = let n : b - a ≡ 0 = omega arith in rw n

pub part_rest : (a b n : ℕ) (s : List ℕ) → drop n (between a b s) ≡ between (a + n) b s
part_rest a b n s = drop_take n (b - a) (drop a s) ∙ rw (drop-drop n a s) (let q : b - a - n ≡ b - (a + n) = omega arith in rw q)
