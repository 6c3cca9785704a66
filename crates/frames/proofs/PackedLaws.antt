-- What a work number says between the passes.
use Prim.Native.Nat.{ℕ, suc, ◌+◌, ◌*◌, ◌^◌, ◌≤◌, ◌<◌, zero}
use native.Mathlib.Omega.{arith}
use mathlib.Core.Path.{◌≡◌, refl, ap}
use mathlib.Core.Bool.{Bool, true, false, cond}
use mathlib.Core.List.{List, [], ◌∷◌}
use lib.ListN.{length, length-append}
use lib.Arith.{digits_div, digits_mod}
use lib.Dec.{eqb, ltb}
use borrow.Author.Tests.{lt-ltb}
use Rattle.number.specs.VarUInt.{encoded, form, reached, bounds}
use Rattle.number.specs.BigEndian.{to_bytes}
use Rattle.number.proofs.BigEndianLaws.{to_length}
use Rattle.format.specs.declared.Kind.{Kind}
use Rattle.format.specs.Kinds.{id, all}
use Rattle.frames.specs.Container.{ids, count_part, size_radix, width_radix, packed, size_in, width_in, shared_in, uniform_in}
use Rattle.run.specs.Run.{shared, uniform}
use Rattle.frames.proofs.Flaws.{untrue}
use Rattle.format.specs.Encoding.{concat, sizes_of}
use Rattle.format.specs.Tree.{atom, Tree, array, object}
use Rattle.format.proofs.KindLaws.{id_range}
use Rattle.frames.specs.Container.{ids, packed, packs_of, uniform_in, count_part, size_in, width_in, shared_in}

module _ {A : Type 0} (kind : A → Kind) where
  shared_lt : (named : Bool) (xs : List (List ℕ × A)) → uniform named (shared (ids kind xs)) ≡ true → (1 ≤ shared (ids kind xs)) × (shared (ids kind xs) < 32)
  unfolding shared uniform
  shared_lt named [] h = untrue h
  shared_lt named (x ∷ xs) h = go (all (eqb (id (kind x.1))) (ids kind xs)) h
    where
      go : (b : Bool) → uniform named (cond b (id (kind x.1)) 255) ≡ true → (1 ≤ cond b (id (kind x.1)) 255) × (cond b (id (kind x.1)) 255 < 32)
      go true h = id_range (kind x.1)
      go false h = untrue h

  low_lt : (named : Bool) (xs : List (List ℕ × A)) → cond (uniform named (shared (ids kind xs))) (shared (ids kind xs)) 0 < 32
  low_lt named xs = go (uniform named (shared (ids kind xs))) refl
    where
      go : (u : Bool) → uniform named (shared (ids kind xs)) ≡ u → cond u (shared (ids kind xs)) 0 < 32
      go true h = (shared_lt named xs h).1
      go false h = omega arith

  module _ (named : Bool) (xs : List (List ℕ × A)) (z : ℕ) (few : length xs ≤ 16777216) where
    count_lt : length (count_part named (length xs)) < 8
    unfolding count_part encoded
    count_lt = go named
      where
        four : (n : ℕ) → n ≤ 16777216 → suc (length (to_bytes (reached bounds n) n)) < 8
        four n h = rw (to_length (reached bounds n) n)
            (by (ltb n (2 ^ 7)) (ltb n (2 ^ 14)) (ltb n (2 ^ 21)) (ltb n (2 ^ 28)) (lt-ltb n (2 ^ 28) (omega arith)))
          where
            by : (a b c d : Bool) → d ≡ true
                → suc (cond a 0 (suc (cond b 0 (suc (cond c 0 (suc (cond d 0 (suc (reached (2 ^ 35 ∷ 2 ^ 42 ∷ 2 ^ 49 ∷ 2 ^ 56 ∷ []) n))))))))) < 8
            by true b c d e = omega arith
            by false true c d e = omega arith
            by false false true d e = omega arith
            by false false false true e = omega arith
            by false false false false e = untrue e

        go : (b : Bool) → length (cond b [] (form (reached bounds (length xs)) (length xs))) < 8
        go true = omega arith
        go false = four (length xs) few

    pub packed_shared_in : shared_in (packed named (shared (ids kind xs)) (length xs) z) ≡ cond (uniform named (shared (ids kind xs))) (shared (ids kind xs)) 0
    unfolding packed
    packed_shared_in =
        let w = length (count_part named (length xs)) in
        let l = cond (uniform named (shared (ids kind xs))) (shared (ids kind xs)) 0 in
        let e : z * size_radix + w * width_radix + l ≡ (z * 8 + w) * width_radix + l = omega arith in
        rw e (digits_mod (z * 8 + w) (low_lt named xs))

    -- what stands below the size
    low_lt_size : length (count_part named (length xs)) * width_radix + cond (uniform named (shared (ids kind xs))) (shared (ids kind xs)) 0 < size_radix
    low_lt_size = omega (arith, count_lt, low_lt named xs)

    pub packed_width : width_in (packed named (shared (ids kind xs)) (length xs) z) ≡ length (count_part named (length xs))
    unfolding packed
    packed_width =
        let w = length (count_part named (length xs)) in
        let l = cond (uniform named (shared (ids kind xs))) (shared (ids kind xs)) 0 in
        let e : z * size_radix + w * width_radix + l ≡ z * size_radix + (w * width_radix + l) = omega arith in
        rw (e, digits_mod z low_lt_size) (digits_div w (low_lt named xs))

    pub packed_size : size_in (packed named (shared (ids kind xs)) (length xs) z) ≡ z
    unfolding packed
    packed_size =
        let w = length (count_part named (length xs)) in
        let l = cond (uniform named (shared (ids kind xs))) (shared (ids kind xs)) 0 in
        let e : z * size_radix + w * width_radix + l ≡ z * size_radix + (w * width_radix + l) = omega arith in
        rw e (digits_div z low_lt_size)

    pub packed_uniform : uniform_in (packed named (shared (ids kind xs)) (length xs) z) ≡ uniform named (shared (ids kind xs))
    packed_uniform = rw packed_shared_in (go (uniform named (shared (ids kind xs))) refl)
      where
        go : (u : Bool) → uniform named (shared (ids kind xs)) ≡ u → ltb 0 (cond u (shared (ids kind xs)) 0) ≡ u
        go true h = lt-ltb 0 (shared (ids kind xs)) (omega (arith, (shared_lt named xs h).0))
        go false h = refl

-- ---- a tree has as many sizes as numbers

module _ {A : Type 0} (g h : A → List ℕ) (e : (x : A) → length (g x) ≡ length (h x)) where
  concat_long : (xs : List A) → length (concat g xs) ≡ length (concat h xs)
  concat_long [] = refl
  concat_long (x ∷ xs) = rw (length-append, e x, concat_long xs, ← length-append)

pub numbers_long : (d : ℕ) (t : Tree d) → length (packs_of d t) ≡ length (sizes_of d t)
numbers_long zero t = absurd t
numbers_long (suc d) (atom v) = refl
numbers_long (suc d) (array xs) = ap suc (concat_long (packs_of d) (sizes_of d) (numbers_long d) xs)
numbers_long (suc d) (object xs) =
    ap suc (concat_long (λ (x : List ℕ × Tree d). packs_of d x.1) (λ (x : List ℕ × Tree d). sizes_of d x.1) (λ x. numbers_long d x.1) xs)
