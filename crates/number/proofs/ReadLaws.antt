-- What the code that reads a VarUInt knows at each of its steps, and what that makes of the definition.
use Prim.Native.Nat.{ℕ, suc, ◌+◌, ◌-◌, ◌^◌, ◌≤◌, ◌<◌}
use native.Mathlib.Numerals.{add-one}
use native.Mathlib.Omega.{arith}
use mathlib.Core.Path.{◌≡◌, refl, sym, ◌∙◌}
use mathlib.Core.Bool.{true}
use mathlib.Core.List.{List, [], ◌∷◌}
use lib.ListN.{length, take, get_or}
use lib.Dec.{leb}
use borrow.Author.Tests.{lt-ltb, le-leb}
use mir.Syntax.{w8}
use mir.Val.{Fits}
use Rattle.number.specs.BigEndian.{Bytes, behind}
use Rattle.number.specs.VarUInt.{lead, bound, following, value_of, answer, cut, whole, var_uint}
use Rattle.number.proofs.VarUIntLaws.{limit, limit_whole, Following, following_is, below, answer_whole}

-- what is known of a slice of bytes
abbrev pub Known : List ℕ → Type 0
Known s = (i : ℕ) → Fits w8 (get_or s i 0)

pub bytes_of : (s : List ℕ) → Known s → Bytes s
bytes_of [] g = tt
bytes_of (b ∷ s) g = ((g 0).fits, bytes_of s (λ i. g (suc i)))

pub read_none : (s : List ℕ) → length s ≡ 0 → cut 1 ≡ var_uint s
unfolding var_uint
read_none [] h = refl
read_none (b ∷ s) h = absurd (omega arith)

-- a first byte, and the others
at_first : (s r : List ℕ) (b n : ℕ) → s ≡ b ∷ r → n ≡ following b → var_uint s ≡ answer n b r
unfolding var_uint
at_first s r b n e f = rw (e, f)

pub read_one : (s r : List ℕ) (b n v : ℕ) → s ≡ b ∷ r → n ≡ following b → n ≡ 0 → v ≡ b → whole v 1 true ≡ var_uint s
read_one s r b n v e f z d =
    let l : b - 0 ≡ b = omega arith in
    rw (at_first s r b 0 e (sym z ∙ f), answer_whole 0 b r (omega arith), l, d, le-leb 0 b (omega arith))

pub read_cut : (s r : List ℕ) (b n : ℕ) → s ≡ b ∷ r → n ≡ following b → length r < n → cut (n - length r) ≡ var_uint s
read_cut s r b n e f l = rw (at_first s r b n e f, lt-ltb (length r) n l)

pub value_fits : (s r : List ℕ) (b n a : ℕ) → Known s → s ≡ b ∷ r → n ≡ following b → n ≤ length r → a ≡ b - lead n → behind a (take n r) < 2 ^ 64
value_fits s r b n a w e f h d =
    let g : Bytes (b ∷ r) = rw e at (bytes_of s w) in
    let i : Following n b = rw f (following_is b g.0) in
    let q : value_of n b r < limit n =
    below n b r (value_of n b r) (suc n) (leb (bound n) (value_of n b r)) i g.1 (record { room = h; value = refl; length_is = refl; minimal = refl }) in
    rw d (omega (arith, q, limit_whole n i.most))

pub read_whole : (s r : List ℕ) (b n a v u : ℕ) → s ≡ b ∷ r → n ≡ following b → n ≤ length r → a ≡ b - lead n → v ≡ behind a (take n r) → u ≡ bound n
    → whole v (n + 1) (leb u v) ≡ var_uint s
read_whole s r b n a v u e f h d g k =
    let q : v ≡ value_of n b r = g ∙ rw d in
    rw (at_first s r b n e f, answer_whole n b r h, q, k, add-one n)
