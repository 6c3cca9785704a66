-- The binary digits of a number: of half of it there are fewer.
use Prim.Native.Nat.{ℕ, zero, suc, ◌+◌, ◌/◌, ◌≤◌, ◌<◌}
use native.Mathlib.Omega.{arith}
use mathlib.Core.Path.{◌≡◌, refl}
use mathlib.Core.Bool.{Bool, true, false, cond}
use lib.Dec.{ltb}
use borrow.Author.Tests.{ltb-true, ltb-false, lt-ltb, le-ltb}

unfoldable pub bits_with : ℕ → ℕ → ℕ
bits_with zero n = 0
bits_with (suc f) n = cond (ltb 0 n) (suc (bits_with f (n / 2))) 0

unfoldable pub bits : ℕ → ℕ
bits n = bits_with n n

some_bits : (f n : ℕ) → 0 < n → bits_with (suc f) n ≡ suc (bits_with f (n / 2))
unfolding bits_with
some_bits f n l = rw (lt-ltb 0 n l)

no_bits : (f n : ℕ) → n ≤ 0 → bits_with f n ≡ 0
unfolding bits_with
no_bits zero n l = refl
no_bits (suc f) n l = rw (le-ltb 0 n l)

with_upto : (f g a b : ℕ) → a ≤ b → a ≤ f → b ≤ g → bits_with f a ≤ bits_with g b
with_upto zero g a b h k l = omega (arith, no_bits zero a k)
with_upto (suc f) zero a b h k l = omega (arith, no_bits (suc f) a (omega arith))
with_upto (suc f) (suc g) a b h k l = go (ltb 0 a) refl (λ i. with_upto f g (a / 2) (b / 2) (omega arith) (omega arith) (omega arith))
  where
    go : (o : Bool) → ltb 0 a ≡ o → (0 < a → bits_with f (a / 2) ≤ bits_with g (b / 2)) → bits_with (suc f) a ≤ bits_with (suc g) b
    go true e i =
        let p : 0 < a = ltb-true 0 a e in
        omega (arith, some_bits f a p, some_bits g b (omega arith), i p)
    go false e i = omega (arith, no_bits (suc f) a (ltb-false 0 a e))

pub bits_upto : (a b : ℕ) → a ≤ b → bits a ≤ bits b
unfolding bits
bits_upto a b l = with_upto a b a b l (omega arith) (omega arith)

pub bits_half : (a b : ℕ) → a + a ≤ b → 0 < b → bits a < bits b
unfolding bits
bits_half a zero l k = absurd (omega arith)
bits_half a (suc b) l k = omega (arith, some_bits b (suc b) (omega arith), with_upto a b a (suc b / 2) (omega arith) (omega arith) (omega arith))
