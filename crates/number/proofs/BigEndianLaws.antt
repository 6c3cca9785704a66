-- Laws of big-endian numbers: bytes make a number, and the number's last bytes are these bytes again.
use Prim.Native.Nat.{ℕ, zero, suc, ◌+◌, ◌*◌, ◌/◌, ◌%◌, ◌^◌, ◌≤◌, ◌<◌}
use native.Mathlib.Omega.{arith}
use native.Mathlib.Nat.{mod-eq_of_lt, pow-succ', add-mul-div_right, add-mul-mod_self_right}
use mathlib.Core.Path.{◌≡◌, refl, sym, ap, ◌∙◌}
use mathlib.Core.List.{List, [], ◌∷◌}
use lib.ListN.{length, take, drop, get_or}
use lib.Seq.{drop-cons}
use lib.Arith.{mod-mul, digits_div, digits_lt}
use Rattle.number.specs.BigEndian.{Bytes, behind, from_bytes, to_bytes}

pub positive : (n : ℕ) → 0 < 256 ^ n
positive zero = omega arith
positive (suc n) = rw (pow-succ' 256 n) (omega (arith, positive n))

pub to_length : (n v : ℕ) → length (to_bytes n v) ≡ n
to_length zero v = refl
to_length (suc n) v = ap suc (to_length n v)

pub to_bytes_law : (n v : ℕ) → Bytes (to_bytes n v)
to_bytes_law zero v = tt
to_bytes_law (suc n) v = (omega arith, to_bytes_law n v)

-- the last bytes do not depend on what stands before them
pub to_last : (n c w : ℕ) → to_bytes n (c * 256 ^ n + w) ≡ to_bytes n w
to_last zero c w = refl
to_last (suc n) c w =
    let e : c * 256 ^ suc n + w ≡ w + (c * 256) * 256 ^ n = rw (pow-succ' 256 n) (omega arith) in
    let f : w + (c * 256) * 256 ^ n ≡ (c * 256) * 256 ^ n + w = omega arith in
    let q : (w + (c * 256) * 256 ^ n) / 256 ^ n ≡ w / 256 ^ n + c * 256 = add-mul-div_right w (c * 256) (positive n) in
    let d : (w / 256 ^ n + c * 256) % 256 ≡ w / 256 ^ n % 256 = add-mul-mod_self_right (w / 256 ^ n) c 256 in
    let t : to_bytes n (w + (c * 256) * 256 ^ n) ≡ to_bytes n w = rw f (to_last n (c * 256) w) in
    rw (e, q, d, t)

pub behind_to : (n a v : ℕ) → behind a (to_bytes n v) ≡ a * 256 ^ n + v % 256 ^ n
behind_to zero a v = let e : a ≡ a * 1 + v % 1 = omega arith in e
behind_to (suc n) a v =
    let e : (a * 256 + v / 256 ^ n % 256) * 256 ^ n + v % 256 ^ n ≡ a * 256 ^ suc n + v % 256 ^ suc n =
    rw (pow-succ' 256 n, mod-mul v {m = 256} {c = 256 ^ n} (omega arith) (positive n)) (omega arith) in
    behind_to n (a * 256 + v / 256 ^ n % 256) v ∙ e

pub from_to : (n v : ℕ) → v < 256 ^ n → from_bytes (to_bytes n v) ≡ v
from_to n v h = behind_to n 0 v ∙ rw (mod-eq_of_lt h) (omega arith)

-- what stands before the bytes, and the bytes' own number
pub behind_is : (s : List ℕ) (a : ℕ) → behind a s ≡ a * 256 ^ length s + from_bytes s
behind_is [] a = omega arith
behind_is (b ∷ s) a =
    let e : behind (a * 256 + b) s ≡ (a * 256 + b) * 256 ^ length s + from_bytes s = behind_is s (a * 256 + b) in
    let f : behind (0 * 256 + b) s ≡ (0 * 256 + b) * 256 ^ length s + from_bytes s = behind_is s (0 * 256 + b) in
    rw (e, f, pow-succ' 256 (length s)) (omega arith)

pub from_lt : (s : List ℕ) → Bytes s → from_bytes s < 256 ^ length s
from_lt [] h = omega arith
from_lt (b ∷ s) h =
    rw (behind_is s (0 * 256 + b), pow-succ' 256 (length s)) (digits_lt {q = 0 * 256 + b} (omega (arith, h.0)) (from_lt s h.1))

pub to_from : (s : List ℕ) → Bytes s → to_bytes (length s) (from_bytes s) ≡ s
to_from [] h = refl
to_from (b ∷ s) h =
    let e : behind (0 * 256 + b) s ≡ b * 256 ^ length s + from_bytes s = behind_is s (0 * 256 + b) ∙ omega arith in
    let d : (b * 256 ^ length s + from_bytes s) / 256 ^ length s ≡ b = digits_div b (from_lt s h.1) in
    let m : b % 256 ≡ b = mod-eq_of_lt h.0 in
    rw (e, d, m, to_last (length s) b (from_bytes s)) (ap (λ l. b ∷ l) (to_from s h.1))

pub bytes_take : (n : ℕ) (s : List ℕ) → Bytes s → Bytes (take n s)
bytes_take zero s h = tt
bytes_take (suc n) [] h = tt
bytes_take (suc n) (b ∷ s) h = (h.0, bytes_take n s h.1)

pub behind_least : (s : List ℕ) (a : ℕ) → a ≤ behind a s
behind_least [] a = omega arith
behind_least (b ∷ s) a = omega (arith, behind_least s (a * 256 + b))

-- one byte more of the bytes that are left
pub behind_fits : (s : List ℕ) (a i total : ℕ) → behind a (drop i s) ≡ total → i < length s → a * 256 + get_or s i 0 ≤ total
behind_fits s a i total e h =
    rw (ap (behind a) (sym (drop-cons s i 0 h)) ∙ e) at (behind_least (drop (suc i) s) (a * 256 + get_or s i 0))
