-- A VarUInt put into a buffer: its last bytes from the back, and then its first.
use Prim.Native.Nat.{ℕ, suc, ◌+◌, ◌-◌, ◌/◌, ◌%◌, ◌^◌, ◌≤◌, ◌<◌}
use native.Mathlib.Numerals.{add-one}
use native.Mathlib.Omega.{arith}
use native.Mathlib.Nat.{div-div-eq-div-mul, mul_comm, pow-succ'}
use mathlib.Core.Path.{◌≡◌, refl, sym, ap, ◌∙◌}
use mathlib.Core.List.{List, [], ◌∷◌}
use lib.ListN.{length, set}
use lib.Seq.{sets, set_comm}
use borrow.Author.Tests.{le-leb, lt-leb}
use Rattle.std.proofs.Common.{Some, None}
use Rattle.number.specs.BigEndian.{to_bytes}
use Rattle.number.specs.VarUInt.{reached, bounds, lead, encoded}
use Rattle.encode.specs.Put.{afterwards, put_at}
use Rattle.number.proofs.VarUIntLaws.{measured, encoded_first, encoded_at}

-- an element before a run of stores
set_sets : (vs l : List ℕ) (i j a : ℕ) → i < j → set (sets l j vs) i a ≡ sets (set l i a) j vs
set_sets [] l i j a h = refl
set_sets (x ∷ vs) l i j a h =
    set_sets vs (set l j x) i (suc j) a (omega arith) ∙ ap (λ m. sets m (suc j) vs) (set_comm l j i x a (λ e. omega arith))

-- all but the first i of the n bytes behind `at` are put, and the rest of v is left
pub record Scattered (v at n : ℕ) (start out : List ℕ) (rest i : ℕ) : Type 0 where
  pub rest_is : rest ≡ v / 256 ^ (n - i)
  pub out_is : out ≡ sets start (at + 1 + i) (to_bytes (n - i) v)

pub scattered_again : (v at n : ℕ) (start out : List ℕ) (rest i : ℕ) → Scattered v at n start out rest i → i ≤ n → 0 < i
    → Scattered v at n start (set out (at + 1 + (i - 1)) (rest % 256)) (rest / 256) (i - 1)
scattered_again v at n start out rest i s h l =
    let k : n - (i - 1) ≡ suc (n - i) = omega arith in
    let p : at + 1 + i ≡ suc (at + 1 + (i - 1)) = omega arith in
    let q : v / 256 ^ (n - i) / 256 ≡ v / 256 ^ suc (n - i) =
    div-div-eq-div-mul v (256 ^ (n - i)) 256 ∙ ap (λ x. v / x) (mul_comm (256 ^ (n - i)) 256 ∙ sym (pow-succ' 256 (n - i))) in
    record {
      rest_is = rw (k, s.rest_is) q;
      out_is = rw (k, s.out_is, s.rest_is, p)
          (set_sets (to_bytes (n - i) v) start (at + 1 + (i - 1)) (suc (at + 1 + (i - 1))) (v / 256 ^ (n - i) % 256) (omega arith));
    }

pub first_fits : (v n : ℕ) → v < 2 ^ 64 → n ≡ reached bounds v → lead n + v / 256 ^ n < 256
first_fits v n h e = rw e (encoded_first v h)

module _ (v n : ℕ) (out : List ℕ) (at : ℕ) (e : n ≡ reached bounds v) where
  pub put_none : length out ≤ at + n → afterwards None out ≡ put_at v out at
  put_none h = rw (← measured n v e, lt-leb (at + (n + 1)) (length out) (omega arith))

  pub put_done : (mid : List ℕ) (f : ℕ) → at + n < length out → mid ≡ sets out (at + 1) (to_bytes n v) → f ≡ lead n + v / 256 ^ n
      → afterwards (Some (at + n + 1)) (set mid at f) ≡ put_at v out at
  put_done mid f h m g =
      let p : at + n + 1 ≡ at + (n + 1) = omega arith in
      let q : set mid at f ≡ sets out at (encoded v) =
      rw (encoded_at n v e, m, g, add-one at) (set_sets (to_bytes n v) out at (suc at) (lead n + v / 256 ^ n) (omega arith)) in
      rw (← measured n v e, le-leb (at + (n + 1)) (length out) (omega arith), p, q)
