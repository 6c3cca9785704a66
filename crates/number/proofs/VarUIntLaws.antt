-- Laws of the VarUInt: how many bytes follow the first; what the minimal form reads back as, and that a minimal form that reads as a value is
-- the value's own form.
use Prim.Native.Nat.{ℕ, zero, suc, ◌+◌, ◌-◌, ◌*◌, ◌/◌, ◌^◌, ◌≤◌, ◌<◌}
use native.Mathlib.Omega.{arith}
use native.Mathlib.Nat.{div-add-mod', div-lt_iff_lt-mul}
use mathlib.Core.Path.{◌≡◌, refl, sym, ap, ◌∙◌}
use mathlib.Core.Bool.{Bool, true, false, cond}
use mathlib.Core.List.{List, [], ◌∷◌, ◌++◌}
use lib.ListN.{length, take, drop, get_or, length-append, take-append-drop}
use lib.Seq.{take_at, length-take-le}
use lib.Arith.{digits_div, digits_lt}
use lib.Count.{count_leading_zeros, leading_le}
use lib.Dec.{T, ltb, leb, eqb, leb→le, eqb→eq}
use borrow.Author.Tests.{ltb-false, leb-true, le-ltb, le-leb}
use mir.Syntax.{w64}
use mir.Val.{Fits}
use Rattle.std.specs.Int.Bits.{bit_and}
use Rattle.number.specs.BigEndian.{Bytes, behind, from_bytes, to_bytes}
use Rattle.number.specs.VarUInt.{reached, leads, lead, bounds, bound, following, value_of, answer, cut, whole, var_uint, form, encoded}
use Rattle.number.proofs.BigEndianLaws.{positive, to_length, to_bytes_law, to_last, behind_to, behind_is, from_lt, to_from, bytes_take}
use Rattle.number.proofs.AnswerLaws.{whole_same}
use Rattle.number.proofs.ReachedLaws.{Rising, reached_most, reached_low, reached_high, reached_at}

-- the least byte with more than n leading one bits, and 256 for 8
abbrev pub top : ℕ → ℕ
top n = get_or leads n 256

-- the least number that n bytes behind the first do not hold
abbrev pub limit : ℕ → ℕ
limit n = get_or bounds n (2 ^ 64)

-- a test that passes at each number below n, by computing it at all of them
abbrev every : (ℕ → Bool) → ℕ → Bool
every p zero = true
every p (suc n) = cond (p zero) (every (λ k. p (suc k)) n) false

every_at : (p : ℕ → Bool) (n : ℕ) → T (every p n) → (k : ℕ) → k < n → T (p k)
every_at p zero t k h = absurd (omega arith)
every_at p (suc n) t k h = go (p zero) refl t k h (every_at (λ k. p (suc k)) n)
  where
    go : (x : Bool) → p zero ≡ x → T (cond x (every (λ k. p (suc k)) n) false) → (k : ℕ) → k < suc n
        → (T (every (λ k. p (suc k)) n) → (k : ℕ) → k < n → T (p (suc k))) → T (p k)
    go true e t zero h i = rw e tt
    go true e t (suc k) h i = i t k (omega arith)
    go false e t k h i = absurd t

-- a first byte with n leading one bits and n bytes hold what is below the limit
module _ (n : ℕ) (h : n ≤ 8) where
  scale : limit n ≡ (top n - lead n) * 256 ^ n
  scale = eqb→eq (limit n) ((top n - lead n) * 256 ^ n) (every_at (λ k. eqb (limit k) ((top k - lead k) * 256 ^ k)) 9 tt n (omega arith))

  pub limit_whole : limit n ≤ 2 ^ 64
  limit_whole = leb→le (limit n) (2 ^ 64) (every_at (λ k. leb (limit k) (2 ^ 64)) 9 tt n (omega arith))

  top_byte : top n ≤ 256
  top_byte = leb→le (top n) 256 (every_at (λ k. leb (top k) 256) 9 tt n (omega arith))

-- the least first byte with n bytes behind it, as shifts make it
pub lead_is : (n : ℕ) → n ≤ 8 → 255 - 255 / 2 ^ n ≡ lead n
lead_is n h = eqb→eq (255 - 255 / 2 ^ n) (lead n) (every_at (λ k. eqb (255 - 255 / 2 ^ k) (lead k)) 9 tt n (omega arith))

leads_rise : Rising 0 leads
leads_rise = omega arith

bounds_rise : Rising 0 bounds
bounds_rise = omega arith

-- the first byte's number of leading one bits
pub record Following (n b : ℕ) : Type 0 where
  pub most : n ≤ 8
  pub low : lead n ≤ b
  pub high : b < top n

pub following_is : (b : ℕ) → b < 256 → Following (following b) b
following_is b h = record { most = reached_most leads b; low = reached_low 0 leads b (omega arith); high = reached_high leads b 256 h }

is_following : (n b : ℕ) → Following n b → following b ≡ n
is_following n b f = reached_at 0 leads n b 256 leads_rise f.most f.low f.high

-- a byte's complement has as many leading zeros as the byte has leading one bits: computed at each of the 256 bytes
pub complement_zeros : (b : ℕ) → b < 256 → count_leading_zeros 8 (255 - b) ≡ following b
unfolding count_leading_zeros
complement_zeros b h =
    eqb→eq (count_leading_zeros 8 (255 - b)) (following b) (every_at (λ k. eqb (count_leading_zeros 8 (255 - k)) (following k)) 256 tt b h)

-- a count of leading zeros among eight bits fits a usize
pub count_fits : (x : ℕ) → Fits w64 (count_leading_zeros 8 x)
count_fits x = record { fits = omega (arith, leading_le 8 x) }

-- what the mask leaves of a byte: computed at each of the 256 bytes
pub masked : (b : ℕ) → b < 256 → bit_and b (127 / 2 ^ following b) ≡ b - lead (following b)
masked b h =
    eqb→eq (bit_and b (127 / 2 ^ following b)) (b - lead (following b))
    (every_at (λ k. eqb (bit_and k (127 / 2 ^ following k)) (k - lead (following k))) 256 tt b h)

-- how many bytes behind the first the value needs
record Needed (n v : ℕ) : Type 0 where
  most : n ≤ 8
  low : bound n ≤ v
  high : v < limit n

needed_is : (v : ℕ) → v < 2 ^ 64 → Needed (reached bounds v) v
needed_is v h = record { most = reached_most bounds v; low = reached_low 0 bounds v (omega arith); high = reached_high bounds v (2 ^ 64) h }

is_needed : (n v : ℕ) → Needed n v → reached bounds v ≡ n
is_needed n v f = reached_at 0 bounds n v (2 ^ 64) bounds_rise f.most f.low f.high

pub needed_at : (n v : ℕ) → n ≤ 8 → bound n ≤ v → v < limit n → n ≡ reached bounds v
needed_at n v h low high = sym (is_needed n v (record { most = h; low = low; high = high }))

first_byte : (n v : ℕ) → n ≤ 8 → v < limit n → Following n (lead n + v / 256 ^ n)
first_byte n v h l =
    let q : v / 256 ^ n < top n - lead n = (div-lt_iff_lt-mul (positive n)).1 (rw (scale n h) at l) in
    record { most = h; low = omega arith; high = omega arith }

-- what a whole one is made of
pub record Made (n b : ℕ) (s : List ℕ) (v k : ℕ) (m : Bool) : Type 0 where
  pub room : n ≤ length s
  pub value : v ≡ value_of n b s
  pub length_is : k ≡ suc n
  pub minimal : leb (bound n) (value_of n b s) ≡ m

pub made : (n b : ℕ) (s : List ℕ) (v k : ℕ) (m : Bool) → answer n b s ≡ whole v k m → Made n b s v k m
made n b s v k m h = go (ltb (length s) n) _ refl h
  where
    go : (x : Bool) (c : ℕ) → ltb (length s) n ≡ x
        → cond x (cut c) (whole (value_of n b s) (suc n) (leb (bound n) (value_of n b s))) ≡ whole v k m → Made n b s v k m
    go true c e h = let z : ◌≡◌ {A = ℕ} 0 1 = cc in absurd (omega arith)
    go false c e h =
        let i = whole_same (value_of n b s) (suc n) (leb (bound n) (value_of n b s)) v k m h in
        record { room = ltb-false (length s) n e; value = sym i.0; length_is = sym i.1; minimal = i.2 }

pub answer_whole : (n b : ℕ) (s : List ℕ) → n ≤ length s → answer n b s ≡ whole (value_of n b s) (suc n) (leb (bound n) (value_of n b s))
answer_whole n b s h = rw (le-ltb (length s) n)

-- the form with n bytes behind the first reads back as its value
pub form_reads : (n v : ℕ) (r : List ℕ) → n ≤ 8 → v < limit n → var_uint (form n v ++ r) ≡ whole v (suc n) (leb (bound n) v)
unfolding var_uint
form_reads n v r h l =
    let a : lead n + v / 256 ^ n - lead n ≡ v / 256 ^ n = omega arith in
    let t : take n (to_bytes n v ++ r) ≡ to_bytes n v = take_at (to_bytes n v) r n (to_length n v) in
    let e : value_of n (lead n + v / 256 ^ n) (to_bytes n v ++ r) ≡ v = rw (a, t) (behind_to n (v / 256 ^ n) v ∙ div-add-mod' v (256 ^ n)) in
    let w : n ≤ length (to_bytes n v ++ r) = omega (arith, length-append (to_bytes n v) r, to_length n v) in
    rw (is_following n (lead n + v / 256 ^ n) (first_byte n v h l), answer_whole n (lead n + v / 256 ^ n) (to_bytes n v ++ r) w, e)

pub form_length : (n v : ℕ) → length (form n v) ≡ suc n
form_length n v = ap suc (to_length n v)

pub encoded_length : (v : ℕ) → (1 ≤ length (encoded v)) × (length (encoded v) ≤ 9)
unfolding encoded
encoded_length v = omega (arith, to_length (reached bounds v) v, reached_most bounds v)

pub measured : (n v : ℕ) → n ≡ reached bounds v → n + 1 ≡ length (encoded v)
unfolding encoded
measured n v e = rw (to_length (reached bounds v) v) (omega arith)

pub encoded_at : (n v : ℕ) → n ≡ reached bounds v → encoded v ≡ form n v
unfolding encoded
encoded_at n v e = ap (λ k. form k v) (sym e)

pub encoded_first : (v : ℕ) → v < 2 ^ 64 → lead (reached bounds v) + v / 256 ^ reached bounds v < 256
encoded_first v h = go (reached bounds v) (needed_is v h)
  where
    go : (n : ℕ) → Needed n v → lead n + v / 256 ^ n < 256
    go n f = omega (arith, (first_byte n v f.most f.high).high, top_byte n f.most)

pub encoded_bytes : (v : ℕ) → v < 2 ^ 64 → Bytes (encoded v)
unfolding encoded
encoded_bytes v h = (encoded_first v h, to_bytes_law (reached bounds v) v)

pub var_rt : (v : ℕ) (r : List ℕ) → v < 2 ^ 64 → var_uint (encoded v ++ r) ≡ whole v (length (encoded v)) true
unfolding encoded
var_rt v r h = go (reached bounds v) (needed_is v h)
  where
    go : (n : ℕ) → Needed n v → var_uint (form n v ++ r) ≡ whole v (length (form n v)) true
    go n f = rw (form_reads n v r f.most f.high, form_length n v, le-leb (bound n) v f.low)

pub var_range : (s : List ℕ) (v n : ℕ) (m : Bool) → var_uint s ≡ whole v n m → (1 ≤ n) × (n ≤ 9) × (n ≤ length s)
unfolding var_uint
var_range [] v n m h = let z : ◌≡◌ {A = ℕ} 0 1 = cc in absurd (omega arith)
var_range (b ∷ s) v n m h = go (following b) (reached_most leads b) h
  where
    go : (k : ℕ) → k ≤ 8 → answer k b s ≡ whole v n m → (1 ≤ n) × (n ≤ 9) × (n ≤ suc (length s))
    go k l h = let i = made k b s v n m h in omega (arith, i.room, i.length_is)

-- the value, split into the first byte's part and the others'
split : (n b : ℕ) (s : List ℕ) (v k : ℕ) (m : Bool) → Made n b s v k m → v ≡ (b - lead n) * 256 ^ n + from_bytes (take n s)
split n b s v k m i =
    let e : length (take n s) ≡ n = length-take-le n s i.room in
    let q : behind (b - lead n) (take n s) ≡ (b - lead n) * 256 ^ length (take n s) + from_bytes (take n s) = behind_is (take n s) (b - lead n) in
    i.value ∙ q ∙ ap (λ x. (b - lead n) * 256 ^ x + from_bytes (take n s)) e

last_lt : (n : ℕ) (s : List ℕ) → Bytes s → n ≤ length s → from_bytes (take n s) < 256 ^ n
last_lt n s w h = rw (length-take-le n s h) at (from_lt (take n s) (bytes_take n s w))

pub below : (n b : ℕ) (s : List ℕ) (v k : ℕ) (m : Bool) → Following n b → Bytes s → Made n b s v k m → v < limit n
below n b s v k m f w i =
    rw (scale n f.most, split n b s v k m i) (digits_lt (omega (arith, f.low, f.high)) (last_lt n s w i.room))

pub var_value : (s : List ℕ) (v n : ℕ) (m : Bool) → Bytes s → var_uint s ≡ whole v n m → v < 2 ^ 64
unfolding var_uint
var_value [] v n m w h = let z : ◌≡◌ {A = ℕ} 0 1 = cc in absurd (omega arith)
var_value (b ∷ s) v n m w h = go (following b) (following_is b w.0) h
  where
    go : (k : ℕ) → Following k b → answer k b s ≡ whole v n m → v < 2 ^ 64
    go k f h = omega (arith, below k b s v n m f w.1 (made k b s v n m h), limit_whole k f.most)

-- a value's parts are those of its form
form_is : (n b : ℕ) (s : List ℕ) (v k : ℕ) (m : Bool) → Following n b → Bytes s → Made n b s v k m → form n v ≡ b ∷ take n s
form_is n b s v k m f w i =
    let e : v ≡ (b - lead n) * 256 ^ n + from_bytes (take n s) = split n b s v k m i in
    let d : v / 256 ^ n ≡ b - lead n = rw e (digits_div (b - lead n) (last_lt n s w i.room)) in
    let p : lead n + (b - lead n) ≡ b = omega (arith, f.low) in
    let q : to_bytes n v ≡ to_bytes n (from_bytes (take n s)) = rw e (to_last n (b - lead n) (from_bytes (take n s))) in
    let t : to_bytes n (from_bytes (take n s)) ≡ take n s = rw (length-take-le n s i.room) at (to_from (take n s) (bytes_take n s w)) in
    rw (d, p, q, t)

pub var_inv : (s : List ℕ) (v n : ℕ) → Bytes s → var_uint s ≡ whole v n true → (v < 2 ^ 64) × (n ≡ length (encoded v)) × (s ≡ encoded v ++ drop n s)
unfolding var_uint
var_inv [] v n w h = let z : ◌≡◌ {A = ℕ} 0 1 = cc in absurd (omega arith)
var_inv (b ∷ s) v n w h = go (following b) (following_is b w.0) h
  where
    go : (k : ℕ) → Following k b → answer k b s ≡ whole v n true → (v < 2 ^ 64) × (n ≡ length (encoded v)) × (b ∷ s ≡ encoded v ++ drop n (b ∷ s))
    go k f h =
        let i = made k b s v n true h in
        let l : v < limit k = below k b s v n true f w.1 i in
        let m : bound k ≤ v = omega (arith, leb-true (bound k) (value_of k b s) i.minimal, i.value) in
        let e : encoded v ≡ b ∷ take k s = encoded_at k v (needed_at k v f.most m l) ∙ form_is k b s v n true f w.1 i in (
          omega (arith, limit_whole k f.most),
          rw (e, length-take-le k s i.room) i.length_is,
          rw (e, i.length_is) (ap (λ t. b ∷ t) (sym (take-append-drop k s))),
        )

-- whatever is read is the form of its value with some number of bytes behind the first
pub var_form : (s : List ℕ) (v n : ℕ) (m : Bool) → Bytes s → var_uint s ≡ whole v n m → (k : ℕ) × (k ≤ 8) × (v < limit k) × (take n s ≡ form k v)
unfolding var_uint
var_form [] v n m w h = let z : ◌≡◌ {A = ℕ} 0 1 = cc in absurd (omega arith)
var_form (b ∷ s) v n m w h = go (following b) (following_is b w.0) h
  where
    go : (k : ℕ) → Following k b → answer k b s ≡ whole v n m → (k : ℕ) × (k ≤ 8) × (v < limit k) × (take n (b ∷ s) ≡ form k v)
    go k f h = let i = made k b s v n m h in (k, f.most, below k b s v n m f w.1 i, rw i.length_is (sym (form_is k b s v n m f w.1 i)))

pub var_local : (s : List ℕ) (v n : ℕ) (m : Bool) → var_uint s ≡ whole v n m → (t : List ℕ) → var_uint (take n s ++ t) ≡ whole v n m
unfolding var_uint
var_local [] v n m h t = let z : ◌≡◌ {A = ℕ} 0 1 = cc in absurd (omega arith)
var_local (b ∷ s) v n m h t = go (following b) refl h
  where
    go : (k : ℕ) → following b ≡ k → answer k b s ≡ whole v n m → var_uint (take n (b ∷ s) ++ t) ≡ whole v n m
    go k f h =
        let i = made k b s v n m h in
        let c : length (take k s) ≡ k = length-take-le k s i.room in
        let e : take k (take k s ++ t) ≡ take k s = take_at (take k s) t k c in
        let w : k ≤ length (take k s ++ t) = omega (arith, length-append (take k s) t) in
        rw (i.length_is, f, answer_whole k b (take k s ++ t) w, e) (sym (answer_whole k b s i.room) ∙ h ∙ ap (λ x. whole v x m) i.length_is)
