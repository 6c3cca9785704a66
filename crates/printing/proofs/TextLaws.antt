-- Text put piece by piece, as the code does it.
use Prim.Native.Nat.{ℕ, zero, suc, ◌+◌, ◌-◌, ◌*◌, ◌/◌, ◌%◌, ◌≤◌, ◌<◌}
use native.Mathlib.Numerals.{add-one}
use native.Mathlib.Omega.{arith}
use mathlib.Core.Path.{◌≡◌, refl, ap, ◌∙◌}
use mathlib.Core.Bool.{Bool, true, false, cond}
use mathlib.Core.List.{List, [], ◌∷◌, ◌++◌, append_assoc}
use lib.ListN.{length, take, drop, get_or, set, length-append}
use lib.Seq.{sets, sets-eq, drop-drop, take-length, length-sets, take-suc, length-take-le}
use borrow.Author.Tests.{lt-ltb, le-ltb}
use lib.Dec.{ltb}
use Rattle.format.specs.Encoding.{concat}
use Rattle.frames.specs.Program.{hex_digit, hex_byte, decimal}
use Rattle.frames.proofs.PlaceLaws.{sets_append}
use Rattle.printing.specs.Text.{Put, put, put_in}

-- ---- one piece behind the other

pub put_next : (a text end : List ℕ) (at n : ℕ) → record { next = n; text = end } ≡ put a text at → n ≡ at + length a
unfolding put
put_next a text end at n e = ap (λ (p : Put). p.next) e

pub put_then : (a b text mid end : List ℕ) (at n m : ℕ) → record { next = n; text = mid } ≡ put a text at
    → record { next = m; text = end } ≡ put b mid n
    → record { next = m; text = end } ≡ put (a ++ b) text at
unfolding put
put_then a b text mid end at n m e f =
    let i : n ≡ at + length a = put_next a text mid at n e in
    let j : mid ≡ sets text at a = ap (λ (p : Put). p.text) e in
    let k : n + length b ≡ at + length (a ++ b) = omega (arith, length-append a b) in
    f ∙ rw (k, j, i, sets_append a b text at)

pub put_length : (a text end : List ℕ) (at n : ℕ) → record { next = n; text = end } ≡ put a text at → length end ≡ length text
unfolding put
put_length a text end at n e = ap (λ (p : Put). length p.text) e ∙ length-sets text at a

pub put_one : (text : List ℕ) (at x : ℕ) → record { next = at + 1; text = set text at x } ≡ put (x ∷ []) text at
unfolding put
put_one text at x = refl

-- ---- a word

-- as `copy_from_slice` leaves it, of the n characters from a place on
pub word_copied : (word now text : List ℕ) (at n : ℕ) → now ≡ word → n ≡ length word → at + length word ≤ length text
    → record { next = at + length word; text = take at text ++ (now ++ drop n (drop at text)) } ≡ put word text at
unfolding put
word_copied word now text at n e f h = rw (e, f, drop-drop, sets-eq word text at h, append_assoc)

-- ---- decimal

module _ (d n : ℕ) (text : List ℕ) (at : ℕ) where
  pub decimal_none : d ≡ 0 → record { next = at; text = text } ≡ put (decimal d n) text at
  unfolding put
  decimal_none e = let z : at ≡ at + 0 = omega arith in rw (e, ← z)

  decimal_suc : (d ≡ 0 → ⊥) → decimal d n ≡ cond (ltb n 10) [] (decimal (d - 1) (n / 10)) ++ (0x30 + n % 10) ∷ []
  decimal_suc e = let z : d ≡ suc (d - 1) = omega arith in ap (λ k. decimal k n) z

  pub decimal_one : (d ≡ 0 → ⊥) → n < 10 → record { next = at + 1; text = set text at (0x30 + n) } ≡ put (decimal d n) text at
  unfolding put
  decimal_one e h = let z : n % 10 ≡ n = omega arith in rw (decimal_suc e, lt-ltb n 10 h, z)

  pub decimal_more : (d ≡ 0 → ⊥) → 10 ≤ n → (mid : List ℕ) (m : ℕ) → record { next = m; text = mid } ≡ put (decimal (d - 1) (n / 10)) text at
      → record { next = m + 1; text = set mid m (0x30 + n % 10) } ≡ put (decimal d n) text at
  decimal_more e h mid m i =
      rw (decimal_suc e, le-ltb n 10 h)
      (put_then (decimal (d - 1) (n / 10)) ((0x30 + n % 10) ∷ []) text mid (set mid m (0x30 + n % 10)) at m (m + 1) i (put_one mid m (0x30 + n % 10)))

pub decimal_length : (d n : ℕ) → length (decimal d n) ≤ d
decimal_length zero n = omega arith
decimal_length (suc d) n = at (ltb n 10) (decimal_length d (n / 10))
  where
    at : (b : Bool) → length (decimal d (n / 10)) ≤ d → length (cond b [] (decimal d (n / 10)) ++ (0x30 + n % 10) ∷ []) ≤ suc d
    at true h = omega arith
    at false h = omega (arith, length-append (decimal d (n / 10)) ((0x30 + n % 10) ∷ []))

-- ---- bytes

pub bytes_length : (s : List ℕ) → length (concat hex_byte s) ≡ 2 * length s
bytes_length [] = refl
bytes_length (b ∷ s) = omega (arith, bytes_length s)

bytes_snoc : (s : List ℕ) (b : ℕ) → concat hex_byte (s ++ (b ∷ [])) ≡ concat hex_byte s ++ hex_byte b
bytes_snoc [] b = refl
bytes_snoc (x ∷ s) b = rw (bytes_snoc s b, append_assoc)

pub bytes_on : (part start text : List ℕ) (i x y : ℕ) → i < length part → text ≡ sets start 0 (concat hex_byte (take i part))
    → x ≡ hex_digit (get_or part i 0 / 16) → y ≡ hex_digit (get_or part i 0 % 16)
    → set (set text (2 * i) x) (2 * i + 1) y ≡ sets start 0 (concat hex_byte (take (i + 1) part))
bytes_on part start text i x y h e f g =
    let b = get_or part i 0 in
    let s = concat hex_byte (take i part) in
    let n : 0 + length s ≡ 2 * i = omega (arith, bytes_length (take i part), length-take-le i part (omega arith)) in
    let k : 2 * i + 1 ≡ suc (2 * i) = omega arith in
    let z = sets_append s (hex_byte b) start 0 in
    rw (e, f, g, k, add-one i, take-suc part i 0 h, bytes_snoc (take i part) b) (rw n at z)

pub bytes_end : (part start text : List ℕ) → text ≡ sets start 0 (concat hex_byte (take (length part) part))
    → record { next = 2 * length part; text = text } ≡ put (concat hex_byte part) start 0
unfolding put
bytes_end part start text e = let n : 2 * length part ≡ 0 + 2 * length part = omega arith in rw (e, take-length part, n, bytes_length part)

-- ---- room

module _ (n : ℕ) (s text : List ℕ) where
  pub put_none : length text < n → record { next = 0; text = text } ≡ put_in n s text
  unfolding put_in
  put_none h = rw (lt-ltb (length text) n h)

  pub put_room : n ≤ length text → (x : Put) → x ≡ put s text 0 → x ≡ put_in n s text
  unfolding put_in
  put_room h x e = rw (le-ltb (length text) n h) e

  pub put_inside : n ≤ length text → (x : Put) → x ≡ put_in n s text → x ≡ put s text 0
  unfolding put_in
  put_inside h x e = rw (le-ltb (length text) n h) at e
