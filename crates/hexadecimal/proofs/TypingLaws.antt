-- What the code knows at each return.
use Prim.Native.Nat.{ℕ, suc, ◌+◌, ◌-◌, ◌*◌, ◌%◌, ◌≤◌, ◌<◌}
use native.Mathlib.Omega.{arith}
use mathlib.Core.Path.{◌≡◌, refl, sym, ap, ◌∙◌}
use mathlib.Core.Bool.{Bool, true, false, cond}
use mathlib.Core.List.{List, [], ◌∷◌}
use lib.ListN.{length, set, length-set, drop, get_or, drop_of_length-le}
use lib.Seq.{drop-cons}
use lib.Dec.{ltb}
use Rattle.std.proofs.Common.{Option, Some, None}
use borrow.Author.Tests.{le-leb, lt-leb, ne_eqb}
use Rattle.hexadecimal.specs.declared.Character.{Character}
use Rattle.hexadecimal.specs.declared.Character.TheVariants as C
use Rattle.hexadecimal.specs.declared.Typing.{Typing}
use Rattle.hexadecimal.specs.Typing.{told, Fed, afterwards, put, fed_by, fed_one, fed}

-- ---- a character

module _ (c : ℕ) where
  pub line_feed_law : c ≡ 0x0a → C.LineFeed ≡ told c
  unfolding told
  line_feed_law h = rw h

  pub before_digits : (c ≡ 0x0a → ⊥) → c < 0x30 → C.Another ≡ told c
  unfolding told
  before_digits n h = rw (lt-leb 0x30 c h, lt-leb 0x61 c (omega arith), ne_eqb c 0x0a n)

  pub decimal_digit : 0x30 ≤ c → c ≤ 0x39 → C.Digit (c - 0x30) ≡ told c
  unfolding told
  decimal_digit h i = rw (le-leb 0x30 c h, le-leb c 0x39 i)

  pub before_letters : 0x39 < c → c < 0x61 → C.Another ≡ told c
  unfolding told
  before_letters h i = rw (le-leb 0x30 c (omega arith), lt-leb c 0x39 h, lt-leb 0x61 c i, ne_eqb c 0x0a (λ e. omega arith))

  pub letter_digit : 0x61 ≤ c → c ≤ 0x66 → C.Digit (c - 0x61 + 10) ≡ told c
  unfolding told
  letter_digit h i = rw (le-leb 0x30 c (omega arith), lt-leb c 0x39 (omega arith), le-leb 0x61 c h, le-leb c 0x66 i)

  pub past_letters : 0x66 < c → C.Another ≡ told c
  unfolding told
  past_letters h =
      rw (le-leb 0x30 c (omega arith), lt-leb c 0x39 (omega arith), le-leb 0x61 c (omega arith), lt-leb c 0x66 h, ne_eqb c 0x0a (λ e. omega arith))

pub ruleset laws = (line_feed_law, before_digits, decimal_digit, before_letters, letter_digit, past_letters)

-- ---- a part: what is typed up to a position, and what is typed from there on

pub fed_on : (s : List ℕ) (i : ℕ) (t r : Typing) (l k : List ℕ) (o : Fed) → i < length s → o ≡ fed (drop i s) t l → afterwards r k ≡ fed_one (get_or s i 0) t l
    → o ≡ fed (drop (i + 1) s) r k
fed_on s i t r l k o h e f =
    let z : drop i s ≡ get_or s i 0 ∷ drop (suc i) s = drop-cons s i 0 h in
    let w : fed (drop i s) t l ≡ fed (drop (suc i) s) r k = ap (λ a. fed a t l) z ∙ ap (λ a. fed (drop (suc i) s) a.typing a.list) (sym f) in
    let y : suc i ≡ i + 1 = omega arith in
    e ∙ w ∙ ap (λ n. fed (drop n s) r k) y

pub fed_end : (s : List ℕ) (i : ℕ) (t : Typing) (l : List ℕ) (o : Fed) → length s ≤ i → o ≡ fed (drop i s) t l → o ≡ afterwards t l
fed_end s i t l o h e = e ∙ ap (λ a. fed a t l) (drop_of_length-le s h)

-- ---- the list keeps its length

put_length : (l : List ℕ) (n b : ℕ) → length (put l n b) ≡ length l
put_length l n b = at (ltb n (length l))
  where
    at : (t : Bool) → length (cond t (set l n b) l) ≡ length l
    at true = length-set l n b
    at false = refl

one_length : (c : ℕ) (t : Typing) (l : List ℕ) → length (fed_one c t l).list ≡ length l
one_length c t l = at t.wrong (told c) t.digit
  where
    at : (a : Bool) (x : Character) (o : Option ℕ) → length (cond a (afterwards t l) (fed_by x o t l)).list ≡ length l
    at true x o = refl
    at false (C.Digit d) (Some h) = put_length l t.formed (h % 16 * 16 + d % 16)
    at false (C.Digit d) None = refl
    at false C.LineFeed o = refl
    at false C.Another o = refl

pub fed_length : (s : List ℕ) (t : Typing) (l : List ℕ) → length (fed s t l).list ≡ length l
fed_length [] t l = refl
fed_length (c ∷ s) t l = fed_length s (fed_one c t l).typing (fed_one c t l).list ∙ one_length c t l
