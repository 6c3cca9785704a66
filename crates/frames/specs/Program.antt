-- The program: what it prints of what it reads (document 01, "The write list", its last paragraph).
use Rattle.std.specs.Prelude.{ℕ, zero, suc, ◌+◌, ◌-◌, ◌*◌, ◌/◌, ◌%◌, ◌&&◌, cond, List, [], ◌∷◌, ◌++◌, eqb, ltb, leb}
use Rattle.std.proofs.Math.Option.{Option, none, some}
use Rattle.frames.specs.declared.Refusal.TheVariants.{BadFrame}
use Rattle.format.specs.Encoding.{concat}
use Rattle.frames.specs.Writer.{refusal_number, Outcome, refuse, wrote, outcome}

-- ---- characters to bytes

-- a line feed means nothing
pub data Character : Type 0 where
  digit : ℕ → Character
  line_feed another : Character

-- lower-case hexadecimal: 0 to 9 are 30 to 39, a to f are 61 to 66
abbrev pub character : ℕ → Character
character c =
    cond (leb 0x30 c && leb c 0x39) (digit (c - 0x30))
    (cond (leb 0x61 c && leb c 0x66) (digit (c - 0x61 + 10))
    (cond (eqb c 0x0a) line_feed another))

-- the bytes; or the place of the byte being formed at another character, or at the end after an odd digit
pub data Typed : Type 0 where
  typed : List ℕ → Typed
  mistyped : ℕ → Typed

abbrev pub first : ℕ → Typed → Typed
first b (typed s) = typed (b ∷ s)
first b (mistyped n) = mistyped n

-- n bytes stand before; with a digit at hand or with none. `go` types on behind this character
abbrev pub type_one : ℕ → Option ℕ → Character → (ℕ → Option ℕ → Typed) → Typed
type_one n none (digit d) go = go n (some d)
type_one n (some h) (digit d) go = first (h * 16 + d) (go (suc n) none)
type_one n none line_feed go = go n none
type_one n (some h) line_feed go = go n (some h)
type_one n none another go = mistyped n
type_one n (some h) another go = mistyped n

abbrev pub type_from : List ℕ → ℕ → Option ℕ → Typed
type_from [] n none = typed []
type_from [] n (some h) = mistyped n
type_from (c ∷ s) n o = type_one n o (character c) (λ m q. type_from s m q)

unfoldable pub bytes_typed : List ℕ → Typed
bytes_typed s = type_from s 0 none

-- ---- the answer's text

abbrev pub hex_digit : ℕ → ℕ
hex_digit n = cond (ltb n 10) (0x30 + n) (0x61 + (n - 10))

abbrev pub hex_byte : ℕ → List ℕ
hex_byte b = hex_digit (b / 16) ∷ hex_digit (b % 16) ∷ []

-- in decimal, of at most d digits
abbrev pub decimal : ℕ → ℕ → List ℕ
decimal zero n = []
decimal (suc d) n = cond (ltb n 10) [] (decimal d (n / 10)) ++ (0x30 + n % 10) ∷ []

abbrev pub word_refused : List ℕ
word_refused = 0x72 ∷ 0x65 ∷ 0x66 ∷ 0x75 ∷ 0x73 ∷ 0x65 ∷ 0x64 ∷ 0x20 ∷ []

abbrev pub word_at : List ℕ
word_at = 0x20 ∷ 0x61 ∷ 0x74 ∷ 0x20 ∷ []

abbrev pub line_end : List ℕ
line_end = 0x0a ∷ []

-- `refused N at P`; a place has at most 20 digits
abbrev pub printed : Outcome → List ℕ
printed (refuse n p) = word_refused ++ decimal 2 (refusal_number n) ++ word_at ++ decimal 20 p ++ line_end
printed (wrote e z) = concat hex_byte e ++ line_end

-- ---- the whole program. It lends 65,536 output bytes and 16,384 work numbers
abbrev pub program_of : Typed → Outcome
program_of (typed list) = outcome 65536 16384 list
program_of (mistyped n) = refuse BadFrame n

unfoldable pub program : List ℕ → List ℕ
program s = printed (program_of (bytes_typed s))
