-- Typing on: what one more part of the text makes of what was typed before (document 01, "The write list", its last paragraph). `bytes_typed`, of the whole
-- text, is in frames' Program.antt, and proofs/Parts.antt says that typing part by part gives it.
use Rattle.std.specs.Prelude.{ℕ, ◌+◌, ◌-◌, ◌*◌, ◌%◌, ◌^◌, true, false, cond, List, [], ◌∷◌, length, set, ltb, Option, Some, None}
use Rattle.frames.specs.Program.{character, digit, line_feed, another}
use Rattle.frames.specs.Program as program
use Rattle.hexadecimal.specs.declared.Character.{Character}
use Rattle.hexadecimal.specs.declared.Character.TheVariants as C
use Rattle.hexadecimal.specs.declared.Typing.{Typing}

abbrev pub told_of : program.Character → Character
told_of (digit d) = C.Digit d
told_of line_feed = C.LineFeed
told_of another = C.Another

unfoldable pub told : ℕ → Character
told c = told_of (character c)

-- what is typed, and what the list then holds
pub record Fed : Type 0 where
  pub typing : Typing
  pub list : List ℕ

abbrev pub afterwards : Typing → List ℕ → Fed
afterwards t l = record { typing = t; list = l }

abbrev pub start : Typing
start = record { formed = 0; digit = None; wrong = false }

-- the number of bytes, as far as 64 bits count
abbrev pub one_more : ℕ → ℕ
one_more n = cond (ltb n (2 ^ 64 - 1)) (n + 1) n

-- a byte at n, if the list goes so far
abbrev pub put : List ℕ → ℕ → ℕ → List ℕ
put l n b = cond (ltb n (length l)) (set l n b) l

-- a second digit makes a byte
abbrev pub fed_second : ℕ → ℕ → Typing → List ℕ → Fed
fed_second h d t l = afterwards (record { formed = one_more t.formed; digit = None; wrong = false }) (put l t.formed (h % 16 * 16 + d % 16))

-- a first digit is kept; a line feed means nothing; another character is wrong
abbrev pub fed_by : Character → Option ℕ → Typing → List ℕ → Fed
fed_by (C.Digit d) (Some h) t l = fed_second h d t l
fed_by (C.Digit d) None t l = afterwards (record { formed = t.formed; digit = Some d; wrong = false }) l
fed_by C.LineFeed o t l = afterwards t l
fed_by C.Another o t l = afterwards (record { formed = t.formed; digit = t.digit; wrong = true }) l

abbrev pub fed_one : ℕ → Typing → List ℕ → Fed
fed_one c t l = cond t.wrong (afterwards t l) (fed_by (told c) t.digit t l)

abbrev pub onward : (Typing → List ℕ → Fed) → Fed → Fed
onward go f = go f.typing f.list

-- a part of the text
abbrev pub fed : List ℕ → Typing → List ℕ → Fed
fed [] t l = afterwards t l
fed (c ∷ s) t l = onward (fed s) (fed_one c t l)
