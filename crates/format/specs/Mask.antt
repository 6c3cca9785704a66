-- The mask (document 01, "The mask").
use Rattle.std.specs.Prelude.{ℕ, ◌+◌, ◌/◌, ◌%◌, ◌≡◌, Bool, true, false, ◌&&◌, cond, List, [], ◌∷◌, length, eqb, ltb}
use Rattle.format.specs.declared.Stop.{Stop}
use Rattle.format.specs.declared.Stop.TheVariants.{Early, Unknown, TooDeep, TooLong, BadUniform}
use Rattle.format.specs.declared.Form.TheVariants.{Top}
use Rattle.format.specs.Limits.{depth_limit, length_limit}
use Rattle.format.specs.Kinds.{any}
use Rattle.format.specs.declared.Flaw.{Flaw}
use Rattle.format.specs.declared.Flaw.TheVariants.{Twin, Blank, Long, Low, Wide, NotUtf8, NotUniform}
use Rattle.format.specs.Parse.{Out, fault, got}
use Rattle.format.specs.Reader.{read}

abbrev pub stop_value : Stop → ℕ
stop_value Early = 1
stop_value Unknown = 2
stop_value TooDeep = 4
stop_value TooLong = 8
stop_value BadUniform = 2048

abbrev pub flaw_value : Flaw → ℕ
flaw_value Twin = 16
flaw_value Blank = 32
flaw_value Long = 64
flaw_value Low = 128
flaw_value Wide = 256
flaw_value NotUtf8 = 512
flaw_value NotUniform = 1024

abbrev pub names_mode : ℕ
names_mode = 1

abbrev pub format_mode : ℕ
format_mode = 2

abbrev pub padding_mode : ℕ
padding_mode = 4

-- the mode bit under which it counts
abbrev pub mode_of : Flaw → ℕ
mode_of Twin = names_mode
mode_of Blank = names_mode
mode_of Long = format_mode
mode_of Low = format_mode
mode_of Wide = format_mode
mode_of NotUtf8 = format_mode
mode_of NotUniform = format_mode

abbrev pub flaws : List Flaw
flaws = Twin ∷ Blank ∷ Long ∷ Low ∷ Wide ∷ NotUtf8 ∷ NotUniform ∷ []

abbrev pub has : Flaw → List Flaw → Bool
has f fs = any (λ g. eqb (flaw_value f) (flaw_value g)) fs

-- a mode's bit is set; other bits of the modes are ignored
abbrev pub is_asked : ℕ → ℕ → Bool
is_asked modes bit = eqb (modes / bit % 2) 1

abbrev pub counts : ℕ → List Flaw → Flaw → Bool
counts modes met f = is_asked modes (mode_of f) && has f met

-- the sum of those that were met and are asked, each once
abbrev pub sum_of : ℕ → List Flaw → List Flaw → ℕ
sum_of modes met [] = 0
sum_of modes met (f ∷ fs) = cond (counts modes met f) (flaw_value f) 0 + sum_of modes met fs

-- bytes after the top field
abbrev pub padding_of : ℕ → List ℕ → ℕ
padding_of modes [] = 0
padding_of modes (b ∷ r) = cond (is_asked modes padding_mode) 4096 0

abbrev pub mask_of : {A : Type 0} → ℕ → Out A → ℕ
mask_of modes (fault k) = stop_value k
mask_of modes (got x fs r) = sum_of modes fs flaws + padding_of modes r

unfoldable pub mask : ℕ → List ℕ → ℕ
mask modes s = cond (ltb length_limit (length s)) (stop_value TooLong) (mask_of modes (read depth_limit Top s))

-- whatever `few` asks, `more` asks
pub record Fewer (few more : ℕ) : Type 0 where
  pub with_names : is_asked few names_mode ≡ true → is_asked more names_mode ≡ true
  pub with_format : is_asked few format_mode ≡ true → is_asked more format_mode ≡ true
  pub with_padding : is_asked few padding_mode ≡ true → is_asked more padding_mode ≡ true

-- bounds checks always run; strict is all three modes
abbrev pub bounds_only : ℕ
bounds_only = 0

abbrev pub strict : ℕ
strict = names_mode + format_mode + padding_mode
