-- The numbers that the calls for C and the program answer beside document 01's (docs/DECISIONS.md, 39, 45 and 46), computed of the definitions.
use mathlib.Core.Path.{◌≡◌, refl}
use mathlib.Core.List.{[], ◌∷◌, map}
use Rattle.frames.specs.declared.Refusal.TheVariants.{BadFrame}
use Rattle.frames.specs.Writer.{refuse, wrote}
use Rattle.number.specs.VarUInt.{var_uint}
use Rattle.replies.specs.Number.{too_few, afterwards}
use Rattle.replies.specs.Reply.{given, no_more, not_there, wrong_kind, out_of_range, told, varuint}
use Rattle.sending.specs.Sent.{sent}
use Rattle.program.specs.Input.{status_of}

-- no more, not there, wrong kind, out of range, too few numbers lent
pub codes_pinned : no_more ∷ not_there ∷ wrong_kind ∷ out_of_range ∷ too_few ∷ [] ≡ 3 ∷ 5 ∷ 6 ∷ 7 ∷ 12 ∷ []
codes_pinned = refl

-- too few: nothing that is lent for an answer is touched, and a refused write clears the work numbers
pub too_few_lent : varuint (0x05 ∷ []) (1 ∷ 2 ∷ []) ∷ told 4 (given (8 ∷ 1 ∷ 2 ∷ 1 ∷ [])) (1 ∷ 2 ∷ 3 ∷ []) ∷ [] ≡ afterwards 12 (1 ∷ 2 ∷ [])
    ∷ afterwards 12 (1 ∷ 2 ∷ 3 ∷ []) ∷ []
too_few_lent = refl

-- as many as are asked for: the values stand at the front, and what is behind them stays
pub enough_lent : varuint (0x80 ∷ 0x05 ∷ []) (1 ∷ 2 ∷ 3 ∷ 4 ∷ []) ∷ told 4 (given (8 ∷ 1 ∷ 2 ∷ 1 ∷ [])) (9 ∷ 9 ∷ 9 ∷ 9 ∷ 9 ∷ []) ∷ []
    ≡ afterwards 0 (5 ∷ 2 ∷ 0 ∷ 4 ∷ []) ∷ afterwards 0 (8 ∷ 1 ∷ 2 ∷ 1 ∷ 9 ∷ []) ∷ []
unfolding var_uint
enough_lent = refl

-- a cut VarUInt: how many bytes are missing stands at the front, and what is behind it stays; or too few are lent
pub cut_lent : varuint [] (7 ∷ 8 ∷ 9 ∷ 10 ∷ []) ∷ varuint (0xff ∷ []) (7 ∷ 8 ∷ 9 ∷ []) ∷ varuint (0xc1 ∷ 0x23 ∷ []) (7 ∷ 8 ∷ 9 ∷ [])
    ∷ varuint (0xff ∷ []) (7 ∷ 8 ∷ []) ∷ []
    ≡ afterwards 1 (1 ∷ 8 ∷ 9 ∷ 10 ∷ []) ∷ afterwards 1 (8 ∷ 8 ∷ 9 ∷ []) ∷ afterwards 1 (1 ∷ 8 ∷ 9 ∷ []) ∷ afterwards 12 (7 ∷ 8 ∷ []) ∷ []
unfolding var_uint
cut_lent = refl

pub no_number_lent : sent (0x08 ∷ 0x05 ∷ []) (9 ∷ 9 ∷ []) (7 ∷ 7 ∷ []) [] ≡ record { code = 12; held = []; output = 9 ∷ 9 ∷ []; work = 0 ∷ 0 ∷ [] }
unfolding sent
no_number_lent = refl

-- a refusal exits with 1, an encoding with 0
pub statuses_pinned : map status_of (refuse BadFrame 0 ∷ wrote [] [] ∷ []) ≡ 1 ∷ 0 ∷ []
statuses_pinned = refl
