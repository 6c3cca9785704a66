-- What is computed of long lists: the limit on an encoding, and what the program lends (document 01: "lends 65,536 output bytes and 16,384 work numbers").
use Prim.Native.Nat.{ℕ, zero, suc}
use mathlib.Core.Path.{◌≡◌, refl}
use mathlib.Core.List.{List, [], ◌∷◌, map}
use lib.ListN.{length, replicate}
use Rattle.number.specs.VarUInt.{var_uint, encoded}
use Rattle.text.specs.Utf8.{is_text, due}
use Rattle.text.specs.Equal.{equal}
use Rattle.format.specs.Kinds.{known, is_bare, is_uniform, is_uniform_array}
use Rattle.format.specs.Parse.{read_var_uint, fixed}
use Rattle.format.specs.Names.{is_empty, twins}
use Rattle.format.specs.Payload.{payload}
use Rattle.format.specs.Encoding.{encoding}
use Rattle.frames.specs.WriteList.{read_frames, read_list}
use Rattle.frames.specs.Writer.{refusal_number, Outcome, refuse, wrote, outcome}
use Rattle.frames.specs.Program.{typed, program_of}

-- n empty arrays in an array
abbrev close : ℕ → List ℕ
close zero = 0x00 ∷ []
close (suc n) = 0x04 ∷ 0x00 ∷ close n

abbrev arrays : ℕ → List ℕ
arrays n = 0x04 ∷ close n

-- a refusal's number and place; or 0, the encoding's length and the number of its containers
abbrev told : Outcome → List ℕ
told (refuse n p) = refusal_number n ∷ p ∷ []
told (wrote e z) = 0 ∷ length e ∷ length z ∷ []

-- a list of 16,384 containers is written, and one of 16,385 is refused with 10
pub work_numbers_lent : map (λ n. told (program_of (typed (arrays n)))) (16383 ∷ 16384 ∷ []) ≡ (0 ∷ 32773 ∷ 16384 ∷ []) ∷ (10 ∷ 0 ∷ []) ∷ []
unfolding var_uint encoded is_text due equal known is_bare is_uniform is_uniform_array read_var_uint fixed is_empty twins payload read_frames read_list encoding outcome
work_numbers_lent = refl

-- an encoding of 65,536 bytes is written, and one of 65,537 refused with 11 where the output is larger too: 65,527 and 65,528 bytes in a binary in an array
pub encoding_limit : map (λ l. told (outcome 70000 1 l))
    ((0x04 ∷ 0x06 ∷ 0xc0 ∷ 0xff ∷ 0xf7 ∷ replicate 65528 0) ∷ (0x04 ∷ 0x06 ∷ 0xc0 ∷ 0xff ∷ 0xf8 ∷ replicate 65529 0) ∷ [])
    ≡ (0 ∷ 65536 ∷ 1 ∷ []) ∷ (11 ∷ 0 ∷ []) ∷ []
unfolding var_uint encoded is_text due equal known is_bare is_uniform is_uniform_array read_var_uint fixed is_empty twins payload read_frames read_list encoding outcome
encoding_limit = refl

-- the program's output has 65,536 bytes: a binary of 65,532 bytes is written; a list of 65,537 bytes is refused with 9
pub output_lent : map (λ l. told (program_of (typed l))) ((0x06 ∷ 0xc0 ∷ 0xff ∷ 0xfc ∷ replicate 65532 0) ∷ replicate 65537 0 ∷ [])
    ≡ (0 ∷ 65536 ∷ 0 ∷ []) ∷ (9 ∷ 0 ∷ []) ∷ []
unfolding var_uint encoded is_text due equal known is_bare is_uniform is_uniform_array read_var_uint fixed is_empty twins payload read_frames read_list encoding outcome
output_lent = refl
