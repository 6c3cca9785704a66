-- Every refusal's number and place, and each order of two, by write lists whose outcomes are computed; what a refusal and a success leave; and runs of the
-- program, of which the longest lists are in crates/demands/proofs/Lent.antt (document 01, "The write list"). The answers are 01's, and
-- for the byte that fields share 02's (M-102). Exchanging two numbers or two orders in the definitions is refused here.
use Rattle.std.specs.Prelude.{Ok}
use Prim.Native.Nat.{ℕ}
use mathlib.Core.Path.{◌≡◌, refl}
use mathlib.Core.List.{List, [], ◌∷◌, ◌++◌, map}
use lib.ListN.{length, replicate}
use Rattle.number.specs.BigEndian.{to_bytes}
use Rattle.number.specs.VarUInt.{var_uint, encoded}
use Rattle.text.specs.Utf8.{is_text, due}
use Rattle.text.specs.Equal.{equal}
use Rattle.float.specs.Rule.{holds}
use Rattle.float.specs.Width.{widen, narrow}
use lib.Ieee.{of_bits, to_bits, nan_bits}
use Rattle.frames.specs.declared.Refusal.TheVariants.{BadFrame}
use Rattle.format.specs.Kinds.{known, is_bare, is_uniform, is_uniform_array}
use Rattle.format.specs.Parse.{read_var_uint, fixed}
use Rattle.format.specs.Names.{is_empty, twins}
use Rattle.format.specs.Payload.{payload}
use Rattle.format.specs.Encoding.{encoding}
use Rattle.frames.specs.WriteList.{read_frames, read_list}
use Rattle.frames.specs.Writer.{refusal_number, Outcome, refuse, wrote, outcome, Afterwards, written, refused_at}
use Rattle.frames.specs.Program.{bytes_typed, program}

-- a refusal's number and place; or 0, the encoding's length and the sizes of its containers
abbrev told : Outcome → List ℕ
told (refuse n p) = refusal_number n ∷ p ∷ []
told (wrote e z) = 0 ∷ length e ∷ z

-- a list, for which `room` bytes and `numbers` work numbers are lent, and what is told of it
pub record Row : Type 0 where
  pub list : List ℕ
  pub room : ℕ
  pub numbers : ℕ
  pub answer : List ℕ

-- with room for all
abbrev refused : ℕ → ℕ → List ℕ → Row
refused n p list = record { list = list; room = 100; numbers = 40; answer = n ∷ p ∷ [] }

abbrev lent : ℕ → ℕ → List ℕ → List ℕ → Row
lent room numbers list answer = record { list = list; room = room; numbers = numbers; answer = answer }

-- a list of n bytes, as one number
abbrev of : ℕ → ℕ → List ℕ
of n v = to_bytes n v

abbrev times : ℕ → ℕ → List ℕ
times n b = replicate n b

-- ---- each refusal
abbrev each : List Row
each =
    -- 1: no field, or an open container; at the list's length
    refused 1 0 [] ∷ refused 1 1 (of 1 0x02) ∷ refused 1 2 (of 2 0x0401) ∷ refused 1 3 (of 3 0x040400)
    -- 2: a bad kind (03 and 05 too), a cut frame, a VarUInt that is not minimal, 09 with M of 2^63 or more; at the frame
    ∷ refused 2 0 (of 1 0x15) ∷ refused 2 0 (of 1 0x03) ∷ refused 2 0 (of 1 0x05) ∷ refused 2 0 (of 1 0x48) ∷ refused 2 0 (of 1 0x88)
    ∷ refused 2 1 (of 2 0x0403) ∷ refused 2 0 (of 1 0x08) ∷ refused 2 0 (of 3 0x070261) ∷ refused 2 1 (of 4 0x02080161) ∷ refused 2 1 (of 4 0x02080261)
    ∷ refused 2 0 (of 3 0x088005) ∷ refused 2 0 (of 3 0x068000) ∷ refused 2 0 (of 4 0x1e028005) ∷ refused 2 0 (of 5 0x1f03800161)
    ∷ refused 2 0 (of 2 0x1e00) ∷ refused 2 0 (of 3 0x1f0105) ∷ refused 2 0 (of 10 0x09ff8000000000000000)
    -- 3: an empty name
    ∷ refused 3 1 (of 4 0x02010000)
    -- 4: a name that the object has; an outer object's, or another's, is none
    ∷ refused 4 4 (of 8 0x0201016101016100) ∷ lent 100 40 (of 9 0x020201610101610000) (0 ∷ 9 ∷ 7 ∷ 3 ∷ [])
    ∷ lent 100 40 (of 12 0x040201016100020101610000) (0 ∷ 12 ∷ 10 ∷ 3 ∷ 3 ∷ [])
    -- 5: a name, a string, a custom's name that is not UTF-8
    ∷ refused 5 1 (of 5 0x020101c300) ∷ refused 5 0 (of 3 0x0701c3) ∷ refused 5 0 (of 4 0x1f0201c3)
    -- 6: a field at depth 33, in an array or in an object; a close is none
    ∷ refused 6 32 (times 33 0x04) ∷ refused 6 32 (times 31 0x04 ++ of 4 0x02010161) ∷ refused 1 63 (times 32 0x04 ++ times 31 0x00)
    -- 7 and 8
    ∷ refused 7 0 (of 1 0x00) ∷ refused 8 1 (of 2 0x0101) ∷ refused 8 2 (of 3 0x040001)
    -- 9: a list of 65,537 bytes; one of 65,536 is read
    ∷ refused 9 0 (times 65537 0x00) ∷ refused 7 0 (times 65536 0x00)
    -- 10 and 11 (an encoding of more than 65,536 bytes: crates/demands/proofs/Lent.antt, with what the program lends)
    ∷ lent 100 0 (of 2 0x0400) (10 ∷ 0 ∷ []) ∷ lent 100 1 (of 4 0x04040000) (10 ∷ 0 ∷ []) ∷ lent 1 0 (of 2 0x0805) (11 ∷ 0 ∷ [])
    ∷ lent 2 0 (of 2 0x0805) (0 ∷ 2 ∷ [])
    ∷ []

-- ---- each order of two
abbrev orders : List Row
orders =
    -- 9 before all else
    refused 9 0 (times 65537 0x15)
    -- 8 before a close with none open and before a bad kind
    ∷ refused 8 1 (of 2 0x0100) ∷ refused 8 1 (of 2 0x0115)
    -- 7 before the end
    ∷ lent 0 0 (of 1 0x00) (7 ∷ 0 ∷ [])
    -- 6 before a bad kind, a cut name, an empty one, one that is no text or is used, and a cut payload
    ∷ refused 6 32 (times 32 0x04 ++ of 1 0x15) ∷ refused 6 32 (times 31 0x04 ++ of 2 0x0201) ∷ refused 6 32 (times 31 0x04 ++ of 3 0x020100)
    ∷ refused 6 32 (times 31 0x04 ++ of 4 0x020101c3) ∷ refused 6 32 (times 32 0x04 ++ of 1 0x08)
    -- a bad kind before the name: cut, empty, no text
    ∷ refused 2 1 (of 2 0x0215) ∷ refused 2 1 (of 3 0x021500) ∷ refused 2 1 (of 4 0x021501c3)
    -- in the name 2 before 3 and 5
    ∷ refused 2 1 (of 4 0x02018000) ∷ refused 2 1 (of 4 0x020102c3) ∷ refused 2 1 (of 5 0x02018001c3)
    -- 3, 5, 4 before the payload's 2 and 5
    ∷ refused 3 1 (of 3 0x020800) ∷ refused 3 1 (of 5 0x02070001c3) ∷ refused 5 1 (of 4 0x020801c3) ∷ refused 4 4 (of 7 0x02010161080161)
    ∷ refused 4 4 (of 9 0x0201016107016101c3)
    -- in the payload 2 before 5
    ∷ refused 2 0 (of 5 0x1f038001c3) ∷ refused 2 0 (of 4 0x1f0202c3)
    -- the first faulty frame, before all that come later and before the end, few work numbers and little room
    ∷ refused 3 1 (of 4 0x02010015) ∷ refused 2 1 (of 4 0x04150200) ∷ lent 0 0 (of 2 0x0415) (2 ∷ 1 ∷ [])
    -- 1 before 10 and 11, 10 before 11
    ∷ lent 0 0 (of 1 0x04) (1 ∷ 1 ∷ []) ∷ lent 0 0 [] (1 ∷ 0 ∷ []) ∷ lent 0 0 (of 2 0x0400) (10 ∷ 0 ∷ [])
    ∷ []

abbrev computed : Row → Row
computed x = record { list = x.list; room = x.room; numbers = x.numbers; answer = told (outcome x.room x.numbers x.list) }

abbrev pub pinned : List Row
pinned = each ++ orders

pub refusals_pinned : map computed pinned ≡ pinned
unfolding var_uint encoded is_text due equal known is_bare is_uniform is_uniform_array read_var_uint fixed is_empty twins payload read_frames read_list encoding outcome
refusals_pinned = refl

-- ---- what the lent buffers hold afterwards

-- a list, the output and the work numbers before, and the answer and both afterwards
pub record Write : Type 0 where
  pub list : List ℕ
  pub output : List ℕ
  pub work : List ℕ
  pub result : Afterwards

abbrev written_of : Write → Write
written_of x = record { list = x.list; output = x.output; work = x.work; result = written x.list x.output x.work }

abbrev pub writes : List Write
writes =
    -- the bytes behind the encoding stay; work numbers are the sizes, and zero behind them
    record { list = of 2 0x0805; output = of 3 0x090909; work = 7 ∷ []; result = record { answer = Ok 2; output = of 3 0x080509; work = 0 ∷ [] } }
    ∷ record {
      list = of 4 0x04040000;
      output = times 7 0x09;
      work = 7 ∷ 7 ∷ 7 ∷ [];
      result = record { answer = Ok 6; output = of 7 0x05040104010009; work = 4 ∷ 1 ∷ 0 ∷ [] };
    }
    -- a refusal leaves the output, and zeroes all work numbers
    ∷ record {
      list = of 2 0x0415;
      output = of 3 0x090909;
      work = 7 ∷ 7 ∷ [];
      result = record { answer = refused_at BadFrame 1; output = of 3 0x090909; work = 0 ∷ 0 ∷ [] };
    }
    -- IDs are settled first: 1.0 as a Float64 and as a Float32 make a uniform array
    ∷ record {
      list = 0x04 ∷ (of 9 0x0b3ff0000000000000 ++ of 6 0x0a3f80000000);
      output = times 12 0x09;
      work = 7 ∷ [];
      result = record { answer = Ok 12; output = of 12 0x050a020a3f8000003f800000; work = 10 ∷ [] };
    }
    -- M-102: shared bytes of objects have 80 hex, of arrays none. 01's nested case; an array of two objects; an object of an array
    ∷ record {
      list = of 14 0x020205696e6e65720801780a0000;
      output = times 15 0x09;
      work = 7 ∷ 7 ∷ 7 ∷ [];
      result = record { answer = Ok 14; output = of 15 0x030c8305696e6e6572048801780a09; work = 12 ∷ 4 ∷ 0 ∷ [] };
    }
    ∷ record {
      list = of 12 0x040201016100020101610000;
      output = times 12 0x09;
      work = 7 ∷ 7 ∷ 7 ∷ [];
      result = record { answer = Ok 12; output = of 12 0x050a02030381016103810161; work = 10 ∷ 3 ∷ 3 ∷ [] };
    }
    ∷ record {
      list = of 8 0x0204016108050000;
      output = times 9 0x09;
      work = 7 ∷ 7 ∷ [];
      result = record { answer = Ok 9; output = of 9 0x030785016103010805; work = 7 ∷ 3 ∷ [] };
    }
    ∷ []

pub writes_pinned : map written_of writes ≡ writes
unfolding var_uint encoded is_text due equal holds widen narrow of_bits to_bits nan_bits known is_bare is_uniform is_uniform_array read_var_uint fixed is_empty twins
    payload read_frames read_list encoding outcome written
writes_pinned = refl

-- ---- the program

-- what is read and what is printed
pub record Run : Type 0 where
  pub input : List ℕ
  pub text : List ℕ

abbrev run : List ℕ → List ℕ → Run
run s t = record { input = s; text = t }

abbrev ran : Run → Run
ran x = run x.input (program x.input)

abbrev pub runs : List Run
runs =
    -- 01's example: the lines 02, 07046e616d6505416c696365, 08036167651e and 00
    run (of 44 0x30320a3037303436653631366436353035343136633639363336350a3038303336313637363531650a30300a)
    (of 41 0x303231326337303436653631366436353035343136633639363336356338303336313637363531650a)
    -- `refused 1 at 0`: no input; and line feeds alone, which mean nothing
    ∷ run [] (of 15 0x72656675736564203120617420300a)
    ∷ run (of 2 0x0a0a) (of 15 0x72656675736564203120617420300a)
    -- a byte split by a line feed
    ∷ run (of 6 0x300a3830350a) (of 5 0x303830350a)
    -- an odd digit count, a capital, a space, a carriage return, a letter past f, characters beside the digits: `refused 2` at the byte being formed
    ∷ run (of 1 0x30) (of 15 0x72656675736564203220617420300a)
    ∷ run (of 7 0x30343030303830) (of 15 0x72656675736564203220617420330a)
    ∷ run (of 2 0x3041) (of 15 0x72656675736564203220617420300a)
    ∷ run (of 7 0x30313031203032) (of 15 0x72656675736564203220617420320a)
    ∷ run (of 4 0x30310d0a) (of 15 0x72656675736564203220617420310a)
    ∷ run (of 2 0x3067) (of 15 0x72656675736564203220617420300a)
    ∷ run (of 2 0x3060) (of 15 0x72656675736564203220617420300a)
    ∷ run (of 2 0x302f) (of 15 0x72656675736564203220617420300a)
    ∷ run (of 2 0x303a) (of 15 0x72656675736564203220617420300a)
    -- before all else
    ∷ run (of 3 0x313520) (of 15 0x72656675736564203220617420310a)
    -- other refusals, with their places
    ∷ run (of 2 0x3030) (of 15 0x72656675736564203720617420300a)
    ∷ run (of 4 0x30313031) (of 15 0x72656675736564203820617420310a)
    ∷ run (of 22 0x30343034303430343034303430343034303430343135) (of 16 0x7265667573656420322061742031300a)
    ∷ []

pub program_pinned : map ran runs ≡ runs
unfolding var_uint encoded is_text due equal known is_bare is_uniform is_uniform_array read_var_uint fixed is_empty twins payload read_frames read_list encoding
    outcome bytes_typed program
program_pinned = refl
