-- A fixed-width number at the front of a part (document 01, "Numbers and the VarUInt"); none where the part is shorter.
use Rattle.std.specs.Prelude.{ℕ, cond, List, length, take, ltb, Option, Some, None}
use Rattle.number.specs.BigEndian.{from_bytes}

abbrev pub fixed32 : List ℕ → Option ℕ
fixed32 s = cond (ltb (length s) 4) None (Some (from_bytes (take 4 s)))

abbrev pub fixed64 : List ℕ → Option ℕ
fixed64 s = cond (ltb (length s) 8) None (Some (from_bytes (take 8 s)))
