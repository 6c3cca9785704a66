-- VarUInts, computed: cut, and by how many bytes; whole, and at each length the greatest value that is not minimal and the least that is.
use mathlib.Core.Path.{◌≡◌, refl}
use mathlib.Core.Bool.{true, false}
use mathlib.Core.List.{[], ◌∷◌, map}
use Rattle.number.specs.VarUInt.{cut, whole, var_uint}

pub nothing_there : var_uint [] ≡ cut 1
unfolding var_uint
nothing_there = refl

-- a first byte alone: the least and the greatest of each number of leading one bits
first_alone : map (λ b. var_uint (b ∷ [])) (0x80 ∷ 0xbf ∷ 0xc0 ∷ 0xdf ∷ 0xe0 ∷ 0xef ∷ 0xf0 ∷ 0xf7 ∷ 0xf8 ∷ 0xfb ∷ 0xfc ∷ 0xfd ∷ 0xfe ∷ 0xff ∷ [])
    ≡ cut 1 ∷ cut 1 ∷ cut 2 ∷ cut 2 ∷ cut 3 ∷ cut 3 ∷ cut 4 ∷ cut 4 ∷ cut 5 ∷ cut 5 ∷ cut 6 ∷ cut 6 ∷ cut 7 ∷ cut 8 ∷ []
unfolding var_uint
first_alone = refl

some_there : var_uint (0xc1 ∷ 0x23 ∷ []) ∷ var_uint (0xfe ∷ 0 ∷ []) ∷ var_uint (0xff ∷ 0xff ∷ 0xff ∷ 0xff ∷ [])
    ∷ var_uint (0xff ∷ 1 ∷ 2 ∷ 3 ∷ 4 ∷ 5 ∷ 6 ∷ 7 ∷ []) ∷ [] ≡ cut 1 ∷ cut 6 ∷ cut 5 ∷ cut 1 ∷ []
unfolding var_uint
some_there = refl

one_byte : var_uint (0 ∷ []) ∷ var_uint (0x7f ∷ 0x80 ∷ []) ∷ [] ≡ whole 0 1 true ∷ whole 127 1 true ∷ []
unfolding var_uint
one_byte = refl

-- the greatest that one byte less holds, and the next; bytes behind a value do not count
not_minimal : var_uint (0x80 ∷ 0x7f ∷ 0x55 ∷ []) ∷ var_uint (0xc0 ∷ 0x3f ∷ 0xff ∷ []) ∷ var_uint (0xe0 ∷ 0x1f ∷ 0xff ∷ 0xff ∷ [])
    ∷ var_uint (0xf0 ∷ 0x0f ∷ 0xff ∷ 0xff ∷ 0xff ∷ []) ∷ var_uint (0xf8 ∷ 0x07 ∷ 0xff ∷ 0xff ∷ 0xff ∷ 0xff ∷ [])
    ∷ var_uint (0xfc ∷ 0x03 ∷ 0xff ∷ 0xff ∷ 0xff ∷ 0xff ∷ 0xff ∷ []) ∷ var_uint (0xfe ∷ 0x01 ∷ 0xff ∷ 0xff ∷ 0xff ∷ 0xff ∷ 0xff ∷ 0xff ∷ [])
    ∷ var_uint (0xff ∷ 0x00 ∷ 0xff ∷ 0xff ∷ 0xff ∷ 0xff ∷ 0xff ∷ 0xff ∷ 0xff ∷ []) ∷ []
    ≡ whole 127 2 false ∷ whole 16383 3 false ∷ whole 2097151 4 false ∷ whole 268435455 5 false ∷ whole 34359738367 6 false ∷ whole 4398046511103 7 false
    ∷ whole 562949953421311 8 false ∷ whole 72057594037927935 9 false ∷ []
unfolding var_uint
not_minimal = refl

minimal : var_uint (0x80 ∷ 0x80 ∷ 0x55 ∷ []) ∷ var_uint (0xc0 ∷ 0x40 ∷ 0 ∷ []) ∷ var_uint (0xe0 ∷ 0x20 ∷ 0 ∷ 0 ∷ []) ∷ var_uint (0xf0 ∷ 0x10 ∷ 0 ∷ 0 ∷ 0 ∷ [])
    ∷ var_uint (0xf8 ∷ 0x08 ∷ 0 ∷ 0 ∷ 0 ∷ 0 ∷ []) ∷ var_uint (0xfc ∷ 0x04 ∷ 0 ∷ 0 ∷ 0 ∷ 0 ∷ 0 ∷ []) ∷ var_uint (0xfe ∷ 0x02 ∷ 0 ∷ 0 ∷ 0 ∷ 0 ∷ 0 ∷ 0 ∷ [])
    ∷ var_uint (0xff ∷ 0x01 ∷ 0 ∷ 0 ∷ 0 ∷ 0 ∷ 0 ∷ 0 ∷ 0 ∷ []) ∷ var_uint (0xff ∷ 0xff ∷ 0xff ∷ 0xff ∷ 0xff ∷ 0xff ∷ 0xff ∷ 0xff ∷ 0xff ∷ []) ∷ []
    ≡ whole 128 2 true ∷ whole 16384 3 true ∷ whole 2097152 4 true ∷ whole 268435456 5 true ∷ whole 34359738368 6 true ∷ whole 4398046511104 7 true
    ∷ whole 562949953421312 8 true ∷ whole 72057594037927936 9 true ∷ whole 18446744073709551615 9 true ∷ []
unfolding var_uint
minimal = refl
