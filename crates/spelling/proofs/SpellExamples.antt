-- Payloads beside their layouts, and beside the stopping faults they halt with: spelled out by hand in the grammar (specs/Spells.antt, Halts.antt), and a
-- list of those that halt, one or more for each clause, with the mask computed.
use Prim.Native.Nat.{ℕ, zero, suc, ◌<◌}
use native.Mathlib.Omega.{arith}
use mathlib.Core.Path.{◌≡◌, refl}
use mathlib.Core.Logic.{inl, inr}
use mathlib.Core.Bool.{true}
use mathlib.Core.List.{List, [], ◌∷◌, map}
use lib.ListN.{length}
use lib.Dec.{ltb}
use lib.IntN.{pos}
use borrow.Author.Tests.{ltb-true}
use Rattle.number.specs.BigEndian.{All, Bytes}
use Rattle.number.specs.VarUInt.{var_uint, form}
use Rattle.text.specs.Utf8.{is_text, due}
use Rattle.text.specs.Equal.{equal}
use Rattle.format.specs.declared.Kind.TheVariants.{Object, UniformObject, UniformArray, String, IntegerPositive}
use Rattle.format.specs.declared.Form.TheVariants.{Top, SharedItem}
use Rattle.format.specs.declared.Stop.{Stop}
use Rattle.format.specs.declared.Stop.TheVariants.{Early, Unknown, TooDeep, BadUniform}
use Rattle.format.specs.Kinds.{known, all, is_bare, is_uniform, is_uniform_array}
use Rattle.format.specs.Parse.{read_var_uint, fixed}
use Rattle.format.specs.Names.{is_empty, twins}
use Rattle.format.specs.Tree.{integer, string, atom, array, object}
use Rattle.format.specs.Payload.{front, head, payload}
use Rattle.format.specs.Reader.{Standing, Named, Layout, read}
use Rattle.format.specs.Mask.{stop_value, mask, bounds_only}
use Rattle.spelling.specs.Spells.{any_form, Run, Spells}
use Rattle.spelling.specs.Halts.{Halts}
use Rattle.format.proofs.Lists.{and_true}
use Rattle.spelling.proofs.BareKinds.{not_bare_exactly}
use Rattle.spelling.proofs.Halted.{stops_exactly}

-- ---- spelled out

-- 5, in two bytes
pub five : Spells any_form 1 Top ([], (IntegerPositive, atom (integer (pos 5)))) (0x08 ∷ 0x80 ∷ 0x05 ∷ [])
five = (0x08 ∷ [], 0x80 ∷ 0x05 ∷ [], refl, (refl, refl), (5, refl, (1, omega arith, omega arith, refl)))

-- a number below 128 in one byte, and as an item of 05
abbrev at : ℕ → Named (Standing (Layout 1))
at n = ([], (IntegerPositive, atom (integer (pos n))))

abbrev Small : ℕ → Type 0
Small n = any_form n (n ∷ [])

abbrev Number : ℕ → Type 0
Number n = Spells any_form 1 (SharedItem IntegerPositive) (at n) (n ∷ [])

number : (n : ℕ) → Small n → Number n
number n i = ([], n ∷ [], refl, (refl, refl), (n, refl, i))

-- 1, 2 and 3 in 05
pub counted : Spells any_form 2 Top ([], (UniformArray, array ((at 1).1 ∷ (at 2).1 ∷ (at 3).1 ∷ []))) (0x05 ∷ 0x05 ∷ 0x03 ∷ 0x08 ∷ 0x01 ∷ 0x02 ∷ 0x03 ∷ [])
unfolding is_bare
counted =
    let small : (n : ℕ) → n < 128 → n ∷ [] ≡ form 0 n → Small n = λ n l e. (0, omega arith, l, e) in
    let items : Run (Spells any_form 1 (SharedItem IntegerPositive)) (at 1 ∷ at 2 ∷ at 3 ∷ []) (0x01 ∷ 0x02 ∷ 0x03 ∷ []) = (
      0x01 ∷ [],
      0x02 ∷ 0x03 ∷ [],
      refl,
      number 1 (small 1 (omega arith) refl),
      (0x02 ∷ [], 0x03 ∷ [], refl, number 2 (small 2 (omega arith) refl), (0x03 ∷ [], [], refl, number 3 (small 3 (omega arith) refl), refl)),
    ) in (
      0x05 ∷ [],
      0x05 ∷ 0x03 ∷ 0x08 ∷ 0x01 ∷ 0x02 ∷ 0x03 ∷ [],
      refl,
      (refl, refl),
      (
        0x05 ∷ [],
        0x03 ∷ 0x08 ∷ 0x01 ∷ 0x02 ∷ 0x03 ∷ [],
        refl,
        small 5 (omega arith) refl,
        (
          3,
          0x03 ∷ [],
          0x08 ∷ 0x01 ∷ 0x02 ∷ 0x03 ∷ [],
          refl,
          small 3 (omega arith) refl,
          (
            IntegerPositive,
            0x01 ∷ 0x02 ∷ 0x03 ∷ [],
            refl,
            omega arith,
            (not_bare_exactly IntegerPositive).0 refl,
            (at 1 ∷ at 2 ∷ at 3 ∷ [], refl, refl, items),
          ),
        ),
      ),
    )

-- 02 with the String "w" under the name "a"
pub named : Spells any_form 2 Top ([], (Object, object ((0x61 ∷ [], (String, atom (string (0x77 ∷ [])))) ∷ [])))
    (0x02 ∷ 0x05 ∷ 0xc7 ∷ 0x01 ∷ 0x61 ∷ 0x01 ∷ 0x77 ∷ [])
named = (
  0x02 ∷ [],
  0x05 ∷ 0xc7 ∷ 0x01 ∷ 0x61 ∷ 0x01 ∷ 0x77 ∷ [],
  refl,
  (refl, refl),
  (
    0x05 ∷ [],
    0xc7 ∷ 0x01 ∷ 0x61 ∷ 0x01 ∷ 0x77 ∷ [],
    refl,
    (0, omega arith, omega arith, refl),
    (
      (0x61 ∷ [], (String, atom (string (0x77 ∷ [])))) ∷ [],
      refl,
      (
        0xc7 ∷ 0x01 ∷ 0x61 ∷ 0x01 ∷ 0x77 ∷ [],
        [],
        refl,
        (
          0xc7 ∷ 0x01 ∷ 0x61 ∷ [],
          0x01 ∷ 0x77 ∷ [],
          refl,
          (0x01 ∷ 0x61 ∷ [], refl, (0x01 ∷ [], 0x61 ∷ [], refl, (0, omega arith, omega arith, refl), refl)),
          (0x77 ∷ [], refl, (0x01 ∷ [], 0x77 ∷ [], refl, (0, omega arith, omega arith, refl), refl)),
        ),
        refl,
      ),
    ),
  ),
)

-- 03 with 10 under the name "x": the inner object of 01's nested case, as M-102 spells it
pub shared : Spells any_form 2 Top ([], (UniformObject, object ((0x78 ∷ [], (IntegerPositive, atom (integer (pos 10)))) ∷ [])))
    (0x03 ∷ 0x04 ∷ 0x88 ∷ 0x01 ∷ 0x78 ∷ 0x0a ∷ [])
shared = (
  0x03 ∷ [],
  0x04 ∷ 0x88 ∷ 0x01 ∷ 0x78 ∷ 0x0a ∷ [],
  refl,
  (refl, refl),
  (
    0x04 ∷ [],
    0x88 ∷ 0x01 ∷ 0x78 ∷ 0x0a ∷ [],
    refl,
    (0, omega arith, omega arith, refl),
    (
      IntegerPositive,
      0x01 ∷ 0x78 ∷ 0x0a ∷ [],
      refl,
      omega arith,
      (
        (0x78 ∷ [], (IntegerPositive, atom (integer (pos 10)))) ∷ [],
        refl,
        (
          0x01 ∷ 0x78 ∷ 0x0a ∷ [],
          [],
          refl,
          (
            0x01 ∷ 0x78 ∷ [],
            0x0a ∷ [],
            refl,
            (refl, (0x01 ∷ [], 0x78 ∷ [], refl, (0, omega arith, omega arith, refl), refl)),
            (10, refl, (0, omega arith, omega arith, refl)),
          ),
          refl,
        ),
      ),
    ),
  ),
)

-- ---- halting, by hand

-- no byte at all; 03 with a known shared byte and no field
pub no_byte : Halts Early []
no_byte = inr (omega arith, inl (inl (refl, refl)))

pub no_field : Halts BadUniform (0x03 ∷ 0x01 ∷ 0x88 ∷ [])
no_field =
    inr (
      omega arith,
      inr (
        ([], UniformObject),
        0x03 ∷ [],
        0x01 ∷ 0x88 ∷ [],
        refl,
        (refl, refl),
        inr
            (0x01 ∷ [], 0x88 ∷ [], [], refl, (0, omega arith, omega arith, refl), inr (IntegerPositive, [], refl, inl (refl, refl))),
      ),
    )

-- ---- halting, clause by clause

-- arrays of one item each, n of them around the innermost, which counts as many items as `count` says and has none
abbrev nested : ℕ → ℕ → List ℕ
nested count zero = count ∷ []
nested count (suc n) = let s = nested count n in 0x01 ∷ 0x44 ∷ length s ∷ s

abbrev arrays : ℕ → ℕ → List ℕ
arrays count n = let s = nested count n in 0x04 ∷ length s ∷ s

abbrev pub halting : List (Stop × List ℕ)
halting =
    -- 1: bytes end early, of a type byte, a VarUInt, a fixed payload, a size, a count, a shared byte, an id, a name and its length
    (Early, [])
    ∷ (Early, 0x08 ∷ [])
    ∷ (Early, 0x08 ∷ 0x80 ∷ [])
    ∷ (Early, 0x0a ∷ 0x00 ∷ 0x00 ∷ 0x00 ∷ [])
    ∷ (Early, 0x02 ∷ [])
    ∷ (Early, 0x04 ∷ 0x00 ∷ [])
    ∷ (Early, 0x05 ∷ 0x01 ∷ 0x00 ∷ 0x08 ∷ [])
    ∷ (Early, 0x03 ∷ 0x00 ∷ [])
    ∷ (Early, 0x1e ∷ 0x00 ∷ [])
    ∷ (Early, 0x1f ∷ 0x01 ∷ 0x05 ∷ [])
    ∷ (Early, 0x02 ∷ 0x02 ∷ 0xc8 ∷ 0x01 ∷ [])
    -- 1: a size does not fit, though what is in it would be 2; a counted item is missing; bytes left, though the first would be an unknown type
    ∷ (Early, 0x02 ∷ 0x02 ∷ 0x15 ∷ [])
    ∷ (Early, 0x07 ∷ 0x05 ∷ 0x41 ∷ [])
    ∷ (Early, 0x04 ∷ 0x02 ∷ 0x02 ∷ 0x4c ∷ [])
    ∷ (Early, 0x04 ∷ 0x02 ∷ 0x00 ∷ 0x15 ∷ [])
    -- 2: unknown ID, other flag bits, of a type byte and of a shared byte
    ∷ (Unknown, 0x15 ∷ [])
    ∷ (Unknown, 0x42 ∷ 0x00 ∷ [])
    ∷ (Unknown, 0x02 ∷ 0x01 ∷ 0x08 ∷ [])
    ∷ (Unknown, 0x04 ∷ 0x02 ∷ 0x01 ∷ 0x08 ∷ [])
    ∷ (Unknown, 0x03 ∷ 0x01 ∷ 0x95 ∷ [])
    ∷ (Unknown, 0x03 ∷ 0x01 ∷ 0x08 ∷ [])
    ∷ (Unknown, 0x05 ∷ 0x02 ∷ 0x00 ∷ 0x48 ∷ [])
    -- 4: an item of the array at depth 32, before its bytes are looked for
    ∷ (TooDeep, arrays 1 31)
    -- 2048: 03 with no field; 05 with count 0, before bytes left; 05 with items of 0C
    ∷ (BadUniform, 0x03 ∷ 0x01 ∷ 0x88 ∷ [])
    ∷ (BadUniform, 0x05 ∷ 0x03 ∷ 0x00 ∷ 0x08 ∷ 0x00 ∷ [])
    ∷ (BadUniform, 0x05 ∷ 0x02 ∷ 0x02 ∷ 0x0c ∷ [])
    ∷ []

-- and what passes: the same arrays with no item in the innermost; with an item and a level fewer the item is missing
pub not_too_deep : map (mask bounds_only) (arrays 0 31 ∷ arrays 1 30 ∷ []) ≡ 0 ∷ 1 ∷ []
unfolding var_uint is_text due equal known is_bare is_uniform is_uniform_array read_var_uint fixed is_empty twins front head payload read mask
not_too_deep = refl

bytes_of : (s : List ℕ) → all (λ b. ltb b 256) s ≡ true → Bytes s
bytes_of [] h = tt
bytes_of (b ∷ s) h = let i = and_true (ltb b 256) (all (λ b. ltb b 256) s) h in (ltb-true b 256 i.0, bytes_of s i.1)

told : (es : List (Stop × List ℕ)) → map (λ e. mask bounds_only e.1) es ≡ map (λ e. stop_value e.0) es
    → all (λ e. all (λ b. ltb b 256) e.1) es ≡ true → All (λ e. Halts e.0 e.1) es
told [] h y = tt
told (e ∷ es) h y =
    let i = and_true (all (λ b. ltb b 256) e.1) (all (λ e. all (λ b. ltb b 256) e.1) es) y in
    let z : mask bounds_only e.1 ≡ stop_value e.0 = cc in
    let z' : map (λ e. mask bounds_only e.1) es ≡ map (λ e. stop_value e.0) es = cc in
    ((stops_exactly e.1 (bytes_of e.1 i.0) e.0 bounds_only).0 z, told es z' i.1)

pub halting_hold : All (λ e. Halts e.0 e.1) halting
unfolding var_uint is_text due equal known is_bare is_uniform is_uniform_array read_var_uint fixed is_empty twins front head payload read mask
halting_hold = told halting refl refl
