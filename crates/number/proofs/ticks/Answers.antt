-- `number::ticks` meets its contract: a number from 2^63 up stands for minus (2^64 - 1 - m plus 1). Assumes nothing.
use Prim.Native.Nat.{◌-◌, ◌^◌}
use native.Mathlib.Omega.{arith}
use borrow.Author.Tests.{lt-ltb, le-ltb}
use Rattle.number.proofs.MinusLaws.{minus_first, minus_second, minus_is}
use Rattle.number.proofs.ticks.Goals as goal

pub returns-then-m-lt9223372036854775808 : goal.returns-then-m-lt9223372036854775808
returns-then-m-lt9223372036854775808 c = rw (lt-ltb _ _ c.if-m-lt9223372036854775808.true)

pub overflow_sub-result : goal.overflow_sub-result
overflow_sub-result c = minus_first (2 ^ 64 - 1 - c.args.m) (omega arith)

pub overflow_sub-result-2 : goal.overflow_sub-result-2
overflow_sub-result-2 c = minus_second (2 ^ 64 - 1 - c.args.m) (omega arith)

pub returns : goal.returns
returns c = rw (minus_is (2 ^ 64 - 1 - c.args.m) (omega arith), le-ltb _ _ c.if-m-lt9223372036854775808.false)
