-- A container's size and number in 32 bits.
use Prim.Native.Nat.{ℕ, ◌+◌, ◌*◌, ◌≤◌, ◌<◌}
use native.Mathlib.Omega.{arith}
use mathlib.Core.Path.{◌≡◌}
use mathlib.Core.Bool.{Bool, true, false, cond}
use lib.ListN.{length}
use mir.Syntax.{w32}
use mir.Val.{Fits}
use Rattle.run.specs.Run.{uniform}
use Rattle.frames.specs.Container.{count_part, size_by, packed}
use Rattle.frames.proofs.ContainerLaws.{count_le, size_le}

pub size_few : (r : ℕ) (b : Bool) (c n sum : ℕ) → r ≡ size_by b c n sum → r ≤ 10 + n + sum
size_few r b c n sum e = rw e (size_le b c n sum)

pub pack_fits : (r : ℕ) (b : Bool) (c n z : ℕ) → r ≡ packed b c n z → c < 256 → z ≤ 1048576 → Fits w32 r
unfolding packed
pack_fits r b c n z e h l = record { fits = rw e (go (uniform b c)) }
  where
    go : (u : Bool) → z * 256 + length (count_part b n) * 32 + cond u c 0 < 4294967296
    go true = omega (arith, count_le b n)
    go false = omega (arith, count_le b n)
