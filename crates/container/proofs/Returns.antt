-- What the functions on containers return, by cases.
use mathlib.Core.Path.{◌≡◌, sym}
use mathlib.Core.List.{List}
use lib.ListN.{length, set}
use lib.Seq.{set_out}
use Prim.Native.Nat.{ℕ, ◌+◌, ◌*◌, ◌≤◌}
use mathlib.Core.Bool.{Bool, true, false, cond}
use Rattle.number.specs.VarUInt.{encoded}
use Rattle.run.specs.Run.{uniform}
use Rattle.frames.specs.Container.{count_part, size_by, packed, size_radix, width_radix}
use Rattle.number.proofs.VarUIntLaws.{encoded_length}

-- ---- the count, the size and the work number

pub count_none : (b : Bool) (n : ℕ) → b ≡ true → 0 ≡ length (count_part b n)
unfolding count_part
count_none b n h = rw h

pub count_some : (b : Bool) (n w : ℕ) → b ≡ false → w ≡ length (encoded n) → w ≡ length (count_part b n)
unfolding count_part
count_some b n w h e = rw h e

pub count_most : (n w : ℕ) → w ≡ length (encoded n) → w ≤ 9
count_most n w e = rw e (encoded_length n).1

pub size_is : (b : Bool) (c n sum w k : ℕ) → w ≡ length (count_part b n) → k ≡ cond (uniform b c) 1 n → w + k + sum ≡ size_by b c n sum
unfolding size_by
size_is b c n sum w k e h = rw (e, h)

pub packed_is : (b : Bool) (c n size w i : ℕ) → w ≡ length (count_part b n) → i ≡ cond (uniform b c) c 0 → size * size_radix + w * width_radix + i ≡ packed b c n size
unfolding packed
packed_is b c n size w i e h = rw (e, h)

-- ---- the work numbers that are lent

pub store_none : (l : List ℕ) (k v : ℕ) → length l ≤ k → l ≡ set l k v
store_none l k v h = sym (set_out l k v h)
