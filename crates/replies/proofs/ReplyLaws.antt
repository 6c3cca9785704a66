-- What is told of values, which are copied over the front of the lent numbers.
use Rattle.std.specs.Prelude.{Result, Ok}
use native.Mathlib.Omega.{arith}
use Prim.Native.Nat.{ℕ, ◌≤◌}
use mathlib.Core.Path.{◌≡◌, ◌∙◌}
use mathlib.Core.List.{List, ◌++◌}
use lib.ListN.{length, take, drop}
use lib.Seq.{sets, sets-eq}
use borrow.Author.Tests.{le-ltb}
use Rattle.std.proofs.Common.{length-take-le, zero-add}
use Rattle.replies.specs.Number.{afterwards}
use Rattle.replies.specs.Reply.{told, values_reply}

pub values_told : (n : ℕ) (a : Result (List ℕ) ℕ) (l vs new : List ℕ) → n ≤ length l → a ≡ Ok vs → new ≡ vs → length new ≡ length (take n l)
    → afterwards 0 (new ++ drop n l) ≡ told n (values_reply a) l
values_told n a l vs new h e i k =
    let m : length vs ≡ n = rw i at (k ∙ length-take-le n l h) in
    let f : sets l 0 vs ≡ vs ++ drop n l = rw (zero-add, m) at (sets-eq vs l 0 (omega arith)) in
    rw (le-ltb (length l) n h, e, i, f)
