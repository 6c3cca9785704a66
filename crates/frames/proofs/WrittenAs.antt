-- A list that describes a tree is written wherever it fits, as the encoding and the sizes say: in each of the three results.
use Rattle.std.specs.Prelude.{Ok}
use Prim.Native.Nat.{ℕ, ◌-◌, ◌≤◌}
use mathlib.Core.Path.{◌≡◌, ap}
use mathlib.Core.List.{List, [], ◌++◌}
use lib.ListN.{length, drop}
use borrow.Author.Tests.{le-ltb}
use Rattle.format.specs.Limits.{depth_limit, length_limit}
use Rattle.format.specs.Tree.{Tree}
use Rattle.format.specs.Encoding.{encoding, sizes_of}
use Rattle.frames.specs.WriteList.{framed, read_list}
use Rattle.frames.specs.Writer.{wrote, outcome, Afterwards, zeros, result_of, written}

-- what is written of a list that describes t: the answer is the encoding's length; the output begins with the encoding, and is untouched past it; the work
-- numbers begin with the sizes of the containers, in order of opening, and are zero past them
pub record WrittenAs (t : Tree depth_limit) (output work : List ℕ) (result : Afterwards) : Type 0 where
  pub answer_is : result.answer ≡ Ok (length (encoding depth_limit t))
  pub output_is : result.output ≡ encoding depth_limit t ++ drop (length (encoding depth_limit t)) output
  pub work_is : result.work ≡ sizes_of depth_limit t ++ zeros (length work - length (sizes_of depth_limit t))

pub described_list_written : (list : List ℕ) (t : Tree depth_limit) → read_list depth_limit list ≡ framed t [] → length list ≤ length_limit
    → length (encoding depth_limit t) ≤ length_limit
    → (output work : List ℕ) → length (encoding depth_limit t) ≤ length output → length (sizes_of depth_limit t) ≤ length work
    → WrittenAs t output work (written list output work)
unfolding written outcome
described_list_written list t e l m output work room numbers =
    let z : written list output work ≡ result_of (wrote (encoding depth_limit t) (sizes_of depth_limit t)) output work =
    rw (
      le-ltb length_limit (length list) l,
      e,
      le-ltb (length work) (length (sizes_of depth_limit t)) numbers,
      le-ltb (length output) (length (encoding depth_limit t)) room,
      le-ltb length_limit (length (encoding depth_limit t)) m,
    ) in
    record { answer_is = ap (λ r. r.answer) z; output_is = ap (λ r. r.output) z; work_is = ap (λ r. r.work) z }
