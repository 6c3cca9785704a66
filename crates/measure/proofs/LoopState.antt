-- The first pass, the fields of an object or the items of an array: what the loop's variables hold of the fields so far.
use Rattle.std.specs.Prelude.{Result}
use Prim.Native.Nat.{ℕ, suc, ◌+◌, ◌*◌, ◌≤◌, ◌<◌}
use native.Mathlib.Omega.{arith}
use mathlib.Core.Path.{◌≡◌, refl}
use mathlib.Core.Bool.{Bool}
use mathlib.Core.List.{List, [], ◌++◌}
use lib.ListN.{length, drop, length-drop}
use lib.Seq.{sets}
use Rattle.format.specs.Tree.{Node, Tree}
use Rattle.format.specs.Encoding.{concat, kind_of, payload_of}
use Rattle.frames.specs.WriteList.{Frames, framed, next, until_close, read_frames}
use Rattle.frames.specs.Container.{node_of, ids, packs_of}
use Rattle.run.specs.Run.{shared}
use Rattle.frames.specs.FramePieces.{mode_of}
use Rattle.frames.proofs.ContainerLaws.{plain}
use Rattle.measure.specs.Passes.{PayloadBy}
use Rattle.settle.specs.declared.Measured.{Measured}
use Rattle.frames.specs.declared.Refused.{Refused}

-- the frames of a container, whatever names it has so far
abbrev pub loosely : (d : ℕ) → Bool → ℕ → List (List ℕ) → List ℕ → Frames (List (List ℕ × Tree d))
loosely d named n used s = until_close (λ u. read_frames d (mode_of named [])) n used s

-- the fields xs, and those that follow
abbrev pub onto : {A : Type 0} → Bool → List (List ℕ × A) → Frames (List (List ℕ × A)) → Frames (Node A)
onto named xs o = next o λ ys r. framed (node_of named (xs ++ ys)) r

abbrev pub loose_of : (d : ℕ) → Bool → List ℕ → Frames (Node (Tree d))
loose_of d named s = onto named [] (loosely d named (length s) [] s)

abbrev pub LooseAt : (d : ℕ) (s : List ℕ) (at before : ℕ) (named : Bool) (k : ℕ) (w w' : List ℕ) (m : Result Measured Refused) → Type 0
LooseAt d s at before named k w w' m = PayloadBy (suc d) (length s) before k w w' m (loose_of d named (drop at s))

abbrev pub packs_in : (d : ℕ) → List (List ℕ × Tree d) → List ℕ
packs_in d xs = concat (λ x. packs_of d x.1) xs

pub record Loop (d : ℕ) (s : List ℕ) (at : ℕ) (named : Bool) (k : ℕ) (w₀ w : List ℕ) (p j n sum c : ℕ) : Type 0 where
  pub xs : List (List ℕ × Tree d)
  pub fuel : ℕ
  pub used : List (List ℕ)
  pub enough : length s ≤ p + fuel
  pub low : at ≤ p
  pub high : p ≤ length s
  pub whole : loose_of d named (drop at s) ≡ onto named xs (loosely d named fuel used (drop p s))
  pub is_n : n ≡ length xs
  pub is_sum : sum ≡ length (plain (kind_of d) (payload_of d) named xs)
  pub is_c : c ≡ shared (ids (kind_of d) xs)
  pub is_j : j ≡ k + 1 + length (packs_in d xs)
  pub is_work : w ≡ sets w₀ (k + 1) (packs_in d xs)
  pub few_numbers : j ≤ p
  pub few : n ≤ p
  pub small : sum + n ≤ 10 * p

pub loop_start : (d : ℕ) (s : List ℕ) (at : ℕ) (named : Bool) (k : ℕ) (w : List ℕ) → at ≤ length s → k < at → Loop d s at named k w w at (k + 1) 0 0 0
unfolding shared
loop_start d s at named k w h l =
    record {
      xs = [];
      fuel = length (drop at s);
      used = [];
      enough = rw (length-drop at s) (omega arith);
      low = omega arith;
      high = h;
      whole = refl;
      is_n = refl;
      is_sum = refl;
      is_c = refl;
      is_j = omega arith;
      is_work = refl;
      few_numbers = omega arith;
      few = omega arith;
      small = omega arith;
    }
