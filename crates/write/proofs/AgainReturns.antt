-- A frame again, in the second pass: what the code knows at each return.
use Rattle.std.specs.Prelude.{Option, None, Some, Ok, Err, Result}
use Prim.Native.Nat.{ℕ, ◌+◌, ◌-◌, ◌≤◌, ◌<◌}
use native.Mathlib.Omega.{arith}
use mathlib.Core.Path.{◌≡◌, refl, ap, ◌∙◌}
use mathlib.Core.Bool.{Bool, true, false}
use mathlib.Core.List.{List}
use lib.ListN.{length, drop, length-append, length-drop}
use mir.Syntax.{w64}
use mir.Val.{Fits}
use Rattle.number.proofs.Clash.{clash}
use Rattle.format.specs.declared.Kind.{Kind}
use Rattle.faults.specs.declared.Modes.{Modes}
use Rattle.faults.specs.declared.Faults.{Faults}
use Rattle.format.specs.declared.Stop.{Stop}
use Rattle.format.specs.Kinds.{known}
use Rattle.format.specs.Parse.{Out, fault, got}
use Rattle.format.specs.Names.{read_name}
use Rattle.format.specs.Payload.{Head, value, fields_in, items_in, head}
use Rattle.faults.specs.Noted.{nothing}
use Rattle.front.specs.Code.{answer_of}
use Rattle.head.specs.Code.{heading_of, head_at}
use Rattle.front.specs.Between.{between}
use Rattle.front.proofs.BetweenLaws.{rest_all}
use Rattle.frame.specs.Pieces.{no_modes, name_end_by, name_end, end_in, end_known, leaf_end}
use Rattle.frame.proofs.NameReturns.{name_parts}
use Rattle.write.specs.Again.{start_by, start_at, end_at}
use Rattle.leaves.specs.declared.Heading.TheVariants as H
use Rattle.leaves.specs.declared.Heading.{Heading}

-- ---- where a payload starts

module _ (s : List ℕ) (at : ℕ) (l : at < length s) (named : Bool) where
  pub start_plain : named ≡ false → at + 1 ≡ start_at named s at
  unfolding start_at
  start_plain e = rw e

  module _ (t : named ≡ true) (v : ℕ) (e : v ≡ name_end (between (at + 1) (length s) s)) where
    start_is : (at + 1 + v ≡ start_by (length s) (at + 1) (read_name (drop (at + 1) s))) × (at + 1 + v ≤ length s)
    unfolding name_end
    start_is = go (read_name (drop (at + 1) s)) refl (e ∙ ap name_end (rest_all (at + 1) s))
      where
        go : (o : Out (List ℕ)) → read_name (drop (at + 1) s) ≡ o → v ≡ name_end_by (length (drop (at + 1) s)) o → (at + 1 + v ≡ start_by (length s) (at + 1) o)
            × (at + 1 + v ≤ length s)
        go (fault j) y z = (omega arith, omega arith)
        go (got n fs r) y z =
            let p = name_parts (drop (at + 1) s) y in
            let q : length (drop (at + 1) s) ≡ length p.0 + (length n + length r) = simp length-append at (ap length p.1) in
            let d = length-drop (at + 1) s in
            (omega arith, omega arith)

    pub start_read : at + 1 + v ≡ start_at named s at
    unfolding start_at
    start_read = rw t start_is.0

    pub start_fits : length s ≤ 65536 → Fits w64 (at + 1 + v)
    start_fits q = record { fits = omega (arith, start_is.1) }

-- ---- where a leaf ends

heading_end : (k : Kind) (m : Modes) (g : Faults) (s : List ℕ) (e : ℕ) (h : Faults) → head_at k m g s ≡ Ok (H.Leaf e h) → e ≤ length s
unfolding head_at
heading_end k m g s e h z = go (head k s) z
  where
    by : (x : Head) (v : Faults) (n : ℕ) → n ≤ length s → heading_of x v n ≡ Ok (H.Leaf e h) → e ≤ length s
    by (value w) v n l q = let y : n ≡ e = cc in omega arith
    by (fields_in f b) v n l q = clash cc
    by (items_in f c b) v n l q = clash cc

    go : (o : Out Head) → answer_of Err (λ x h r. heading_of x h (length s - length r)) m g o ≡ Ok (H.Leaf e h) → e ≤ length s
    go (fault j) q = clash cc
    go (got x fs r) q = by x _ (length s - length r) (omega arith) q

leaf_end_le : (b : ℕ) (s : List ℕ) → leaf_end b s ≤ length s
unfolding leaf_end
leaf_end_le b s = go (known b)
  where
    by : (k : Kind) (x : Result Heading Stop) → head_at k no_modes nothing s ≡ x → end_in x ≤ length s
    by k (Err j) e = omega arith
    by k (Ok (H.Leaf a h)) e = heading_end k no_modes nothing s a h e
    by k (Ok (H.Fields f a c h)) e = omega arith
    by k (Ok (H.Items f n a c h)) e = omega arith

    go : (o : Option Kind) → end_known o s ≤ length s
    go None = omega arith
    go (Some k) = by k (head_at k no_modes nothing s) refl

module _ (s : List ℕ) (at : ℕ) (l : at ≤ length s) (b v : ℕ) (e : v ≡ leaf_end b (between at (length s) s)) where
  end_here : v ≡ leaf_end b (drop at s)
  end_here = e ∙ ap (leaf_end b) (rest_all at s)

  pub end_is : at + v ≡ end_at s at b
  unfolding end_at
  end_is = rw end_here

  pub end_fits : length s ≤ 65536 → Fits w64 (at + v)
  end_fits n = record { fits = omega (arith, end_here, leaf_end_le b (drop at s), length-drop at s) }

pub ruleset start_laws = (start_plain, start_read, start_fits)
