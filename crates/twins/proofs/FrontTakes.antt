-- A frame's kind and name by cases; and that what stands behind a name or a leaf is no longer than what stood before it.
use Rattle.std.specs.Prelude.{Option, None, Some}
use Prim.Native.Nat.{ℕ, ◌≤◌}
use native.Mathlib.Omega.{arith}
use mathlib.Core.Path.{◌≡◌, refl, ap}
use mathlib.Core.Bool.{Bool, true, false, ◌||◌, cond}
use mathlib.Core.List.{List, [], ◌++◌}
use lib.ListN.{length}
use Rattle.format.specs.declared.Kind.{Kind}
use Rattle.format.specs.declared.Flaw.TheVariants.{Blank, Long, Low, NotUtf8}
use Rattle.format.specs.Parse.{Out, fault, got, raise}
use Rattle.format.specs.Names.{is_empty, read_text, read_name}
use Rattle.format.specs.Mask.{has}
use Rattle.format.specs.Tree.{Leaf}
use Rattle.format.specs.Payload.{leaf, payload, value, head}
use Rattle.format.proofs.Local.{Local, with_put, local_le, local_bind, local_raise}
use Rattle.format.proofs.HeadParts.{local_text, local_head}
use Rattle.frames.specs.declared.Refusal.{Refusal}
use Rattle.frames.specs.declared.Refusal.TheVariants.{BadFrame, EmptyName, NotText}
use Rattle.frames.specs.WriteList.{Frames, refused, framed, is_writable, frame_kind, name_found, frame_name, leaf_found}
use Rattle.frames.specs.FramePieces.{mode_of}
use Rattle.frames.proofs.FrontLaws.{never}

pub kind_elim : (f s : List ℕ) (o : Option Kind) (M : Frames Kind → Type 0) → ((n : Refusal) (r : List ℕ) → M (refused n r)) → ((x : Kind) → M (framed x s))
    → M (frame_kind f o s)
kind_elim f s None M a b = a BadFrame f
kind_elim f s (Some x) M a b = at (is_writable (payload x))
  where
    at : (z : Bool) → M (cond z (framed x s) (refused BadFrame f))
    at true = b x
    at false = a BadFrame f

pub frames_elim : {X : Type 0} (o : Frames X) (M : Frames X → Type 0) → ((n : Refusal) (r : List ℕ) → M (refused n r))
    → ((x : X) (r : List ℕ) → o ≡ framed x r → M (framed x r)) → M o
frames_elim (refused n r) M a b = a n r
frames_elim (framed x r) M a b = b x r refl

pub leaf_le : (x : Kind) (q : List ℕ → Out Leaf) → payload x ≡ leaf q → (f s : List ℕ) {v : Leaf} {r : List ℕ} → leaf_found f (q s) ≡ framed v r
    → length r ≤ length s
unfolding head
leaf_le x q i f s {v} {r} h = go (q s) refl h
  where
    go : (o : Out Leaf) → q s ≡ o → leaf_found f o ≡ framed v r → length r ≤ length s
    go (fault n) j h = never h
    go (got w fs u) j h = at (has Long fs || has Low fs) (has NotUtf8 fs) h
      where
        at : (a b : Bool) → cond a (refused BadFrame f) (cond b (refused NotText f) (framed w u)) ≡ framed v r → length r ≤ length s
        at true b h = never h
        at false true h = never h
        at false false h =
            let z : u ≡ r = cc in
            let y : head x s ≡ got (value w) (fs ++ []) u = rw (i, j) (with_put fs [] (value w) u) in
            omega (arith, local_le (head x) (local_head x) s y, ap length z)

local_name : Local read_name
local_name = local_bind read_text (λ n r. raise (is_empty n) Blank (got n [] r)) local_text (λ n. local_raise (is_empty n) Blank n)

pub read_le : (s : List ℕ) {n : List ℕ} {fs : _} {r : List ℕ} → read_name s ≡ got n fs r → length r ≤ length s
read_le s h = local_le read_name local_name s h

pub name_le : (f : List ℕ) (named : Bool) (s : List ℕ) {n r : List ℕ} → frame_name f (mode_of named []) s ≡ framed n r → length r ≤ length s
name_le f false s {n} {r} h = let z : s ≡ r = cc in omega (arith, ap length z)
name_le f true s {n} {r} h = go (read_name s) refl h
  where
    go : (o : Out (List ℕ)) → read_name s ≡ o → name_found f [] o ≡ framed n r → length r ≤ length s
    go (fault x) j h = never h
    go (got m fs u) j h = at (has Long fs) (has Blank fs) (has NotUtf8 fs) h
      where
        at : (a b c : Bool) → cond a (refused BadFrame f) (cond b (refused EmptyName f) (cond c (refused NotText f) (framed m u))) ≡ framed n r
            → length r ≤ length s
        at true b c h = never h
        at false true c h = never h
        at false false true h = never h
        at false false false h = let z : u ≡ r = cc in omega (arith, read_le s j, ap length z)
