-- A frame up to its payload: what the code answers at each return.
use Rattle.std.specs.Prelude.{Option, None, Some, Ok, Result, Err}
use Prim.Native.Nat.{ℕ, zero, suc, ◌+◌, ◌-◌, ◌≤◌, ◌<◌}
use native.Mathlib.Omega.{arith}
use mathlib.Core.Path.{◌≡◌, refl, sym, ap, ◌∙◌}
use mathlib.Core.Bool.{Bool, true, false, cond}
use mathlib.Core.List.{List, [], ◌∷◌}
use lib.ListN.{length, drop, get_or, length-drop, drop_of_length-le}
use Rattle.format.specs.declared.Kind.{Kind}
use Rattle.format.specs.declared.Flaw.TheVariants.{Long, Blank, NotUtf8}
use Rattle.format.specs.Mask.{has}
use Rattle.format.specs.Names.{read_name}
use Rattle.format.specs.Parse.{Out, fault, got}
use Rattle.frames.specs.declared.Refusal.{Refusal}
use Rattle.frames.specs.declared.Refusal.TheVariants.{BadFrame, EmptyName, NotText, TooDeep}
use Rattle.frames.specs.FramePieces.{writable, mode_of, frame_front}
use Rattle.frames.specs.WriteList.{Frames, refused, framed, next, frame_name, name_found}
use Rattle.frames.proofs.FrontLaws.{kind_by, kind_is}
use Rattle.frames.proofs.PlaceLaws.{rest}
use Rattle.frame.specs.Pieces.{name_by, name_at}
use Rattle.frame.specs.declared.Name.{Name}
use Rattle.frame.specs.declared.Frame.{Frame}
use Rattle.frame.specs.Front.{front_met, front_by, front_at}
use Rattle.frame.specs.Made.{name_read, frame_read}

abbrev with_kind : Kind → Frames (List ℕ) → Frames (List ℕ × Kind)
with_kind k o = next o λ n q. framed (n, k) q

-- behind a kind, by where the name stands
abbrev named_by : Kind → Result Name Refusal → Result Frame Refusal
named_by k (Err n) = Err n
named_by k (Ok p) = frame_read k p.begin p.end

named_is : (total : ℕ) (f : List ℕ) (k : Kind) (o : Out (List ℕ)) → front_met total (with_kind k (name_found f [] o)) ≡ named_by k (name_by total o)
named_is total f k (fault j) = refl
named_is total f k (got m fs r) = go (has Long fs) (has Blank fs) (has NotUtf8 fs)
  where
    go : (a b c : Bool) → front_met total (with_kind k (cond a (refused BadFrame f) (cond b (refused EmptyName f) (cond c (refused NotText f) (framed m r)))))
        ≡ named_by k (cond a (Err BadFrame) (cond b (Err EmptyName) (cond c (Err NotText)
        (name_read (total - length r - length m) (total - length r)))))
    go true b c = refl
    go false true c = refl
    go false false true = refl
    go false false false = refl

module _ (d : ℕ) (s : List ℕ) (at : ℕ) (named : Bool) where
  pub front_deep : d ≡ 0 → Err TooDeep ≡ front_at d s at named
  unfolding front_at
  front_deep e = rw e

  pub front_past : (d ≡ 0 → ⊥) → length s ≤ at → Err BadFrame ≡ front_at d s at named
  unfolding front_at
  front_past nz l = go d nz
    where
      go : (d : ℕ) → (d ≡ 0 → ⊥) → Err BadFrame ≡ front_by d (length s) (frame_front (mode_of named []) (drop at s))
      go zero nz = absurd (nz refl)
      go (suc d) nz = rw (drop_of_length-le s l)

  module _ (nz : d ≡ 0 → ⊥) (l : at < length s) (o : Option Kind) (e : o ≡ writable (get_or s at 0)) where
    abbrev Met : Frames (List ℕ × Kind)
    Met = next (kind_by (drop at s) o (drop (at + 1) s)) λ k r. with_kind k (frame_name (drop at s) (mode_of named []) r)

    met_is : frame_front (mode_of named []) (drop at s) ≡ Met
    met_is = rw (rest s at l, kind_is (get_or s at 0) (get_or s at 0 ∷ drop (at + 1) s) (drop (at + 1) s), e)

    front_is : front_at d s at named ≡ front_met (length s) Met
    unfolding front_at
    front_is = go d nz ∙ ap (front_met (length s)) met_is
      where
        go : (d : ℕ) → (d ≡ 0 → ⊥) → front_by d (length s) (frame_front (mode_of named []) (drop at s))
            ≡ front_met (length s) (frame_front (mode_of named []) (drop at s))
        go zero nz = absurd (nz refl)
        go (suc d) nz = refl

    pub front_bad : o ≡ None → Err BadFrame ≡ front_at d s at named
    front_bad i = sym (front_is ∙ rw i)

    module _ (k : Kind) (i : o ≡ Some k) where
      module _ (j : named ≡ true) (x : Result Name Refusal) (y : x ≡ name_at s (at + 1)) where
        by_name : front_at d s at named ≡ named_by k x
        unfolding name_at
        by_name = front_is ∙ rw (i, j, y) (named_is (length s) (drop at s) k (read_name (drop (at + 1) s)))

        pub front_refused : (n : Refusal) → x ≡ Err n → Err n ≡ front_at d s at named
        front_refused n z = sym (by_name ∙ rw z)

        pub front_named_law : (p : Name) → x ≡ Ok p → frame_read k p.begin p.end ≡ front_at d s at named
        front_named_law p z = sym (by_name ∙ rw z)

      pub front_plain : named ≡ false → frame_read k (at + 1) (at + 1) ≡ front_at d s at named
      front_plain j =
          let n : length s - length (drop (at + 1) s) ≡ at + 1 = rw (length-drop (at + 1) s) (omega arith) in
          let m : length s - length (drop (at + 1) s) - 0 ≡ at + 1 = omega arith in
          sym (front_is ∙ rw (i, j, m, n))

pub ruleset front_laws = (front_deep, front_past, front_bad, front_refused, front_named_law, front_plain)
