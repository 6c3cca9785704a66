-- A name noted, and an object's end: what the code answers at each return.
use Rattle.std.specs.Prelude.{Result, Err}
use Prim.Native.Nat.{ℕ, min, ◌+◌, ◌-◌, ◌≤◌, ◌<◌}
use native.Mathlib.Omega.{arith}
use mathlib.Core.Path.{◌≡◌, refl, sym, ap, ◌∙◌}
use mathlib.Core.Bool.{Bool, true, false, cond}
use mathlib.Core.List.{List, ◌++◌}
use lib.ListN.{length, take, drop, length-drop, drop_of_length-le}
use lib.Seq.{take_all}
use lib.Dec.{ltb}
use borrow.Author.Tests.{lt-ltb, le-ltb, ltb-true, ltb-false}
use Rattle.frames.specs.declared.Refusal.TheVariants.{NameUsed}
use Rattle.frames.specs.declared.Refused.{Refused}
use Rattle.frames.specs.Writer.{refusal_at}
use Rattle.entries.specs.Entry.{entry_of}
use Rattle.entries.specs.Least.{lesser}
use Rattle.naming.proofs.RoomLaws.{lesser_min}
use Rattle.select.specs.declared.Source.TheVariants as S
use Rattle.select.specs.Source.{Searched}
use Rattle.notes.specs.declared.Notes.{Notes}
use Rattle.notes.specs.Notes.{held_in, noting, added, told}
use Rattle.used.specs.Place.{frame_place}
use Rattle.used.proofs.PlaceReturns.{place_inside}
use Rattle.naming.specs.Names.{noted_by, room_for, twin_by, ending, ended_by}
use Rattle.settle.specs.declared.Measured.{Measured}

-- ---- positions

module _ (s : List ℕ) (at from : ℕ) (nearer : from ≡ min at (length s)) where
  e : from ≡ lesser at (length s)
  e = nearer ∙ lesser_min at (length s)

  -- what is lent from a position on is what is left there
  part_is : take (length s - from) (drop from s) ≡ drop at s
  part_is = take_all (length s - from) (drop from s) (omega (arith, length-drop from s)) ∙ rw e (go (ltb at (length s)) refl)
    where
      go : (o : Bool) → ltb at (length s) ≡ o → drop (cond o at (length s)) s ≡ drop at s
      go true i = refl
      go false i = drop_of_length-le s {i = length s} (omega arith) ∙ sym (drop_of_length-le s (ltb-false at (length s) i))

  -- a frame of the object stands in the list
  pub place_sum : (d g p : ℕ) → p ≡ frame_place d (take (length s - from) (drop from s)) g → from + p ≤ length s
  place_sum d g p q =
      omega (arith, place_inside d (take (length s - from) (drop from s)) g, ap length part_is, go)
    where
      go : from + length (drop at s) ≤ length s
      go = rw (length-drop at s, e) (by (ltb at (length s)) refl)
        where
          by : (o : Bool) → ltb at (length s) ≡ o → cond o at (length s) + (length s - at) ≤ length s
          by true i = omega (arith, ltb-true at (length s) i)
          by false i = omega (arith, ltb-false at (length s) i)

  -- ---- a name

  pub note_is : (t : List ℕ) (notes : Notes) (b e₁ x y z : ℕ) → x ≡ b - at → y ≡ e₁ - at → z ≡ entry_of (take (length s - from) (drop from s)) x y
      → (r : Notes) (t' : List ℕ) → noting r t' ≡ added (take (length s - from) (drop from s)) t notes z → noting r t' ≡ noted_by s at t notes b e₁
  note_is t notes b e₁ x y z ex ey ez r t' h = rw (← ex, ← ey, ← part_is, ← ez) h

  -- ---- the end

  module _ (d : ℕ) (t : List ℕ) (notes : Notes) (reach : ℕ) (m : Result Measured Refused) (nz : reach ≡ 0 → ⊥) (held : ℕ) (v : held ≡ held_in notes) (room : ℕ)
      (u : room ≡ room_for (length t) held reach) (g : ℕ) (y : List ℕ)
      (h : ◌≡◌ {A = Searched} (record { answer = g; table = y }) (told (S.Frames d (reach - 1)) (take (length s - from) (drop from s))
      (take room t) notes)) where
    room_is : room_for (length t) (held_in notes) reach ≡ room
    room_is = sym (u ∙ ap (λ (n : ℕ). room_for (length t) n reach) v)

    search_is : twin_by d s at t notes reach ≡ record { answer = g; table = y }
    search_is =
        ap (λ (n : ℕ). told (S.Frames d (reach - 1)) (drop at s) (take n t) notes) room_is
        ∙ (ap (λ (u : List ℕ). told (S.Frames d (reach - 1)) u (take room t) notes) (sym part_is) ∙ sym h)

    pub ended_once : 16777216 ≤ g → ending m (y ++ drop room t) ≡ ended_by d s at t notes reach m
    unfolding ended_by
    ended_once j = rw (lt-ltb 0 reach (omega (arith, nz)), search_is, room_is, le-ltb g 16777216 j)

    pub ended_twice : g < 16777216 → (p : ℕ) → p ≡ frame_place d (take (length s - from) (drop from s)) g → (r : Refused) → r ≡ refusal_at NameUsed (from + p)
        → ending (Err r) (y ++ drop room t) ≡ ended_by d s at t notes reach m
    unfolding ended_by
    ended_twice j p q r i =
        let z : p ≡ frame_place d (drop at s) g = q ∙ ap (λ (u : List ℕ). frame_place d u g) part_is in
        rw (lt-ltb 0 reach (omega (arith, nz)), search_is, room_is, lt-ltb g 16777216 j, i, ← z, ← e)

pub ended_empty : (s : List ℕ) (at d : ℕ) (t : List ℕ) (notes : Notes) (reach : ℕ) (m : Result Measured Refused) → reach ≡ 0 → ending m t ≡ ended_by d s at t notes reach m
unfolding ended_by
ended_empty s at d t notes reach m j = rw (le-ltb 0 reach (omega arith))
