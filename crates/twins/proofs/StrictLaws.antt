-- Refusal 4 decided after the list was read: at the first frame whose name was met before in its object, if there is one; else the list is refused or read as
-- the lax reader says.
use Prim.Native.Nat.{ℕ, zero, suc}
use native.Mathlib.Omega.{arith}
use mathlib.Core.Path.{◌≡◌, refl}
use mathlib.Core.Bool.{Bool, true, false, cond}
use mathlib.Core.Option.{none}
use mathlib.Core.List.{List, [], ◌∷◌}
use lib.ListN.{length}
use lib.Dec.{eqb}
use Rattle.frames.specs.declared.Refusal.TheVariants.{NoneOpen}
use Rattle.frames.specs.WriteList.{refused, next, read_frames, only, read_list}
use Rattle.twins.specs.Lax.{lax, lax_list}
use Rattle.twins.specs.Events.{events, events_of, first_twin, decide}
use Rattle.twins.proofs.EventLaws.{decide_next}
use Rattle.twins.proofs.LaxEvents.{lax_at}
use Rattle.twins.proofs.StrictUntil.{Follows}
use Rattle.twins.proofs.StrictLayer.{frame_strict}

pub frames_follow : (d : ℕ) → Follows (read_frames d) (lax d) (events d)
unfolding read_frames lax events first_twin
frames_follow zero named k used seen s a b c = refl
frames_follow (suc d) named k used seen s a b c = frame_strict (read_frames d) (lax_at d) (frames_follow d) named k used seen s a b c

pub strict_is : (d : ℕ) (s : List ℕ) → read_list d s ≡ decide (first_twin [] (events_of d s)) (lax_list d s)
unfolding read_list lax_list events_of first_twin
strict_is d [] = refl
strict_is d (b ∷ s) = go (eqb b 0)
  where
    go : (z : Bool) → cond z (refused NoneOpen (b ∷ s)) (next (read_frames d none (b ∷ s)) only)
        ≡ decide (first_twin [] (cond z [] (events d false (length (b ∷ s)) (b ∷ s)))) (cond z (refused NoneOpen (b ∷ s)) (next (lax d false (b ∷ s)) only))
    go true = refl
    go false = rw (frames_follow d false (length (b ∷ s)) [] [] (b ∷ s) tt tt (omega arith))
        (decide_next (first_twin [] (events d false (length (b ∷ s)) (b ∷ s))) (lax d false (b ∷ s)) only)
