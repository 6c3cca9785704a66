-- The events of the lax reader at every depth.
use Prim.Native.Nat.{ℕ, zero, suc, ◌<◌}
use mathlib.Core.Path.{◌≡◌}
use mathlib.Core.Bool.{Bool, true, false, cond}
use mathlib.Core.List.{List, [], ◌∷◌}
use lib.ListN.{length}
use lib.Dec.{eqb}
use Rattle.format.specs.Tree.{Tree}
use Rattle.frames.specs.declared.Refusal.TheVariants.{TooDeep}
use Rattle.frames.specs.WriteList.{framed}
use Rattle.twins.specs.Lax.{lax}
use Rattle.twins.specs.Events.{Event, events, events_of, Falls}
use Rattle.twins.specs.Least.{own_of}
use Rattle.twins.proofs.FrameEvents.{AllAt}
use Rattle.twins.proofs.LayerEvents.{frame_inner, at_nothing, frame_at}

abbrev pub inner_of : ℕ → Bool → List ℕ → List Event
inner_of zero named s = []
inner_of (suc d) named s = frame_inner (lax d) (events d) named s

pub lax_at : (d : ℕ) → AllAt (lax d) (events d) (own_of d) (inner_of d)
unfolding lax events own_of
lax_at zero true k s = at_nothing true k s TooDeep s
lax_at zero false k s = at_nothing false k s TooDeep s
lax_at (suc d) named k s = frame_at (lax_at d) named k s

pub lax_takes : (d : ℕ) (named : Bool) (s : List ℕ) (x : List ℕ × Tree d) (r : List ℕ) → lax d named s ≡ framed x r → length r < length s
lax_takes d named s x r h = (lax_at d named 0 s).takes x r h

pub events_fall : (d : ℕ) (s : List ℕ) → Falls (suc (length s)) (events_of d s)
unfolding events_of
events_fall d [] = tt
events_fall d (b ∷ s) = go (eqb b 0)
  where
    go : (z : Bool) → Falls (suc (length (b ∷ s))) (cond z [] (events d false (length (b ∷ s)) (b ∷ s)))
    go true = tt
    go false = (lax_at d false (length (b ∷ s)) (b ∷ s)).falls
