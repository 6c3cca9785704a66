-- A walk that checks nothing meets exactly the direct frames of an object, if it is known where the lax reader stops.
use Prim.Native.Nat.{ℕ, zero, suc}
use native.Mathlib.Omega.{arith}
use mathlib.Core.Path.{◌≡◌, refl}
use mathlib.Core.Bool.{Bool, true}
use mathlib.Core.List.{List, []}
use lib.ListN.{length}
use Rattle.frames.specs.WriteList.{until_close}
use Rattle.frames.proofs.FrontLaws.{never}
use Rattle.twins.specs.Lax.{lax}
use Rattle.twins.specs.Least.{own_of, direct}
use Rattle.twins.specs.Walk.{left_of, pass_over, walked}
use Rattle.twins.proofs.LaxEvents.{lax_takes}
use Rattle.twins.proofs.PassUntil.{Passes, walk_is}
use Rattle.twins.proofs.PassLayer.{frame_passes}

lax_passes : (d stop : ℕ) (named : Bool) (s : List ℕ) → Passes stop s (lax d named s) (pass_over d stop named s)
unfolding lax pass_over
lax_passes zero stop named s = record { on = λ v r h. never h; inside = λ n u h i d. refl; less = omega arith }
lax_passes (suc d) stop named s = frame_passes stop (lax d) (pass_over d stop) (lax_passes d stop) (lax_takes d) named s

pub direct_walked : (d stop : ℕ) (s : List ℕ) → stop ≡ left_of (until_close (λ u. lax d true) (length s) [] s)
    → direct (lax d true) (own_of d) s ≡ walked d stop s
unfolding walked
direct_walked d stop s h = walk_is stop (lax d) (pass_over d stop) (lax_passes d stop) (lax_takes d) (own_of d (length s)) (length s) [] s h
