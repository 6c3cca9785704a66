-- The direct frames of an object once more, by a walk that checks nothing and steps over the containers in it. It is told that the lax reader stops with
-- `stop` bytes left.
use Rattle.std.specs.Prelude.{ℕ, zero, suc, Bool, true, false, cond, List, [], ◌∷◌, ◌++◌, length, eqb, leb, Option, None, Some}
use Rattle.std.proofs.Math.Option.{Option as Optional, none, some}
use Rattle.format.specs.declared.Kind.{Kind}
use Rattle.format.specs.Kinds.{known}
use Rattle.format.specs.Parse.{Out, fault, got}
use Rattle.format.specs.Names.{read_name}
use Rattle.format.specs.Payload.{Payload, leaf, fields, shared_fields, items, shared_items, payload}
use Rattle.frames.specs.WriteList.{Frames, refused, framed}
use Rattle.twins.specs.Events.{Event}
use Rattle.twins.specs.Least.{own_of}

-- where a reader stopped
abbrev pub left_of : {A : Type 0} → Frames A → ℕ
left_of (refused n f) = length f
left_of (framed a r) = length r

abbrev pub rest_of : {A : Type 0} → Out A → Optional (List ℕ)
rest_of (fault k) = none
rest_of (got a fs r) = some r

-- ---- what is left behind a frame; none if the reader stopped inside

abbrev pub onward : {B : Type 0} → B → Optional (List ℕ) → (List ℕ → B) → B
onward z none g = z
onward z (some r) g = g r

abbrev pub name_rest : Bool → List ℕ → Optional (List ℕ)
name_rest true s = rest_of (read_name s)
name_rest false s = some s

-- a reader that stopped at this frame or before it stopped inside the container
abbrev pub pass_until : (List ℕ → Optional (List ℕ)) → ℕ → ℕ → List ℕ → Optional (List ℕ)
pass_until p stop zero s = none
pass_until p stop (suc n) [] = none
pass_until p stop (suc n) (b ∷ s) =
    cond (leb (length (b ∷ s)) stop) none
    (cond (eqb b 0) (some s) (onward none (p (b ∷ s)) λ r. pass_until p stop n r))

module _ (p : Bool → List ℕ → Optional (List ℕ)) (stop : ℕ) where
  abbrev pub pass_payload : Payload → List ℕ → Optional (List ℕ)
  pass_payload (leaf q) s = rest_of (q s)
  pass_payload fields s = pass_until (p true) stop (length s) s
  pass_payload shared_fields s = none
  pass_payload items s = pass_until (p false) stop (length s) s
  pass_payload shared_items s = none

  abbrev pub pass_known : Bool → Option Kind → List ℕ → Optional (List ℕ)
  pass_known named None s = none
  pass_known named (Some x) s = onward none (name_rest named s) λ r. pass_payload (payload x) r

  abbrev pub pass_frame : Bool → List ℕ → Optional (List ℕ)
  pass_frame named [] = none
  pass_frame named (b ∷ s) = pass_known named (known b) s

unfoldable pub pass_over : ℕ → ℕ → Bool → List ℕ → Optional (List ℕ)
pass_over zero stop named s = none
pass_over (suc d) stop named s = pass_frame (pass_over d stop) stop named s

-- ---- the walk: a frame at which the reader stopped still has its name, and is the last

abbrev pub walk_until : (List ℕ → List Event) → (List ℕ → Optional (List ℕ)) → ℕ → ℕ → List ℕ → List Event
walk_until o p stop zero s = []
walk_until o p stop (suc n) [] = []
walk_until o p stop (suc n) (b ∷ s) =
    cond (eqb b 0) []
    (o (b ∷ s) ++ cond (leb (length (b ∷ s)) stop) [] (onward [] (p (b ∷ s)) λ r. walk_until o p stop n r))

-- the direct frames of the object whose fields begin at s, with d levels left
unfoldable pub walked : ℕ → ℕ → List ℕ → List Event
walked d stop s = walk_until (own_of d (length s)) (pass_over d stop true) stop (length s) s
