-- What stands behind a frame of the write list that is passed over: its kind, its name and its payload are stepped over, and no flaw in them matters
-- (document 01, "The write list"). The answer is what is left; none, if the frame cannot be passed over.
use Rattle.std.specs.Prelude.{ℕ, zero, suc, Bool, true, false, cond, List, [], ◌∷◌, length, eqb, Option, None, Some}
use Rattle.std.proofs.Math.Option.{Option as Optional, none, some}
use Rattle.format.specs.declared.Kind.{Kind}
use Rattle.format.specs.Payload.{Payload, leaf, fields, shared_fields, items, shared_items, payload}
use Rattle.frames.specs.FramePieces.{writable}
use Rattle.twins.specs.Walk.{rest_of, onward, name_rest}

-- frames one after another up to the close, which is passed too. `p` passes one. The number bounds how many there are, and the length is enough
abbrev pub pass_until : (List ℕ → Optional (List ℕ)) → ℕ → List ℕ → Optional (List ℕ)
pass_until p zero s = none
pass_until p (suc n) [] = none
pass_until p (suc n) (b ∷ s) = cond (eqb b 0) (some s) (onward none (p (b ∷ s)) λ r. pass_until p n r)

-- one layer: `p` passes the frames inside, which have names in an object
module _ (p : Bool → List ℕ → Optional (List ℕ)) where
  abbrev pub pass_payload : Payload → List ℕ → Optional (List ℕ)
  pass_payload (leaf q) s = rest_of (q s)
  pass_payload fields s = pass_until (p true) (length s) s
  pass_payload shared_fields s = none
  pass_payload items s = pass_until (p false) (length s) s
  pass_payload shared_items s = none

  abbrev pub pass_known : Bool → Option Kind → List ℕ → Optional (List ℕ)
  pass_known named None s = none
  pass_known named (Some k) s = onward none (name_rest named s) λ r. pass_payload (payload k) r

  abbrev pub pass_frame : Bool → List ℕ → Optional (List ℕ)
  pass_frame named [] = none
  pass_frame named (b ∷ s) = pass_known named (writable b) s

-- the frame at s, with d levels left; `named`: it stands in an object
unfoldable pub pass_over : ℕ → Bool → List ℕ → Optional (List ℕ)
pass_over zero named s = none
pass_over (suc d) named s = pass_frame (pass_over d) named s
