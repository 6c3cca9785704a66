-- What the code answers inside: where what is left begins in the part that was lent, or none if it cannot be passed over.
-- Nothing here has to be believed: the contract of `name_at` names none of it.
use Rattle.std.specs.Prelude.{ℕ, ◌-◌, Bool, List, length, drop, Option, None, Some}
use Rattle.std.proofs.Math.Option.{Option as Optional, none, some}
use Rattle.format.specs.declared.Kind.{Kind}
use Rattle.format.specs.Payload.{Payload, leaf, fields, shared_fields, items, shared_items, payload}
use Rattle.twins.specs.Walk.{rest_of, name_rest}
use Rattle.passing.specs.Pass.{pass_until, pass_payload, pass_over}

abbrev pub end_of : ℕ → Optional (List ℕ) → Option ℕ
end_of total none = None
end_of total (some r) = Some (total - length r)

-- a container is no leaf
abbrev pub leaf_rest : Payload → List ℕ → Optional (List ℕ)
leaf_rest (leaf q) s = rest_of (q s)
leaf_rest fields s = none
leaf_rest shared_fields s = none
leaf_rest items s = none
leaf_rest shared_items s = none

-- each from a position of the part s on

-- a name, if there is one
unfoldable pub name_end : Bool → ℕ → List ℕ → Option ℕ
name_end named a s = end_of (length s) (name_rest named (drop a s))

unfoldable pub leaf_end : Kind → ℕ → List ℕ → Option ℕ
leaf_end k a s = end_of (length s) (leaf_rest (payload k) (drop a s))

unfoldable pub contents_end : ℕ → Bool → ℕ → List ℕ → Option ℕ
contents_end d named a s = end_of (length s) (pass_until (pass_over d named) (length (drop a s)) (drop a s))

unfoldable pub payload_end : ℕ → Kind → ℕ → List ℕ → Option ℕ
payload_end d k a s = end_of (length s) (pass_payload (pass_over d) (payload k) (drop a s))

unfoldable pub frame_end : ℕ → Bool → ℕ → List ℕ → Option ℕ
frame_end d named a s = end_of (length s) (pass_over d named (drop a s))
