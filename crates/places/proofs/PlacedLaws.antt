-- The place of what was met is the one that the definitions meet.
use Rattle.std.specs.Prelude.{Err}
use Prim.Native.Nat.{ℕ}
use mathlib.Core.Path.{◌≡◌, refl, sym, ap, ◌∙◌}
use mathlib.Core.List.{List, []}
use lib.ListN.{length}
use Rattle.format.specs.declared.Form.{Form}
use Rattle.format.specs.declared.Flaw.{Flaw}
use Rattle.faults.specs.declared.Modes.{Modes}
use Rattle.faults.specs.declared.Faults.{Faults}
use Rattle.places.specs.declared.Place.{Place}
use Rattle.format.specs.Parse.{Out, fault, got, with_flaws, bind}
use Rattle.format.specs.Payload.{value, fields_in, items_in}
use Rattle.front.specs.Code.{answer_of}
use Rattle.head.specs.Code.{meeting, met_in, meet_at}
use Rattle.head.proofs.MeetingLaws.{Meeting, blind, meeting_then}
use Rattle.places.specs.Places.{place_of, met}
use Rattle.places.specs.Placed.{placed, field_in}

pub in_flaws : (fs : List Flaw) (o : Out (List ℕ × Place)) → field_in o ≡ field_in (with_flaws fs o)
in_flaws fs o = sym (blind field_in (λ a fs gs q. refl) fs o)

-- a field's place, of what was met in n bytes
abbrev pub met_place : ℕ → ℕ → Meeting → List ℕ → Out (List ℕ × Place)
met_place d n y q = got (y.0.0, place_of d n y.0.1 y.1.0 q) [] q

pub placed_met : (d : ℕ) (f : Form) (m : Modes) (g : Faults) (s : List ℕ) → placed d (meet_at f m g s) ≡ field_in (met d (length s) f s)
unfolding meet_at
placed_met d f m g s = at (meeting f s) ∙ ap field_in (meeting_then f s (met_place d (length s)))
  where
    at : (o : Out Meeting) → placed d (answer_of Err (met_in (length s)) m g o) ≡ field_in (bind o (met_place d (length s)))
    at (fault k) = refl
    at (got (x, (r, value v)) fs q) = in_flaws fs (met_place d (length s) (x, (r, value v)) q)
    at (got (x, (r, fields_in o b)) fs q) = in_flaws fs (met_place d (length s) (x, (r, fields_in o b)) q)
    at (got (x, (r, items_in o c b)) fs q) = in_flaws fs (met_place d (length s) (x, (r, items_in o c b)) q)
