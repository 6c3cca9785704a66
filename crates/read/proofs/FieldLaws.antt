-- A field that the code meets in a part is the field that the definitions meet where the part stands.
use Rattle.std.specs.Prelude.{Ok, Result, Err}
use Prim.Native.Nat.{ℕ, ◌+◌, ◌-◌, ◌≤◌}
use native.Mathlib.Omega.{arith}
use mathlib.Core.Path.{◌≡◌, refl, sym, ap, ◌∙◌}
use mathlib.Core.List.{List}
use lib.ListN.{length, length-append}
use Rattle.format.specs.declared.Kind.{Kind}
use Rattle.format.specs.declared.Form.{Form}
use Rattle.format.specs.declared.Flaw.{Flaw}
use Rattle.format.specs.declared.Stop.{Stop}
use Rattle.faults.specs.declared.Modes.{Modes}
use Rattle.faults.specs.declared.Faults.{Faults}
use Rattle.format.specs.Parse.{Out, fault, got, bind}
use Rattle.format.specs.Payload.{head}
use Rattle.head.specs.Code.{meeting, meet_at}
use Rattle.places.specs.Places.{place_with}
use Rattle.places.specs.Placed.{placed_by, placed, field_in}
use Rattle.format.proofs.Local.{local_le}
use Rattle.format.proofs.HeadParts.{local_head, front_takes}
use Rattle.head.proofs.MeetingLaws.{Meeting, meeting_then, meeting_got}
use Rattle.places.proofs.PlacedLaws.{in_flaws, met_place, placed_met}
use Rattle.read.specs.Code.{field_at}
use Rattle.places.specs.declared.Field.{Field}
use Rattle.places.specs.Made.{field_met}

-- behind a other bytes
abbrev pub moved : ℕ → ℕ → Result Field Stop → Result Field Stop
moved a d (Err k) = Err k
moved a d (Ok x) = field_met (place_with x.place.kind (a + x.place.start) (a + x.place.end) d) (a + x.name)

-- where the parts of what was met stand
record Lies (s : List ℕ) (y : Meeting) (q : List ℕ) : Type 0 where
  name : length y.0.0 ≤ length s - length y.1.0
  start : length y.1.0 ≤ length s
  end : length q ≤ length y.1.0

lies : (f : Form) (s : List ℕ) {y : Meeting} {fs : List Flaw} {q : List ℕ} → meeting f s ≡ got y fs q → Lies s y q
lies f s {y} e =
    let i = meeting_got f s e in
    let t = (front_takes f s i.0.1).0 in
    let l : length s ≡ length t.0 + (length y.0.0 + length y.1.0) = simp length-append at (ap length t.1) in
    record { name = omega arith; start = omega arith; end = local_le (head y.0.1) (local_head y.0.1) y.1.0 i.1.1 }

same_place : (k : Kind) (d a e n a' e' n' : ℕ) → a ≡ a' → e ≡ e' → n ≡ n' → ◌≡◌ {A = Result Field Stop} (Ok (placed_by k n a e d)) (Ok (placed_by k n' a' e' d))
same_place k d a e n a' e' n' p q r = rw (p, q, r)

pub field_moved : (d a : ℕ) (f : Form) (m : Modes) (g : Faults) (s : List ℕ) → moved a d (placed d (meet_at f m g s)) ≡ field_at d a f s
unfolding field_at
field_moved d a f m g s =
    ap (moved a d) (placed_met d f m g s ∙ ap field_in (sym (meeting_then f s (met_place d (length s)))))
    ∙ at (meeting f s) refl
    ∙ ap field_in (meeting_then f s (met_place d (a + length s)))
  where
    at : (o : Out Meeting) → meeting f s ≡ o → moved a d (field_in (bind o (met_place d (length s)))) ≡ field_in (bind o (met_place d (a + length s)))
    at (fault k) e = refl
    at (got y fs q) e =
        let l = lies f s e in
        ap (moved a d) (sym (in_flaws fs (met_place d (length s) y q)))
        ∙ same_place y.0.1 d _ _ _ _ _ _ (omega (arith, l.start)) (omega (arith, l.start, l.end)) (omega (arith, l.start, l.name))
        ∙ in_flaws fs (met_place d (a + length s) y q)
