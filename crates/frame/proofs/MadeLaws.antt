-- Where what was read stands, whatever else is known of it.
use Prim.Native.Nat.{ℕ}
use mathlib.Core.Path.{◌≡◌, ap}
use Rattle.std.specs.Prelude.{Result, Ok, Err}
use Rattle.format.specs.declared.Stop.{Stop}
use Rattle.faults.specs.declared.Faults.{Faults}
use Rattle.faults.specs.Noted.{nothing}
use Rattle.front.specs.declared.Front.{Front}
use Rattle.frames.specs.declared.Refusal.{Refusal}
use Rattle.frame.specs.declared.Name.{Name}

abbrev name_in : Result Front Stop → ℕ
name_in (Err j) = 0
name_in (Ok p) = p.name

abbrev start_in : Result Front Stop → ℕ
start_in (Err j) = 0
start_in (Ok p) = p.start

abbrev faults_in : Result Front Stop → Faults
faults_in (Err j) = nothing
faults_in (Ok p) = p.faults

pub front_same : {p q : Front} → ◌≡◌ {A = Result Front Stop} (Ok p) (Ok q) → (p.name ≡ q.name) × (p.start ≡ q.start) × (p.faults ≡ q.faults)
front_same e = (ap name_in e, ap start_in e, ap faults_in e)

abbrev begin_of : Result Name Refusal → ℕ
begin_of (Err n) = 0
begin_of (Ok p) = p.begin

abbrev end_of : Result Name Refusal → ℕ
end_of (Err n) = 0
end_of (Ok p) = p.end

pub name_same : {p q : Name} → ◌≡◌ {A = Result Name Refusal} (Ok p) (Ok q) → (p.begin ≡ q.begin) × (p.end ≡ q.end)
name_same e = (ap begin_of e, ap end_of e)
