-- Answers that are the same tell the same.
use Prim.Native.Nat.{ℕ}
use mathlib.Core.Path.{◌≡◌, ap}
use Rattle.std.specs.Prelude.{Result, Ok, Err}
use Rattle.format.specs.declared.Kind.{Kind}
use Rattle.format.specs.declared.Kind.TheVariants.{Null}
use Rattle.frames.specs.declared.Refusal.{Refusal}
use Rattle.frames.specs.declared.Refused.{Refused}
use Rattle.frame.specs.declared.Frame.{Frame}
use Rattle.settle.specs.declared.Measured.{Measured}

abbrev kind_of : Result Frame Refusal → Kind
kind_of (Err n) = Null
kind_of (Ok p) = p.kind

abbrev begin_of : Result Frame Refusal → ℕ
begin_of (Err n) = 0
begin_of (Ok p) = p.begin

abbrev start_of : Result Frame Refusal → ℕ
start_of (Err n) = 0
start_of (Ok p) = p.start

pub frame_same : {p q : Frame} → ◌≡◌ {A = Result Frame Refusal} (Ok p) (Ok q) → (p.kind ≡ q.kind) × (p.begin ≡ q.begin) × (p.start ≡ q.start)
frame_same e = (ap kind_of e, ap begin_of e, ap start_of e)

abbrev next_of : Result Measured Refused → ℕ
next_of (Err n) = 0
next_of (Ok p) = p.next

abbrev id_of : Result Measured Refused → ℕ
id_of (Err n) = 0
id_of (Ok p) = p.id

abbrev size_of : Result Measured Refused → ℕ
size_of (Err n) = 0
size_of (Ok p) = p.size

abbrev opened_of : Result Measured Refused → ℕ
opened_of (Err n) = 0
opened_of (Ok p) = p.opened

pub measured_same : {p q : Measured} → ◌≡◌ {A = Result Measured Refused} (Ok p) (Ok q)
    → (p.next ≡ q.next) × (p.id ≡ q.id) × (p.size ≡ q.size) × (p.opened ≡ q.opened)
measured_same e = (ap next_of e, ap id_of e, ap size_of e, ap opened_of e)
