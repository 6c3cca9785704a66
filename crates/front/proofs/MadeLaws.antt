-- Where a span begins and ends, whatever else is known of it.
use Prim.Native.Nat.{ℕ}
use mathlib.Core.Path.{◌≡◌, ap}
use Rattle.std.specs.Prelude.{Result, Ok, Err}
use Rattle.format.specs.declared.Stop.{Stop}
use Rattle.front.specs.declared.Span.{Span}

abbrev pub begin_of : Result Span Stop → ℕ
begin_of (Err k) = 0
begin_of (Ok p) = p.begin

abbrev pub end_of : Result Span Stop → ℕ
end_of (Err k) = 0
end_of (Ok p) = p.end

pub span_same : {x y : Result Span Stop} → x ≡ y → (begin_of x ≡ begin_of y) × (end_of x ≡ end_of y)
span_same e = (ap begin_of e, ap end_of e)
