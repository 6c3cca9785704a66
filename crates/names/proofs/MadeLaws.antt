-- Where a name that was found stands, whatever else is known of it.
use Prim.Native.Nat.{ℕ}
use mathlib.Core.Path.{◌≡◌, ap}
use Rattle.std.specs.Prelude.{Option, None, Some}
use Rattle.names.specs.declared.Name.{Name}

abbrev pub begin_of : Option Name → ℕ
begin_of None = 0
begin_of (Some p) = p.begin

abbrev pub end_of : Option Name → ℕ
end_of None = 0
end_of (Some p) = p.end

abbrev pub next_of : Option Name → ℕ
next_of None = 0
next_of (Some p) = p.next

pub name_same : {x y : Option Name} → x ≡ y → (begin_of x ≡ begin_of y) × (end_of x ≡ end_of y) × (next_of x ≡ next_of y)
name_same e = (ap begin_of e, ap end_of e, ap next_of e)
