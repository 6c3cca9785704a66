-- The last place that a step goes on from, by the numbers that are handed.
use Rattle.std.specs.Prelude.{None, Some}
use Prim.Native.Nat.{ℕ}
use mathlib.Core.Path.{◌≡◌, ap}
use borrow.Author.Tests.{eq-eqb, ne_eqb}
use Rattle.places.specs.declared.Place.{Place}
use Rattle.place_replies.specs.PlaceReply.{place_of, after_of}

pub after_none : (some last : ℕ) → some ≡ 0 → None ≡ after_of some last
after_none some last h = rw (eq-eqb some 0 h)

pub after_some : (some last : ℕ) (p : Place) → p ≡ place_of 0 0 last 0 → (some ≡ 0 → ⊥) → Some p ≡ after_of some last
after_some some last p e h = rw (ne_eqb some 0 h) (ap Some e)

pub ruleset after_laws = (after_none, after_some)
