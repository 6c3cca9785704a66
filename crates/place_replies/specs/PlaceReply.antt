-- Places, and the answers of the calls on them, in numbers.
use Rattle.std.specs.Prelude.{ℕ, cond, List, [], ◌∷◌, eqb, Result, Ok, Err, Option, None, Some}
use Rattle.places.specs.declared.Place.{Place}
use Rattle.places.specs.declared.Part.{Part}
use Rattle.format.specs.Mask.{stop_value}
use Rattle.places.specs.Places.{place_with}
use Rattle.places.specs.declared.Field.{Field}
use Rattle.places.specs.declared.PlaceError.{PlaceError}
use Rattle.replies.specs.Reply.{Reply, given, only, no_more, not_there, place_code}
use Rattle.format.specs.declared.Stop.{Stop}

-- ---- places in numbers

abbrev pub place_numbers : Place → List ℕ
place_numbers p = p.kind ∷ p.start ∷ p.end ∷ p.depth ∷ []

abbrev pub place_of : ℕ → ℕ → ℕ → ℕ → Place
place_of k a e d = place_with k a e d

-- none where `some` is 0; of the last place only the end counts
abbrev pub after_of : ℕ → ℕ → Option Place
after_of some e = cond (eqb some 0) None (Some (place_of 0 0 e 0))

-- ---- each answer

abbrev pub checked_reply : Result (Unit {0}) Stop → Reply
checked_reply (Ok u) = given []
checked_reply (Err k) = only (stop_value k)

abbrev pub top_reply : Result Place Stop → Reply
top_reply (Ok p) = given (place_numbers p)
top_reply (Err k) = only (stop_value k)

abbrev pub step_reply : Result (Option Field) PlaceError → Reply
step_reply (Ok (Some x)) = given (x.place.kind ∷ x.place.start ∷ x.place.end ∷ x.place.depth ∷ x.name ∷ [])
step_reply (Ok None) = only no_more
step_reply (Err e) = only (place_code e)

abbrev pub part_reply : Result Part Stop → Reply
part_reply (Ok p) = given (p.begin ∷ p.end ∷ [])
part_reply (Err k) = only (stop_value k)

abbrev pub found_reply : Result (Option Place) PlaceError → Reply
found_reply (Ok (Some p)) = given (place_numbers p)
found_reply (Ok None) = only not_there
found_reply (Err e) = only (place_code e)
