-- The places that steps in a container meet, and where they stand: the words of proofs/Siblings.antt.
use Rattle.std.specs.Prelude.{ℕ, zero, suc, ◌≤◌, ◌<◌, ◌≡◌, List, [], ◌∷◌, map, length, Option, Some, None, Ok, Result, Err}
use Rattle.std.proofs.Math.Seq.{slice}
use Rattle.number.specs.BigEndian.{All}
use Rattle.format.specs.declared.Form.TheVariants.{Top}
use Rattle.places.specs.declared.Place.{Place}
use Rattle.format.specs.Limits.{depth_limit}
use Rattle.format.specs.Encoding.{concat}
use Rattle.format.specs.Parse.{Out, fault, got}
use Rattle.format.specs.Reader.{Standing, Named, Layout, read}
use Rattle.places.specs.Places.{step}
use Rattle.places.specs.Stepping.{nth, fields_of, Reached, onward, field_at, step_to, ranges, payload_range, Apart}
use Rattle.places.specs.Contents.{contents_start}
use Rattle.places.specs.declared.PlaceError.TheVariants.{WrongKind, Fault}
use Rattle.places.specs.declared.Field.{Field}
use Rattle.places.specs.declared.PlaceError.{PlaceError}

-- the place that a step gives, and those that are met behind it
abbrev pub places_at : (Place → List Place) → Result (Option Field) PlaceError → List Place
places_at more (Ok (Some p)) = p.place ∷ more p.place
places_at more (Ok None) = []
places_at more (Err WrongKind) = []
places_at more (Err (Fault k)) = []

-- the number bounds the steps, and the container's end is enough
abbrev pub places_from : ℕ → List ℕ → Place → Option Place → List Place
places_from zero s c l = []
places_from (suc n) s c l = places_at (λ q. places_from n s c (Some q)) (step s c l)

-- all that steps in c meet, from its contents' start on
unfoldable pub places_in : List ℕ → Place → List Place
places_in s c = places_from (suc c.end) s c None

-- the field along a path in what the reader reads of a payload
abbrev pub field_read : List ℕ → Out (Named (Standing (Layout depth_limit))) → Option Reached
field_read path (fault k) = None
field_read path (got x fs r) = field_at path depth_limit x

abbrev pub field_in : List ℕ → List ℕ → Option Reached
field_in path s = field_read path (read depth_limit Top s)

-- how many fields or items it has; a leaf has none
abbrev pub field_count : (d : ℕ) → Standing (Layout d) → ℕ
field_count zero x = absurd x.1
field_count (suc d) x = length (fields_of x.1)

abbrev pub count_in : Reached → Option ℕ
count_in x = Some (field_count x.0 x.1.1)

-- each payload stands in its field's own range: it begins no earlier than the field before it ended, from a on
abbrev pub InTurn : ℕ → List Place → Type 0
InTurn a [] = Unit {0}
InTurn a (q ∷ ps) = (a ≤ q.start) × (q.start ≤ q.end) × InTurn q.end ps

-- the fields at the place c, which steps along the path have reached. A field's range is all of it: type byte, name length, name and payload, from where the
-- field before it ended, or from the contents' start
pub record Inside (path payload : List ℕ) (c : Place) : Type 0 where
  pub one_place_each : onward count_in (field_in path payload) ≡ Some (length (places_in payload c))
  pub each_by_steps : (i : ℕ) → nth i (places_in payload c) ≡ onward (λ q. Some q.1) (step_to i payload c None)
  pub contents_inside : (c.start ≤ contents_start payload c) × (contents_start payload c ≤ c.end)
  pub fields_inside : All (λ r. (contents_start payload c ≤ r.0) × (r.0 < r.1) × (r.1 ≤ c.end)) (ranges (contents_start payload c) (places_in payload c))
  pub payloads_inside : All (λ q. (contents_start payload c ≤ q.start) × (q.start ≤ q.end) × (q.end ≤ c.end)) (places_in payload c)
  pub payloads_in_turn : InTurn (contents_start payload c) (places_in payload c)
  pub fields_apart : Apart (ranges (contents_start payload c) (places_in payload c))
  pub payloads_apart : Apart (map payload_range (places_in payload c))
  pub nothing_left_out : concat (λ r. slice r.0 r.1 payload) (ranges (contents_start payload c) (places_in payload c))
      ≡ slice (contents_start payload c) c.end payload
