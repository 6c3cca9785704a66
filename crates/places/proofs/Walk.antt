-- Every field reached shows what the layout gives it; the walk; lookup: the theorems about the definitions, in the mission's words. What `ShownPayload`,
-- `Shown` and `ShownFields` say, specs/Show.antt has, and of `Agree`, `stepping`, `events`, `ranges`, `Apart` and `IsFirst`, specs/Stepping.antt.
use Rattle.std.specs.Prelude.{None, Ok, Some}
use Prim.Native.Nat.{ℕ, suc, ◌+◌, ◌≤◌, ◌<◌}
use mathlib.Core.Path.{◌≡◌, refl, ap, sym, ◌∙◌}
use mathlib.Core.Logic.{◌↔◌}
use mathlib.Core.List.{List, [], map}
use lib.ListN.{length}
use lib.Seq.{slice}
use borrow.Author.Tests.{le-ltb}
use Rattle.number.specs.BigEndian.{All}
use Rattle.format.specs.declared.Kind.{Kind}
use Rattle.format.specs.declared.Form.TheVariants.{Top}
use Rattle.places.specs.declared.Place.{Place}
use Rattle.format.specs.Parse.{got}
use Rattle.format.specs.Limits.{depth_limit, length_limit}
use Rattle.format.specs.Tree.{Tree, object}
use Rattle.format.specs.Encoding.{concat, encoding, WithinLimits}
use Rattle.format.specs.Payload.{payload}
use Rattle.format.specs.Reader.{Standing, Named, Layout, tree, read, tree_of}
use Rattle.format.specs.Mask.{mask, bounds_only}
use Rattle.places.specs.Places.{lookup}
use Rattle.places.specs.Show.{ShownFields, Shown, ShownPayload}
use Rattle.places.specs.Stepping.{field_at, place_at, Agree, stepping, events, ranges, payload_range, Apart, IsFirst}
use Rattle.format.proofs.Masks.{mask_case, bounds_case}
use Rattle.places.proofs.Showing.{shown_top}
use Rattle.places.proofs.WalkFacts.{walk_each, walk_ranges, walk_fills, walk_apart, steps_events, path_agrees, none_found, first_found}
use Rattle.format.proofs.Spelling.{encoding_passes, one_tree}

-- 1. Every field reached shows what the layout gives it: for every payload that the bounds check passes, tidy or not, for every field of its tree, the place
-- reached from the top by steps has its kind, the name view is its name, and the value calls and the view answer its value
pub every_field_shown : (s : List ℕ) → mask bounds_only s ≡ 0 → ShownPayload s
unfolding tree_of
every_field_shown s h = mask_case bounds_only s h λ l m. bounds_case (read depth_limit Top s) m λ x fs r e.
    let i = shown_top s x fs r l e in
    record {
      kind = x.1.0;
      layout = x.1.1;
      flaws = fs;
      left = r;
      was_read = e ∙ ap (λ (n : List ℕ). got (n, x.1) fs r) i.6;
      place = i.0;
      its_tree = rw (le-ltb length_limit (length s) l, e);
      is_top = i.1;
      begins = i.2;
      ends = i.3;
      depth_1 = i.4;
      shown = i.5;
    }

-- 1. The same, path by path: there is a field of the tree along a path exactly if steps along it reach a place; and then the name view met last is its name,
-- and the place shows its kind and its value
pub every_field_reached : (s : List ℕ) (i : ShownPayload s) (path : List ℕ)
    → Agree s (field_at path depth_limit ([], (i.kind, i.layout))) (place_at path s ([], i.place))
every_field_reached s i path = path_agrees path depth_limit s ([], (i.kind, i.layout)) ([], i.place) refl i.shown

-- 1. and so for the encoding of a tree within the limits, whose tree is that one
pub encoding_shown : (t : Tree depth_limit) → WithinLimits t → (i : ShownPayload (encoding depth_limit t)) × (tree depth_limit i.layout ≡ t)
encoding_shown t w =
    let e = encoding_passes t w in
    let i = every_field_shown (encoding depth_limit t) (e.0 bounds_only) in
    (i, one_tree (encoding depth_limit t) (tree depth_limit i.layout) t i.its_tree e.1)

-- 2. The walk: in any payload that the bounds check alone passes (so that there is an i), stepping from the top, and in each field met, meets each field of
-- its tree once, in order, with its name and kind, one deeper than its container; then "no more", and on a leaf "wrong kind"
pub walk_meets_each_once : (s : List ℕ) (i : ShownPayload s) → stepping depth_limit s i.place ≡ events depth_limit 2 (i.kind, i.layout)
walk_meets_each_once s i =
    steps_events depth_limit s i.place (i.kind, i.layout) i.shown ∙ ap (λ (n : ℕ). events depth_limit (n + 1) (i.kind, i.layout)) i.depth_1

-- 2. of every container that is shown
module _ {A : Type 0} (Shows : Place → Standing A → Type 0) (s : List ℕ) (k : Kind) (c : Place) (xs : List (Named (Standing A)))
    (f : ShownFields Shows s k c xs) where
  -- 2. a place for each field
  pub one_place_each : length f.places ≡ length xs
  one_place_each = walk_each Shows s c (payload k) f.contents None f.places xs f.walk

  -- 2. each wholly inside its container, none of them empty
  pub fields_inside : All (λ r. (f.contents ≤ r.0) × (r.0 < r.1) × (r.1 ≤ c.end)) (ranges f.contents f.places)
  fields_inside = (walk_ranges Shows s c (payload k) f.contents None f.places xs f.walk).0

  -- 2. nothing between them left out: one behind the other, their bytes are the contents
  pub nothing_left_out : concat (λ r. slice r.0 r.1 s) (ranges f.contents f.places) ≡ slice f.contents c.end s
  nothing_left_out = walk_fills Shows s c (payload k) f.contents None f.places xs f.walk

  -- 2. no two siblings overlapping, neither with all that stands before their payloads, nor as the places say
  pub siblings_apart : Apart (ranges f.contents f.places) × Apart (map payload_range f.places)
  siblings_apart = (
    (walk_ranges Shows s c (payload k) f.contents None f.places xs f.walk).1,
    walk_apart Shows s c (payload k) f.contents None f.places xs f.walk,
  )

-- 3. of every object that is shown, and any name m
module _ (d : ℕ) (s : List ℕ) (c : Place) (k : Kind) (xs : List (Named (Standing (Layout d)))) (i : Shown (suc d) s c (k, object xs)) (m : List ℕ) where
  -- 3. Lookup finds the first field of the tree with that name
  pub lookup_finds_first : (q : Place) → (lookup s c m ≡ Ok (Some q)) ↔ IsFirst m q i.node.fields.places xs
  lookup_finds_first q =
      let t = first_found m q i.node.fields.places xs in
      (λ h. t.0 (sym (i.node.looked_up m) ∙ h), λ h. i.node.looked_up m ∙ t.1 h)

  -- 3. and "not there" exactly if there is none
  pub not_there_exactly : (lookup s c m ≡ Ok None) ↔ All (λ x. x.0 ≡ m → ⊥) xs
  not_there_exactly =
      let t = none_found m i.node.fields.places xs (one_place_each (Shown d s) s k c xs i.node.fields) in
      (λ h. t.0 (sym (i.node.looked_up m) ∙ h), λ h. i.node.looked_up m ∙ t.1 h)
