-- Stepping meets each field wholly inside its container, and no two siblings overlap: for every payload that the bounds check passes, and every place that
-- steps from its top reach. What `Inside` says, specs/Siblings.antt has.
use Rattle.std.specs.Prelude.{Ok, Option, Some, None, Err}
use Prim.Native.Nat.{ℕ, zero, suc, ◌≤◌, ◌<◌}
use native.Mathlib.Omega.{arith}
use mathlib.Core.Path.{◌≡◌, sym, ap, ◌∙◌, subst}
use mathlib.Core.List.{List, [], ◌∷◌, map}
use lib.ListN.{length}
use lib.Seq.{slice_empty}
use Rattle.number.specs.BigEndian.{All}
use Rattle.format.specs.declared.Kind.{Kind}
use Rattle.places.specs.declared.Place.{Place}
use Rattle.format.specs.Limits.{depth_limit}
use Rattle.format.specs.Tree.{Node, atom, array, object}
use Rattle.format.specs.Payload.{Payload, payload}
use Rattle.format.specs.Reader.{Standing, Named, Layout}
use Rattle.format.specs.Mask.{mask, bounds_only}
use Rattle.places.specs.Places.{top, step}
use Rattle.places.specs.Show.{Walk, ShownFields, ShownNode, Shown, unnamed}
use Rattle.places.specs.Stepping.{nth, fields_of, Reached, onward, field_at, step_to, place_at, Agree}
use Rattle.places.specs.Contents.{contents_start}
use Rattle.places.specs.Siblings.{places_from, places_in, field_in, field_count, count_in, Inside, InTurn}
use Rattle.format.proofs.Lists.{all_of}
use Rattle.places.proofs.Steps.{walk_few}
use Rattle.places.proofs.WalkFacts.{walk_each, walk_ranges, walk_fills, walk_apart}
use Rattle.places.proofs.Walk.{every_field_shown, every_field_reached}
use Rattle.places.proofs.PassedPlaces.{check_passed}
use Rattle.places.proofs.StepFields.{wrong_leaf}
use Rattle.number.proofs.Clash.{clash}
use Rattle.places.specs.declared.PlaceError.TheVariants.{WrongKind}

-- ---- a walk's places are those that steps meet

module _ {A : Type 0} (P : Place → Standing A → Type 0) (s : List ℕ) (c : Place) (how : Payload) where
  walk_places : (n a : ℕ) (l : Option Place) (ps : List Place) (xs : List (Named (Standing A))) → length ps < n → Walk P s c how a l ps xs
      → places_from n s c l ≡ ps
  walk_places zero a l ps xs h w = absurd (omega arith)
  walk_places (suc n) a l [] [] h w = rw w.0
  walk_places (suc n) a l [] (x ∷ xs) h w = absurd w
  walk_places (suc n) a l (q ∷ ps) [] h w = absurd w
  walk_places (suc n) a l (q ∷ ps) (x ∷ xs) h w = rw (w.0.stepped, walk_places n q.end (Some q) ps xs (omega arith) w.1)

  walk_nth : (i a : ℕ) (l : Option Place) (ps : List Place) (xs : List (Named (Standing A))) → Walk P s c how a l ps xs
      → nth i ps ≡ onward (λ q. Some q.1) (step_to i s c l)
  walk_nth zero a l [] [] w = rw w.0
  walk_nth (suc i) a l [] [] w = rw w.0
  walk_nth i a l [] (x ∷ xs) w = absurd w
  walk_nth i a l (q ∷ ps) [] w = absurd w
  walk_nth zero a l (q ∷ ps) (x ∷ xs) w = rw w.0.stepped
  walk_nth (suc i) a l (q ∷ ps) (x ∷ xs) w = rw w.0.stepped (walk_nth i q.end (Some q) ps xs w.1)

  walk_payloads : (a : ℕ) (l : Option Place) (ps : List Place) (xs : List (Named (Standing A))) → Walk P s c how a l ps xs
      → All (λ q. (a ≤ q.start) × (q.start ≤ q.end) × (q.end ≤ c.end)) ps
  walk_payloads a l [] [] w = tt
  walk_payloads a l [] (x ∷ xs) w = absurd w
  walk_payloads a l (q ∷ ps) [] w = absurd w
  walk_payloads a l (q ∷ ps) (x ∷ xs) w = (
    (omega (arith, w.0.begins, w.0.then_name), w.0.then_payload, w.0.within),
    all_of _ _ (λ r j. (omega (arith, j.0, w.0.some_byte), j.1, j.2)) ps (walk_payloads q.end (Some q) ps xs w.1),
  )

  walk_turn : (a : ℕ) (l : Option Place) (ps : List Place) (xs : List (Named (Standing A))) → Walk P s c how a l ps xs → InTurn a ps
  walk_turn a l [] [] w = tt
  walk_turn a l [] (x ∷ xs) w = absurd w
  walk_turn a l (q ∷ ps) [] w = absurd w
  walk_turn a l (q ∷ ps) (x ∷ xs) w = (omega (arith, w.0.begins, w.0.then_name), w.0.then_payload, walk_turn q.end (Some q) ps xs w.1)

-- ---- at a place

module _ {A : Type 0} (P : Place → Standing A → Type 0) (path s : List ℕ) (k : Kind) (c : Place) (xs : List (Named (Standing A))) where
  fields_laid : (f : ShownFields P s k c xs) → onward count_in (field_in path s) ≡ Some (length xs) → Inside path s c
  unfolding places_in
  fields_laid f n =
      let e = f.starts in
      let few = walk_few P s c (payload k) f.contents None f.places xs f.walk in
      let ps : places_in s c ≡ f.places = walk_places P s c (payload k) (suc c.end) f.contents None f.places xs (omega arith) f.walk in
      let r = walk_ranges P s c (payload k) f.contents None f.places xs f.walk in
      record {
        one_place_each = n ∙ ap Some (sym (walk_each P s c (payload k) f.contents None f.places xs f.walk) ∙ ap length (sym ps));
        each_by_steps = λ i. rw ps (walk_nth P s c (payload k) i f.contents None f.places xs f.walk);
        contents_inside = rw e (f.inside, omega arith);
        fields_inside = rw (ps, e) r.0;
        payloads_inside = rw (ps, e) (walk_payloads P s c (payload k) f.contents None f.places xs f.walk);
        payloads_in_turn = rw (ps, e) (walk_turn P s c (payload k) f.contents None f.places xs f.walk);
        fields_apart = rw (ps, e) r.1;
        payloads_apart = rw ps (walk_apart P s c (payload k) f.contents None f.places xs f.walk);
        nothing_left_out = rw (ps, e) (walk_fills P s c (payload k) f.contents None f.places xs f.walk);
      }

-- a leaf has no fields, and nothing in it is one's
leaf_laid : (path s : List ℕ) (c : Place) → step s c None ≡ Err WrongKind → onward count_in (field_in path s) ≡ Some 0 → Inside path s c
unfolding places_in contents_start
leaf_laid path s c w n = wrong_leaf s c None w λ v fs r e.
    let ps : places_in s c ≡ [] = rw w in
    let st : contents_start s c ≡ c.end = rw e in
    record {
      one_place_each = n ∙ ap (λ (l : List Place). Some (length l)) (sym ps);
      each_by_steps = λ i. rw ps (none_left i);
      contents_inside = rw st ((check_passed s c e).order, omega arith);
      fields_inside = rw ps tt;
      payloads_inside = rw ps tt;
      payloads_in_turn = rw ps tt;
      fields_apart = rw ps tt;
      payloads_apart = rw ps tt;
      nothing_left_out = rw (ps, st) (sym (slice_empty c.end s));
    }
  where
    none_left : (i : ℕ) → None ≡ onward (λ q. Some q.1) (step_to i s c None)
    none_left zero = rw w
    none_left (suc i) = rw w

field_laid : (path s : List ℕ) (c : Place) (d : ℕ) (x : Standing (Layout d)) → Shown d s c x
    → onward count_in (field_in path s) ≡ Some (field_count d x) → Inside path s c
field_laid path s c zero x i n = absurd i
field_laid path s c (suc d) x i n = at x.1 i.node n
  where
    at : (t : Node (Standing (Layout d))) → ShownNode (Shown d s) s x.0 c t → onward count_in (field_in path s) ≡ Some (length (fields_of t)) → Inside path s c
    at (atom v) j n = leaf_laid path s c (j.no_step None) n
    at (array xs) j n = fields_laid (Shown d s) path s x.0 c (map unnamed xs) j.items n
    at (object xs) j n = fields_laid (Shown d s) path s x.0 c xs j.fields n

-- ---- along a path

-- a place that steps reach shows the field that the reader has there
pub reached : {X : Type 0} (s : List ℕ) → mask bounds_only s ≡ 0 → (t : Place) → top s ≡ Ok t → (path name : List ℕ) (c : Place)
    → place_at path s ([], t) ≡ Some (name, c) → ((x : Reached) → field_in path s ≡ Some x → name ≡ x.1.0 → Shown x.0 s c x.1.1 → X) → X
reached {X} s h t e path name c p k =
    let i = every_field_shown s h in
    let z : t ≡ i.place = (let y : Ok t ≡ Ok i.place = sym e ∙ i.is_top in cc) in
    at (field_at path depth_limit ([], (i.kind, i.layout))) (rw i.was_read) (place_at path s ([], i.place)) (ap (λ q. place_at path s ([], q)) (sym z) ∙ p)
    (every_field_reached s i path)
  where
    at : (o : Option Reached) → field_in path s ≡ o → (q : Option (Named Place)) → q ≡ Some (name, c) → Agree s o q → X
    at None f None g a = clash (cc)
    at None f (Some q) g a = absurd a
    at (Some x) f None g a = absurd a
    at (Some x) f (Some q) g a =
        let y : q ≡ (name, c) = cc in
        k x f (ap (λ (r : Named Place). r.0) (sym y) ∙ a.0) (subst (λ (r : Named Place). Shown x.0 s r.1 x.1.1) y a.1)

-- In any payload that the bounds check passes, at every place that steps from the top reach along a path
pub stepping_inside : (s : List ℕ) → mask bounds_only s ≡ 0 → (t : Place) → top s ≡ Ok t → (path name : List ℕ) (c : Place)
    → place_at path s ([], t) ≡ Some (name, c) → Inside path s c
stepping_inside s h t e path name c p = reached s h t e path name c p λ x f n i. field_laid path s c x.0 x.1.1 i (ap (onward count_in) f)
