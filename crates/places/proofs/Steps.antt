-- The walk: stepping meets the fields that the reader reads, one after another; and lookup among them.
use Rattle.std.specs.Prelude.{Option, Some, Ok, None, Result}
use Prim.Native.Nat.{ℕ, zero, suc, ◌+◌, ◌-◌, ◌≤◌, ◌<◌}
use native.Mathlib.Omega.{arith}
use mathlib.Core.Path.{◌≡◌, refl, ap, ◌∙◌}
use mathlib.Core.Bool.{Bool, true, false, cond}
use mathlib.Core.List.{List, [], ◌∷◌}
use lib.ListN.{length}
use lib.Seq.{slice}
use borrow.Author.Tests.{le-ltb, eq-eqb, ne_eqb}
use Rattle.text.specs.Equal.{equal}
use Rattle.format.specs.declared.Kind.{Kind}
use Rattle.format.specs.declared.Form.{Form}
use Rattle.places.specs.declared.Place.{Place}
use Rattle.places.specs.declared.PlaceError.{PlaceError}
use Rattle.format.specs.Limits.{depth_limit}
use Rattle.format.specs.declared.Flaw.{Flaw}
use Rattle.format.specs.Parse.{got}
use Rattle.format.specs.Payload.{Payload}
use Rattle.format.specs.Reader.{Standing, Named, Layout, read}
use Rattle.places.specs.Places.{met, meet, from, step_in, step, name_view, look_at, look_from}
use Rattle.places.specs.Show.{Before, Walk, first_of, Shown}
use Rattle.places.specs.Made.{step_met}
use Rattle.format.proofs.Back.{never}
use Rattle.format.proofs.HeadParts.{Full}
use Rattle.places.proofs.Parts.{Part, part_slice}
use Rattle.places.proofs.FieldBytes.{Stood}
use Rattle.places.proofs.Runs.{Run}
use Rattle.places.proofs.ReadPlaces.{ReadAt, field_met}

-- ---- a place at which a field of d levels was read

abbrev pub Read : (d : ℕ) → List ℕ → Place → Standing (Layout d) → Type 0
Read zero s c x = ⊥
Read (suc d) s c x = ReadAt d s c x

-- ---- in a container whose contents b end where it ends

module _ (s : List ℕ) (c : Place) (how : Payload) (f : Form) (b : List ℕ) (full : Full f) (turn : (j : Kind) (n w : List ℕ) → Stood f j n w → Before how j n w)
    (ok : (l : Option Place) → step s c l ≡ step_in s c f (c.end - length b) (from (c.end - length b) l)) where
  step_ends : (l : Option Place) → from (c.end - length b) l ≡ c.end → step s c l ≡ Ok None
  step_ends l e = simp (ok l, e, le-ltb c.end (c.end - length b) (omega arith), le-ltb c.end c.end (omega arith), eq-eqb c.end c.end refl)

  step_meets : (l : Option Place) (at : ℕ) (r : List ℕ) (m : List ℕ) (q : Place) (n : ℕ) (fs : List Flaw) (u : List ℕ) → from (c.end - length b) l ≡ at
      → c.end - length b ≤ at → at < c.end
      → slice at c.end s ≡ r → c.depth + 1 ≤ depth_limit → met (c.depth + 1) c.end f r ≡ got (m, q) fs u
      → q.start - length m ≡ n → step s c l ≡ step_met q n
  unfolding meet
  step_meets l at r m q n fs u e h k i d g j =
      simp (
        ok l,
        e,
        le-ltb at (c.end - length b) h,
        le-ltb c.end at (omega arith),
        ne_eqb at c.end (λ z. omega arith),
        i,
        le-ltb depth_limit (c.depth + 1) d,
        g,
        j,
      )

  pub walk : (d : ℕ) → ((p : Place) (y : Standing (Layout d)) → Read d s p y → Shown d s p y)
      → (l : Option Place) (at : ℕ) (r : List ℕ) (xs : List (Named (Standing (Layout d)))) → d + c.depth ≡ depth_limit
      → Run (read d f) r xs → Part s at r → at + length r ≡ c.end → c.end - length b ≤ at → from (c.end - length b) l ≡ at
      → (ps : List Place) × Walk (Shown d s) s c how at l ps xs
  unfolding read name_view
  walk d rec l at r [] dl run pr el h e =
      let z : length r ≡ 0 = ap length run in
      let y : at ≡ c.end = omega arith in
      ([], (step_ends l (e ∙ y), y))
  walk zero rec l at r (x ∷ xs) dl run pr el h e = never run.2
  walk (suc d) rec l at r (x ∷ xs) dl run pr el h e =
      let i = field_met d s (c.depth + 1) c.end f at r x run.0 run.1 full pr el (omega arith) (omega arith) run.2 in
      let t = step_meets l at r x.0 i.place i.name_start i.flaws run.1 e h (omega (arith, i.left, i.some_byte)) (part_slice c.end r pr el)
      (omega arith) i.meets i.name_is in
      let j = walk (suc d) rec (Some i.place) i.place.end run.1 xs dl run.3 i.after i.left (omega (arith, i.some_byte)) refl in (
        i.place ∷ j.0,
        (
          record {
            name_start = i.name_start;
            stepped = t;
            named = rw t i.named;
            deeper = i.deeper;
            before = turn x.1.0 x.0 (slice at i.name_start s) i.before;
            begins = i.begins;
            then_name = i.then_name;
            name_ends = i.name_ends;
            then_payload = i.then_payload;
            within = omega (arith, i.left);
            some_byte = i.some_byte;
            shown = rec i.place x.1 i.good;
          },
          j.1,
        ),
      )

-- ---- lookup

module _ {A : Type 0} (P : Place → Standing A → Type 0) (s : List ℕ) (c : Place) (how : Payload) where
  pub walk_few : (a : ℕ) (l : Option Place) (ps : List Place) (xs : List (Named (Standing A))) → Walk P s c how a l ps xs → length ps + a ≤ c.end
  walk_few a l [] [] h = omega arith
  walk_few a l [] (x ∷ xs) h = absurd h
  walk_few a l (q ∷ ps) [] h = absurd h
  walk_few a l (q ∷ ps) (x ∷ xs) h = omega (arith, h.0.some_byte, walk_few q.end (Some q) ps xs h.1)

  pub look : (m : List ℕ) (a : ℕ) (ps : List Place) (xs : List (Named (Standing A))) (n : ℕ) (l : Option Place) → length ps < n → Walk P s c how a l ps xs
      → look_from n s c m l ≡ first_of m ps xs
  unfolding name_view
  look m a ps xs zero l h w = absurd (omega arith)
  look m a [] [] (suc n) l h w = rw w.0
  look m a [] (x ∷ xs) (suc n) l h w = absurd w
  look m a (q ∷ ps) [] (suc n) l h w = absurd w
  look m a (q ∷ ps) (x ∷ xs) (suc n) l h w =
      let e : slice w.0.name_start q.start s ≡ x.0 = rw w.0.stepped at w.0.named in
      rw (w.0.stepped, look_at, e) (go (look m q.end ps xs n (Some q) (omega arith) w.1) (equal x.0 m))
    where
      go : look_from n s c m (Some q) ≡ first_of m ps xs → (b : Bool)
          → (elim b as (λ _. Result (Option Place) PlaceError) [ true ↦ Ok (Some q) | false ↦ look_from n s c m (Some q) ])
          ≡ cond b (Ok (Some q)) (first_of m ps xs)
      go h true = refl
      go h false = h
