-- A view is a part of the payload: of any place that passes its check, and of every field that steps reach, leaf or container. What `Seen` says,
-- specs/Views.antt has.
use Rattle.std.specs.Prelude.{Ok, Err, Option, None, Some, Result}
use Prim.Native.Nat.{ℕ, zero, suc, ◌+◌, ◌-◌, ◌≤◌}
use native.Mathlib.Omega.{arith}
use mathlib.Core.Path.{◌≡◌, refl, sym, ap, ◌∙◌, subst}
use mathlib.Core.Logic.{◌⊎◌, inl, inr}
use mathlib.Core.Bool.{Bool, true, not, cond}
use mathlib.Core.List.{List, [], ◌∷◌, ◌++◌, map, append_assoc}
use lib.ListN.{length, take, drop, length-append, length-drop, take-append-drop}
use lib.Seq.{slice, length-slice}
use Rattle.number.specs.VarUInt.{var_uint, whole}
use Rattle.number.proofs.NumberThenLaws.{number_all}
use Rattle.number.proofs.VarUIntLaws.{var_range, var_local}
use Rattle.format.specs.declared.Kind.{Kind}
use Rattle.format.specs.declared.Kind.TheVariants.{Object, UniformObject, Array, UniformArray}
use Rattle.format.specs.declared.Mark.TheVariants.{SharedByFields, SharedByItems}
use Rattle.format.specs.declared.Stop.{Stop}
use Rattle.places.specs.declared.Place.{Place}
use Rattle.format.specs.Kinds.{id, known, has_size, type_byte}
use Rattle.format.specs.declared.Flaw.{Flaw}
use Rattle.format.specs.declared.Flaw.TheVariants.{Long}
use Rattle.format.specs.Parse.{Out, fault, got, read_var_uint, raise}
use Rattle.format.specs.Tree.{Node, atom, array, object}
use Rattle.format.specs.Payload.{Payload, leaf, fields, shared_fields, items, shared_items, payload, Head}
use Rattle.format.specs.Reader.{Standing, Named, Layout, kinds_in}
use Rattle.format.specs.Mask.{mask, bounds_only}
use Rattle.places.specs.Places.{check, checked_of, checked, top, step, name_in, name_view, taken, size_length, part_of, part, view_of, view}
use Rattle.places.specs.Show.{Reads, Opens, ShownFields, ShownNode, Shown, unnamed}
use Rattle.places.specs.Stepping.{place_at}
use Rattle.places.specs.Views.{Between, ContainerView, NodeView, FieldView, Seen}
use Rattle.places.specs.Made.{part_at, step_met}
use Rattle.places.specs.declared.PlaceError.TheVariants.{WrongKind, Fault}
use Rattle.places.specs.declared.Field.{Field}
use Rattle.places.specs.declared.PlaceError.{PlaceError}
use Rattle.format.proofs.Lists.{append_nil}
use Rattle.format.proofs.Back.{never}
use Rattle.format.proofs.KindLaws.{known_rt}
use Rattle.format.proofs.Local.{raise_got}
use Rattle.places.proofs.Parts.{part_is, part_right, part_slice, slice_join}
use Rattle.places.proofs.ReadPlaces.{size_le}
use Rattle.places.proofs.Steps.{walk_few}
use Rattle.places.proofs.PassedPlaces.{check_passed, slice_part}
use Rattle.places.proofs.Siblings.{reached}
use Rattle.number.proofs.Clash.{clash}

-- ---- any payload and any place, forged or not

-- a place that is refused has an empty view, and its part is refused with the fault of the check
pub refused_view : (s : List ℕ) (p : Place) (k : Stop) → checked s p ≡ Err k → (part s p ≡ Err k) × (view s p ≡ [])
unfolding checked part view
refused_view s p k h = at (check s p) h
  where
    at : (o : Out Head) → checked_of o ≡ Err k → (part_of s p o ≡ Err k) × (view_of s (part_of s p o) ≡ [])
    at (fault j) h = let z : j ≡ k = cc in (ap Err z, refl)
    at (got x fs r) h = clash (cc)

-- the name that a step meets is a part of the payload, up to the field's start; any other answer of the step has an empty one
pub name_viewed : (s : List ℕ) (c : Place) (last : Option Place) (q : Place) (a : ℕ) → step s c last ≡ step_met q a → name_view s c last ≡ slice a q.start s
unfolding name_view
name_viewed s c last q a h = rw h

pub refused_name_view : (s : List ℕ) (c : Place) (last : Option Place) → ((q : Place) (a : ℕ) → step s c last ≡ step_met q a → ⊥) → name_view s c last ≡ []
unfolding name_view
refused_name_view s c last h = at (step s c last) refl
  where
    at : (o : Result (Option Field) PlaceError) → step s c last ≡ o → name_in s o ≡ []
    at (Ok (Some p)) e = absurd (h p.place p.name e)
    at (Ok None) e = refl
    at (Err WrongKind) e = refl
    at (Err (Fault k)) e = refl

-- the part of a place that passes
pub record GoodView (s : List ℕ) (p : Place) : Type 0 where
  pub from : ℕ
  pub begins : from ≡ p.start + size_length (known p.kind) (slice p.start p.end s)
  pub is_part : part s p ≡ part_at from p.end
  pub inside : (p.start ≤ from) × (from ≤ p.end) × (p.end ≤ length s)
  pub is_view : view s p ≡ slice from p.end s

pub good_view : (s : List ℕ) (p : Place) → checked s p ≡ Ok tt → GoodView s p
unfolding checked part view
good_view s p h = at (check s p) refl h
  where
    at : (o : Out Head) → check s p ≡ o → checked_of o ≡ Ok tt → GoodView s p
    at (fault k) e h = clash (cc)
    at (got x fs r) e h =
        let i = check_passed s p e in
        let n = size_length (known p.kind) (slice p.start p.end s) in
        let l : n ≤ length (slice p.start p.end s) = rw i.is_known (size_le i.kind (slice p.start p.end s)) in
        record {
          from = p.start + n;
          begins = refl;
          is_part = rw e;
          inside = (omega arith, omega (arith, length-slice p.start p.end s i.inside, i.order), i.inside);
          is_view = rw e;
        }

-- ---- a size, whatever follows it

size_taken : (w x : List ℕ) (n : ℕ) → Reads read_var_uint w n → taken (var_uint (w ++ x)) ≡ length w
unfolding read_var_uint
size_taken w x n r = number_all (λ o. o ≡ got n r.0 [] → taken (var_uint (w ++ x)) ≡ length w) _ _ w never go r.1
  where
    go : (v k : ℕ) (m : Bool) → var_uint w ≡ whole v k m → raise (not m) Long (got v [] (drop k w)) ≡ got n r.0 [] → taken (var_uint (w ++ x)) ≡ length w
    go v k m e h = raise_got (not m) Long (got v [] (drop k w)) h λ gs j.
        let z : drop k w ≡ [] = cc in
        let t : take k w ≡ w = sym (append_nil (take k w)) ∙ ap (λ y. take k w ++ y) (sym z) ∙ take-append-drop k w in
        let i = var_range w v k m e in
        let f : var_uint (w ++ x) ≡ whole v k m = ap (λ y. var_uint (y ++ x)) (sym t) ∙ var_local w v k m e x in
        rw f (omega (arith, i.2, sym (length-drop k w) ∙ ap length z))

-- ---- a container

abbrev Split : Payload → List Kind → ℕ → List ℕ → Type 0
Split how ks e b = (w i : List ℕ) × (b ≡ w ++ i) × Reads read_var_uint w (length i + e) × Between how ks i

opens_split : (how : Payload) (ks : List Kind) (e : ℕ) (b : List ℕ) → Opens how ks e b → Split how ks e b
opens_split (leaf p) ks e b o = absurd o
opens_split fields ks e b o = let z : e ≡ 0 + e = omega arith in (b, [], sym (append_nil b), subst (Reads read_var_uint b) z o, refl)
opens_split shared_fields ks e b (w, j, h, r, a) =
    let z : suc e ≡ 1 + e = omega arith in
    (w, type_byte SharedByFields j ∷ [], h, subst (Reads read_var_uint w) z r, (j, refl, a))
opens_split items ks e b o = o
opens_split shared_items ks e b (w, n, j, h, r, c, a) =
    let i = n ++ (type_byte SharedByItems j ∷ []) in
    let z : length n + suc e ≡ length i + e = omega (arith, length-append n (type_byte SharedByItems j ∷ [])) in
    (w, i, h, subst (Reads read_var_uint w) z r, (n, j, refl, c, a))

module _ {A : Type 0} (P : Place → Standing A → Type 0) (s : List ℕ) (k : Kind) (c : Place) (xs : List (Named (Standing A))) where
  fields_viewed : (f : ShownFields P s k c xs) → has_size k ≡ true → c.kind ≡ id k → {h : Head} {fs : List Flaw} {r : List ℕ} → check s c ≡ got h fs r
      → ContainerView s k c (kinds_in xs)
  unfolding part view
  fields_viewed f size coded {h} {fs} {r} e =
      let l : f.contents ≤ c.end = omega (arith, walk_few P s c (payload k) f.contents None f.places xs f.walk) in
      let i = check_passed s c e in
      let o = opens_split (payload k) (kinds_in xs) (c.end - f.contents) (slice c.start f.contents s) f.opens in
      let w = o.0 in
      let b = o.1 in
      let t = slice f.contents c.end s in
      let all : slice c.start c.end s ≡ w ++ (b ++ t) =
      sym (slice_join c.start f.contents c.end s f.inside l) ∙ ap (λ y. y ++ t) o.2 ∙ append_assoc w b t in
      let n : size_length (known c.kind) (slice c.start c.end s) ≡ length w =
      rw (coded, known_rt k, size, all) (size_taken w (b ++ t) (length b + (c.end - f.contents)) o.3) in
      let len : length (slice c.start c.end s) ≡ length w + length (b ++ t) = ap length all ∙ length-append w (b ++ t) in
      let v : slice (c.start + length w) c.end s ≡ b ++ t =
      part_slice c.end (b ++ t) (part_right w (b ++ t) (part_is (slice_part s c.start c.end i.order i.inside) all))
      (omega (arith, len, length-slice c.start c.end s i.inside, i.order)) in
      let vl : length b + (c.end - f.contents) ≡ length (b ++ t) = omega (arith, length-append b t, length-slice f.contents c.end s i.inside) in
      let vw : view s c ≡ b ++ t = rw (e, n) v in
      record {
        size = w;
        between = b;
        opening = rw f.starts o.2;
        is_between = o.4;
        is_part = rw (e, n);
        is_view = rw f.starts vw;
        size_is = subst (Reads read_var_uint w) (vl ∙ ap length (sym vw)) o.3;
      }

good_check : {X : Type 0} (s : List ℕ) (c : Place) → checked s c ≡ Ok tt → ((h : Head) (fs : List Flaw) (r : List ℕ) → check s c ≡ got h fs r → X) → X
unfolding checked
good_check {X} s c g k = at (check s c) refl g
  where
    at : (o : Out Head) → check s c ≡ o → checked_of o ≡ Ok tt → X
    at (fault j) e h = clash (cc)
    at (got h fs r) e g = k h fs r e

array_size : (k : Kind) → (k ≡ Array) ⊎ (k ≡ UniformArray) → has_size k ≡ true
unfolding has_size
array_size k (inl e) = rw e
array_size k (inr e) = rw e

object_size : (k : Kind) → (k ≡ Object) ⊎ (k ≡ UniformObject) → has_size k ≡ true
unfolding has_size
object_size k (inl e) = rw e
object_size k (inr e) = rw e

node_viewed : (d : ℕ) (s : List ℕ) (k : Kind) (c : Place) (t : Node (Standing (Layout d))) → c.kind ≡ id k → checked s c ≡ Ok tt
    → ShownNode (Shown d s) s k c t → NodeView s k c t
node_viewed d s k c (atom v) e g i = i.viewed
node_viewed d s k c (array xs) e g i =
    good_check s c g λ h fs r j. fields_viewed (Shown d s) s k c (map unnamed xs) i.items (array_size k i.is_array) e j
node_viewed d s k c (object xs) e g i = good_check s c g λ h fs r j. fields_viewed (Shown d s) s k c xs i.fields (object_size k i.is_object) e j

-- ---- along a path

-- behind the size, by the field's own kind
begins_by : (s : List ℕ) (c : Place) (k : Kind) (a : ℕ) → c.kind ≡ id k → a ≡ c.start + size_length (known c.kind) (slice c.start c.end s)
    → a ≡ c.start + cond (has_size k) (taken (var_uint (slice c.start c.end s))) 0
begins_by s c k a e h = h ∙ ap (λ o. c.start + size_length o (slice c.start c.end s)) (ap known e ∙ known_rt k)

seen : (s : List ℕ) (c : Place) (d : ℕ) (x : Standing (Layout d)) → Shown d s c x
    → (v : GoodView s c) × FieldView d s c x × (v.from ≡ c.start + cond (has_size x.0) (taken (var_uint (slice c.start c.end s))) 0)
seen s c zero x i = absurd i
seen s c (suc d) x i =
    let v = good_view s c i.no_fault in
    (v, node_viewed d s x.0 c x.1 i.kind i.no_fault i.node, begins_by s c x.0 v.from i.kind v.begins)

-- In any payload that the bounds check passes, at every place that steps from the top reach along a path
pub every_view : (s : List ℕ) → mask bounds_only s ≡ 0 → (t : Place) → top s ≡ Ok t → (path name : List ℕ) (c : Place)
    → place_at path s ([], t) ≡ Some (name, c) → Seen path s c
every_view s h t e path name c p = reached s h t e path name c p λ x f n i.
    let v = seen s c x.0 x.1.1 i in
    record { from = v.0.from; is_part = v.0.is_part; inside = v.0.inside; is_view = v.0.is_view; field = x; is_field = f; begins = v.2; shows = v.1 }
