-- Where a field's name stands in a part, and what the code's answers at a position say of it.
use Rattle.std.specs.Prelude.{Err, Ok, Result, Some, None, Option}
use Rattle.std.specs.Result.{result_ok}
use Prim.Native.Nat.{ℕ, ◌+◌, ◌-◌, ◌≤◌, ◌<◌}
use native.Mathlib.Omega.{arith}
use mathlib.Core.Path.{◌≡◌, refl, sym, ap, ◌∙◌}
use mathlib.Core.Bool.{Bool, true, false, cond}
use mathlib.Core.List.{List, [], ◌∷◌, ◌++◌, append_assoc}
use lib.ListN.{length, drop, length-append, length-drop, drop_of_length-le}
use lib.Seq.{take_at, drop_at, drop-drop}
use lib.Dec.{eqb}
use borrow.Author.Tests.{le-ltb, eqb-true, eqb-false}
use Rattle.number.proofs.Clash.{clash}
use Rattle.format.specs.declared.Kind.{Kind}
use Rattle.format.specs.declared.Form.{Form}
use Rattle.faults.specs.declared.Modes.{Modes}
use Rattle.faults.specs.declared.Faults.{Faults}
use Rattle.format.specs.declared.Flaw.{Flaw}
use Rattle.format.specs.declared.Stop.{Stop}
use Rattle.format.specs.Parse.{Out, fault, got}
use Rattle.format.specs.Payload.{front, Head, value, fields_in, items_in, head}
use Rattle.front.specs.Code.{answer_of}
use Rattle.head.specs.Code.{meeting, met_of, met_in, meet_at}
use Rattle.front.specs.Between.{between}
use Rattle.format.proofs.Local.{bind_got}
use Rattle.format.proofs.HeadParts.{local_head, Fronted, front_takes}
use Rattle.front.proofs.BetweenLaws.{end_drop, rest_all}
use Rattle.names.specs.FieldNames.{names_after, field_names, ended_at, name_of, name_in, behind, name_at}
use Rattle.names.specs.Made.{name_met}
use Rattle.names.proofs.MadeLaws.{name_same}
use Rattle.names.proofs.NameBound.{names_step, met_first}
use Rattle.head.specs.declared.Met.{Met}
use Rattle.names.specs.declared.Name.{Name}

met_parts : (f : Form) (s : List ℕ) {x : (List ℕ × Kind) × (List ℕ × Head)} {fs : List Flaw} {r : List ℕ} → meeting f s ≡ got x fs r
    → Fronted s x.0 x.1.0 × ((u : List ℕ) × (x.1.0 ≡ u ++ r))
met_parts f s {x} {fs} {r} h = bind_got (front f s) _ h λ y es q gs e i _. bind_got (head y.1 q) _ i λ d es' q' gs' e' i' _.
    let z : x ≡ (y, (q, d)) = cc in
    let v : q' ≡ r = cc in
    let l = local_head y.1 q d es' q' e' in
    rw z ((front_takes f s e).0, (l.0, l.1 ∙ ap (λ t. l.0 ++ t) v))

-- a name that is found in a part: where it stands, where the next field stands, and the names from here on
pub record Found (f : Form) (s : List ℕ) (a b e n : ℕ) : Type 0 where
  pub ordered : b ≤ e
  pub before : e ≤ n
  pub inside : n ≤ length s
  pub onward : a < n
  pub names : field_names f (drop a s) ≡ between b e s ∷ field_names f (drop n s)

-- at the front: behind w stands the name m, then q, whose end is r
found_front : (f : Form) (s : List ℕ) (w m q u r : List ℕ) → s ≡ w ++ (m ++ q) → q ≡ u ++ r → length r < length s → field_names f s ≡ m ∷ field_names f r
    → Found f s 0 (length s - length q - length m) (length s - length q) (length s - length r)
found_front f s w m q u r e i l j =
    let x : length s ≡ length w + (length m + length q) = simp length-append at (ap length e) in
    let y : length q ≡ length u + length r = simp length-append at (ap length i) in
    let b : length s - length q - length m ≡ length w = omega arith in
    let d : length s - length q - length w ≡ length m = omega arith in
    let k : between (length w) (length s - length q) s ≡ m = rw (d, e, drop_at w (m ++ q) (length w) refl, take_at m q (length m) refl) in
    let h : s ≡ (w ++ (m ++ u)) ++ r = rw (append_assoc w (m ++ u) r, append_assoc m u r, ← i) e in
    record { ordered = omega arith; before = omega arith; inside = omega arith; onward = omega arith; names = rw (b, k, end_drop s (w ++ (m ++ u)) r h) j }

name_none : (f : Form) (s : List ℕ) → name_in (length s) (meeting f s) ≡ None → field_names f s ≡ []
name_none f s h = names_step f s ∙ at (meeting f s) h
  where
    at : (o : Out ((List ℕ × Kind) × (List ℕ × Head))) → name_in (length s) o ≡ None → names_after (length s) o (field_names f) ≡ []
    at (fault k) h = refl
    at (got x fs r) h = go (eqb (length s - length r) 0) refl h
      where
        go : (t : Bool) → eqb (length s - length r) 0 ≡ t
            → cond t None (name_met (length s - length x.1.0 - length x.0.0) (length s - length x.1.0) (length s - length r)) ≡ None
            → names_after (length s) (got x fs r) (field_names f) ≡ []
        go true q h = rw (le-ltb (length r) (length s) (omega (arith, eqb-true (length s - length r) 0 q)))
        go false q h = clash cc

pub name_found_law : (f : Form) (s : List ℕ) {b e n : ℕ} → name_in (length s) (meeting f s) ≡ name_met b e n → Found f s 0 b e n
name_found_law f s {b} {e} {n} h = at (meeting f s) refl h
  where
    at : (o : Out ((List ℕ × Kind) × (List ℕ × Head))) → meeting f s ≡ o → name_in (length s) o ≡ name_met b e n → Found f s 0 b e n
    at (fault k) y h = clash cc
    at (got x fs r) y h = go (eqb (length s - length r) 0) refl h
      where
        go : (t : Bool) → eqb (length s - length r) 0 ≡ t
            → cond t None (name_met (length s - length x.1.0 - length x.0.0) (length s - length x.1.0) (length s - length r)) ≡ name_met b e n
            → Found f s 0 b e n
        go true q h = clash cc
        go false q h =
            let p = met_parts f s y in
            let l : length r < length s = omega (arith, eqb-false (length s - length r) 0 q) in
            let z = name_same h in
            rw (← z.0, ← z.1, ← z.2) (found_front f s p.0.0 x.0.0 x.1.0 p.1.0 r p.0.1 p.1.1 l (met_first f s y l))

-- ---- the name at a position

pub name_is : (f : Form) (m : Modes) (g : Faults) (s : List ℕ) → name_of (meet_at f m g s) ≡ name_in (length s) (meeting f s)
unfolding meet_at
name_is f m g s = at (meeting f s)
  where
    by : (k : Kind) (a b : ℕ) (d : Head) (h : Faults) (e : ℕ) → name_of (met_of k a b d h e) ≡ ended_at a b e
    by k a b (value v) h e = refl
    by k a b (fields_in o c) h e = refl
    by k a b (items_in o n c) h e = refl

    at : (o : Out ((List ℕ × Kind) × (List ℕ × Head))) → name_of (answer_of Err (met_in (length s)) m g o) ≡ name_in (length s) o
    at (fault k) = refl
    at (got x fs r) = by x.0.1 _ _ x.1.1 _ _

-- what the code knows of the field at a: what was met, and its name
module _ (f : Form) (m : Modes) (g : Faults) (s : List ℕ) (a : ℕ) (x : Result Met Stop) (e : x ≡ meet_at f m g (between a (length s) s)) (o : Option Met)
    (w : o ≡ result_ok x) where
  met_name : name_of x ≡ name_in (length (drop a s)) (meeting f (drop a s))
  met_name = rw (rest_all a s) at (ap name_of e ∙ name_is f m g (between a (length s) s))

  behind_name : behind a (name_of x) ≡ name_at f a s
  unfolding name_at
  behind_name = ap (behind a) met_name

  pub name_unmet : (r : Option Name) → o ≡ None → r ≡ None → r ≡ name_at f a s
  name_unmet r z v = v ∙ go x (sym z ∙ w) ∙ behind_name
    where
      go : (x : Result Met Stop) → None ≡ result_ok x → None ≡ behind a (name_of x)
      go (Err j) h = refl
      go (Ok t) h = clash cc

  module _ (t : Met) (z : o ≡ Some t) (y : Option Name) (i : y ≡ name_of (Ok t)) where
    of_met : y ≡ name_of x
    of_met = i ∙ go x (sym z ∙ w)
      where
        go : (x : Result Met Stop) → Some t ≡ result_ok x → name_of (Ok t) ≡ name_of x
        go (Err j) h = clash cc
        go (Ok u) h = let v : t ≡ u = cc in ap (λ u. name_of (Ok u)) v

    pub name_unnamed : (r : Option Name) → y ≡ None → r ≡ None → r ≡ name_at f a s
    name_unnamed r v h = h ∙ ap (behind a) (sym v ∙ of_met) ∙ behind_name

    module _ (p : Name) (v : y ≡ Some p) where
      pub name_at_some : name_met (a + p.begin) (a + p.end) (a + p.next) ≡ name_at f a s
      name_at_some = ap (behind a) (sym v ∙ of_met) ∙ behind_name

      pub name_at_inside : a ≤ length s → (p.begin ≤ p.next) × (p.end ≤ p.next) × (a + p.next ≤ length s)
      name_at_inside l =
          let w = name_found_law f (drop a s) (sym met_name ∙ sym of_met ∙ v) in
          (omega arith, omega arith, omega (arith, length-drop a s))

-- at the end and behind it
pub name_at_past : (f : Form) (s : List ℕ) (a : ℕ) → length s ≤ a → None ≡ name_at f a s
unfolding name_at
name_at_past f s a l = rw (drop_of_length-le s {i = a} l) (at (meeting f []))
  where
    at : (o : Out ((List ℕ × Kind) × (List ℕ × Head))) → None ≡ behind a (name_in 0 o)
    at (fault k) = refl
    at (got x fs r) = rw (let z : 0 - length r ≡ 0 = omega arith in z)

module _ (f : Form) (s : List ℕ) (a : ℕ) (x : Option Name) (e : x ≡ name_at f a s) where
  pub none_at : x ≡ None → field_names f (drop a s) ≡ []
  unfolding name_at
  none_at z = name_none f (drop a s) (at (name_in (length (drop a s)) (meeting f (drop a s))) (sym e ∙ z))
    where
      at : (y : Option Name) → behind a y ≡ None → y ≡ None
      at None h = refl
      at (Some p) h = clash cc

  pub found_at : a ≤ length s → (p : Name) → x ≡ Some p → Found f s a p.begin p.end p.next
  unfolding name_at
  found_at l p z = at (name_in (length (drop a s)) (meeting f (drop a s))) refl (sym e ∙ z)
    where
      at : (y : Option Name) → name_in (length (drop a s)) (meeting f (drop a s)) ≡ y → behind a y ≡ Some p → Found f s a p.begin p.end p.next
      at None h i = clash cc
      at (Some q) h i =
          let w = name_found_law f (drop a s) h in
          let z = name_same i in
          let d : a + q.end - (a + q.begin) ≡ q.end - q.begin = omega arith in
          rw (← z.0, ← z.1, ← z.2)
          (record {
            ordered = omega arith;
            before = omega arith;
            inside = omega (arith, length-drop a s);
            onward = omega arith;
            names = rw (d, ← drop-drop q.begin a s, ← drop-drop q.next a s) w.names;
          })
