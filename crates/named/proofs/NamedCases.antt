-- A field with its name: what the code knows at each return, and what the answer says of the field and of where its name stands.
use Rattle.std.specs.Prelude.{Result, Ok, Err}
use Prim.Native.Nat.{ℕ, zero, suc, ◌-◌, ◌≤◌, ◌<◌}
use native.Mathlib.Omega.{arith}
use mathlib.Core.Path.{◌≡◌, refl, sym, ap, ◌∙◌, subst}
use mathlib.Core.List.{List}
use lib.ListN.{length, drop, length-drop}
use lib.Seq.{length-take-le}
use Rattle.number.proofs.Clash.{clash}
use Rattle.format.specs.declared.Kind.{Kind}
use Rattle.format.specs.declared.Form.{Form}
use Rattle.format.specs.declared.Stop.{Stop}
use Rattle.format.specs.declared.Stop.TheVariants.{TooDeep}
use Rattle.faults.specs.declared.Modes.{Modes}
use Rattle.faults.specs.declared.Faults.{Faults}
use Rattle.format.specs.Parse.{Out, fault, got}
use Rattle.format.specs.Payload.{Head, value, fields_in, items_in}
use Rattle.front.specs.Between.{between}
use Rattle.front.specs.Code.{answer_of}
use Rattle.front.proofs.BetweenLaws.{rest_all}
use Rattle.head.specs.Code.{meeting, met_of, met_in, meet_at}
use Rattle.head.specs.declared.Met.TheVariants as M
use Rattle.head.specs.declared.Met.{Met}
use Rattle.names.specs.FieldNames as names
use Rattle.names.proofs.NameFound.{name_is}
use Rattle.contents.specs.declared.Field.{Field}
use Rattle.contents.specs.Contents.{closed}
use Rattle.contents.specs.Made.{field_read}
use Rattle.contents.proofs.MadeLaws.{field_same}
use Rattle.checks.specs.Checks.{field_at, contents_at}
use Rattle.checks.proofs.FieldCases.{field_by, field_view, field_deep, field_stop, field_leaf, field_fields, field_items, fields_in_law, items_in_law}
use Rattle.named.specs.Named.{name_in, start_in, named_by, named_at, field_in, Kept}
use Rattle.named.specs.Made.{named_read}
use Rattle.named.specs.declared.Named.{Named}

between_short : (s : List ℕ) (b e : ℕ) → b ≤ e → e ≤ length s → length s < 16777216 → length (between b e s) < 16777216
between_short s b e l m k = omega (arith, length-take-le (e - b) (drop b s) (omega (arith, length-drop b s)))

pub rest_short : (s : List ℕ) (a : ℕ) → length s < 16777216 → length (between a (length s) s) < 16777216
rest_short s a k = rw (rest_all a s) (omega (arith, length-drop a s))

pub kept : (t : List ℕ) → Kept t t
kept t = record { is = refl }

-- the length alone
pub kept_length : (t t' : List ℕ) → Kept t t' → length t' ≡ length t
kept_length t t' w = w.is

-- ---- the returns

pub named_deep : (f : Form) (m : Modes) (g : Faults) (s : List ℕ) (d : ℕ) → d ≡ 0 → Err TooDeep ≡ named_at f m d g s
unfolding named_at
named_deep f m g s d e = ap (named_by (name_in (meet_at f m g s)) (start_in (meet_at f m g s))) (field_deep f m g s d e)

module _ (f : Form) (m : Modes) (g : Faults) (s : List ℕ) (x : Result Met Stop) (anew : x ≡ meet_at f m g (between 0 (length s) s)) where
  met : x ≡ meet_at f m g s
  met = rw (rest_all 0 s) at anew

  named_of_law : (u : Result Met Stop) → x ≡ u → (l : ℕ) (v : Result Field Stop) → v ≡ field_at f m l g s → named_by (name_in u) (start_in u) v ≡ named_at f m l g s
  unfolding named_at
  named_of_law u i l v h =
      let z : u ≡ meet_at f m g s = sym i ∙ met in
      ap (λ (y : Result Met Stop). named_by (name_in y) (start_in y) v) z ∙ ap (named_by (name_in (meet_at f m g s)) (start_in (meet_at f m g s))) h

  -- contents are shorter than 16777216 bytes, as their part is
  pub fields_short : (k : Kind) (a b : ℕ) (o : Form) (c n : ℕ) (v : Faults) → x ≡ Ok (M.Fields k a b o c n v) → length s < 16777216
      → length (between c n s) < 16777216
  fields_short k a b o c n v i j = let w = fields_in_law f m g s x anew k a b o c n v i in between_short s c n w.0 w.1 j

  pub items_short : (k : Kind) (a b : ℕ) (o : Form) (w c n : ℕ) (v : Faults) → x ≡ Ok (M.Items k a b o w c n v) → length s < 16777216
      → length (between c n s) < 16777216
  items_short k a b o u c n v i j = let w = items_in_law f m g s x anew k a b o u c n v i in between_short s c n w.0 w.1 j

  module _ (l d : ℕ) (z : l ≡ suc d) where
    pub named_stop : (j : Stop) → x ≡ Err j → Err j ≡ named_at f m l g s
    named_stop j i = named_of_law (Err j) i l (Err j) (field_stop f m g s x anew l d z j i)

    pub named_leaf : (k : Kind) (a b n : ℕ) (v : Faults) → x ≡ Ok (M.Leaf k a b n v) → named_read k n v a b ≡ named_at f m l g s
    named_leaf k a b n v i = named_of_law (Ok (M.Leaf k a b n v)) i l (field_read k n v) (field_leaf f m g s x anew l d z k a b n v i)

    pub named_fields : (k : Kind) (a b : ℕ) (o : Form) (c n : ℕ) (v : Faults) → x ≡ Ok (M.Fields k a b o c n v)
        → (y : Result Faults Stop) → y ≡ contents_at (fields_in o (between c n s)) m d v → (r : Result Named Stop) → r ≡ named_by a b (closed k n y) → r ≡ named_at f m l g s
    named_fields k a b o c n v i y j r t =
        t ∙ named_of_law (Ok (M.Fields k a b o c n v)) i l (closed k n y) (field_fields f m g s x anew l d z k a b o c n v i y j (closed k n y) refl)

    pub named_items : (k : Kind) (a b : ℕ) (o : Form) (w c n : ℕ) (v : Faults) → x ≡ Ok (M.Items k a b o w c n v)
        → (y : Result Faults Stop) → y ≡ contents_at (items_in o w (between c n s)) m d v → (r : Result Named Stop) → r ≡ named_by a b (closed k n y) → r ≡ named_at f m l g s
    named_items k a b o w c n v i y j r t =
        t ∙ named_of_law (Ok (M.Items k a b o w c n v)) i l (closed k n y) (field_items f m g s x anew l d z k a b o w c n v i y j (closed k n y) refl)

-- ---- what the answer says

field_in_law : (a b : ℕ) (v : Result Field Stop) → field_in (named_by a b v) ≡ v
field_in_law a b (Err j) = refl
field_in_law a b (Ok p) = refl

-- where contents or a leaf end, the name is told so
met_ended : (m : Modes) (d : ℕ) (s : List ℕ) (u : Result Met Stop) (w : Field) → field_by m d s u ≡ Ok w
    → names.name_of u ≡ names.ended_at (name_in u) (start_in u) w.end
met_ended m d s (Err j) w i = clash cc
met_ended m d s (Ok (M.Leaf k a b n v)) w i = let z : w.end ≡ n = (field_same w (field_read k n v) (sym i)).1 in rw z
met_ended m d s (Ok (M.Fields k a b o c n v)) w i = go (contents_at (fields_in o (between c n s)) m d v) i
  where
    go : (y : Result Faults Stop) → closed k n y ≡ Ok w → names.ended_at a b n ≡ names.ended_at a b w.end
    go (Err j) i = clash cc
    go (Ok h) i = let z : w.end ≡ n = (field_same w (field_read k n h) (sym i)).1 in rw z
met_ended m d s (Ok (M.Items k a b o x c n v)) w i = go (contents_at (items_in o x (between c n s)) m d v) i
  where
    go : (y : Result Faults Stop) → closed k n y ≡ Ok w → names.ended_at a b n ≡ names.ended_at a b w.end
    go (Err j) i = clash cc
    go (Ok h) i = let z : w.end ≡ n = (field_same w (field_read k n h) (sym i)).1 in rw z

name_told : (f : Form) (m : Modes) (g : Faults) (s : List ℕ) (d : ℕ) (w : Field) → field_at f m d g s ≡ Ok w
    → names.name_of (meet_at f m g s) ≡ names.ended_at (name_in (meet_at f m g s)) (start_in (meet_at f m g s)) w.end
name_told f m g s zero w i = let z : Err TooDeep ≡ Ok w = field_deep f m g s 0 refl ∙ i in clash cc
name_told f m g s (suc d) w i = met_ended m d s (meet_at f m g s) w (field_view f m g s d ∙ i)

-- a name lies in its part
name_in_law : (f : Form) (m : Modes) (g : Faults) (s : List ℕ) → (name_in (meet_at f m g s) ≤ length s) × (start_in (meet_at f m g s) ≤ length s)
unfolding meet_at
name_in_law f m g s = at (meeting f s)
  where
    by : (k : Kind) (a b : ℕ) (d : Head) (h : Faults) (e : ℕ) → a ≤ length s → b ≤ length s
        → (name_in (met_of k a b d h e) ≤ length s) × (start_in (met_of k a b d h e) ≤ length s)
    by k a b (value v) h e p q = (p, q)
    by k a b (fields_in o c) h e p q = (p, q)
    by k a b (items_in o n c) h e p q = (p, q)

    at : (o : Out ((List ℕ × Kind) × (List ℕ × Head)))
        → (name_in (answer_of Err (met_in (length s)) m g o) ≤ length s) × (start_in (answer_of Err (met_in (length s)) m g o) ≤ length s)
    at (fault k) = (omega arith, omega arith)
    at (got x fs r) = by x.0.1 _ _ x.1.1 _ _ (omega arith) (omega arith)

-- where its name begins and its payload starts
abbrev Stands : Named → Result Named Stop → Type 0
Stands p (Err j) = Unit {0}
Stands p (Ok q) = (p.name ≡ q.name) × (p.start ≡ q.start)

module _ (f : Form) (m : Modes) (g : Faults) (s : List ℕ) (d : ℕ) (x : Result Named Stop) (e : x ≡ named_at f m d g s) where
  pub named_field : field_in x ≡ field_at f m d g s
  unfolding named_at
  named_field = ap field_in e ∙ field_in_law _ _ (field_at f m d g s)

  module _ (p : Named) (i : x ≡ Ok p) where
    named_told : field_at f m d g s ≡ field_read p.kind p.end p.faults
    named_told = sym named_field ∙ ap field_in i

    places : (p.name ≡ name_in (meet_at f m g s)) × (p.start ≡ start_in (meet_at f m g s))
    unfolding named_at
    places = go (field_at f m d g s) (sym i ∙ e)
      where
        go : (v : Result Field Stop) → Ok p ≡ named_by (name_in (meet_at f m g s)) (start_in (meet_at f m g s)) v
            → (p.name ≡ name_in (meet_at f m g s)) × (p.start ≡ start_in (meet_at f m g s))
        go (Err j) i = clash cc
        go (Ok q) i = subst (Stands p) i (refl, refl)

    pub named_inside : (p.name ≤ length s) × (p.start ≤ length s)
    named_inside = let o = places in let q = name_in_law f m g s in (omega (arith, o.0, q.0), omega (arith, o.1, q.1))

    pub named_place : names.name_in (length s) (meeting f s) ≡ names.ended_at p.name p.start p.end
    named_place =
        let o = places in
        sym (name_is f m g s) ∙ name_told f m g s d (record { kind = p.kind; end = p.end; faults = p.faults }) named_told ∙ rw (← o.0, ← o.1)

pub ruleset field_laws = (kept, rest_short, named_deep)
