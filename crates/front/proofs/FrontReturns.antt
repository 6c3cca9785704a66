-- What the code of a front knows at each return, and what it answers there.
use Rattle.std.specs.Prelude.{Option, None, Some, Result, Err, Ok}
use Prim.Native.Nat.{ℕ, ◌+◌, ◌-◌, ◌≤◌, ◌<◌}
use native.Mathlib.Omega.{arith}
use mathlib.Core.Path.{◌≡◌, refl, sym, ap, ◌∙◌}
use mathlib.Core.Bool.{Bool, true, false, not, cond}
use mathlib.Core.List.{List, [], ◌∷◌}
use lib.ListN.{length, get_or}
use lib.Dec.{eqb, ltb}
use borrow.Author.Tests.{lt-ltb, le-ltb, ltb-false}
use Rattle.number.proofs.Clash.{clash}
use Rattle.number.specs.VarUInt.{var_uint, cut, whole}
use Rattle.number.proofs.NumberThenLaws.{number_all}
use Rattle.number.proofs.VarUIntLaws.{var_range}
use Rattle.text.specs.Utf8.{is_text}
use Rattle.format.specs.declared.Kind.{Kind}
use Rattle.format.specs.declared.Mark.{Mark}
use Rattle.format.specs.declared.Mark.TheVariants.{OfTop, OfField, OfItem}
use Rattle.format.specs.declared.Form.{Form}
use Rattle.format.specs.declared.Form.TheVariants.{Top, Field, Item, SharedField, SharedItem}
use Rattle.format.specs.declared.Stop.{Stop}
use Rattle.format.specs.declared.Stop.TheVariants.{Early, Unknown}
use Rattle.faults.specs.declared.Modes.{Modes}
use Rattle.faults.specs.declared.Faults.{Faults}
use Rattle.front.specs.declared.Span.{Span}
use Rattle.front.specs.declared.Front.{Front}
use Rattle.format.specs.Kinds.{kind_at}
use Rattle.format.specs.declared.Flaw.TheVariants.{Blank, Long, NotUtf8}
use Rattle.faults.specs.Noted.{noted, flaw_if}
use Rattle.front.specs.Code.{front_at}
use Rattle.front.specs.Between.{between}
use Rattle.front.specs.Pieces.{typed_at, span_at, text_of, text_at, named_at, plain_of, typed_of}
use Rattle.front.specs.Made.{span, front_read}
use Rattle.faults.proofs.NotedLaws.{unasked}
use Rattle.front.proofs.BetweenLaws.{Inside, part_length}
use Rattle.front.proofs.MadeLaws.{span_same}
use Rattle.std.specs.Option.{ok_or}
use Rattle.front.proofs.FrontLaws.{front_is}
use Rattle.number.specs.declared.Cut.{Cut}
use Rattle.number.specs.declared.VarUInt.{VarUInt}
use Rattle.number.specs.declared.Cut.{Cut}

-- ---- the type byte

pub type_none : (m : Mark) (s : List ℕ) → length s ≡ 0 → Err Early ≡ typed_at m s
unfolding typed_at
type_none m [] h = refl
type_none m (b ∷ s) h = absurd (omega arith)

pub type_some : (m : Mark) (s : List ℕ) (o : Option Kind) → (length s ≡ 0 → ⊥) → o ≡ kind_at m (get_or s 0 0) → typed_of o ≡ typed_at m s
unfolding typed_at
type_some m [] o h e = absurd (h refl)
type_some m (b ∷ s) o h e = ap typed_of e

pub type_told : (m : Mark) (s : List ℕ) (o : Option Kind) (r : Result Kind Stop) → (length s ≡ 0 → ⊥) → o ≡ kind_at m (get_or s 0 0) → r ≡ ok_or o Unknown
    → r ≡ typed_at m s
type_told m s None r h e z = z ∙ type_some m s None h e
type_told m s (Some k) r h e z = z ∙ type_some m s (Some k) h e

-- ---- a size

module _ (m : Modes) (g : Faults) (s : List ℕ) (x : Result VarUInt Cut) (e : x ≡ var_uint s) where
  pub span_cut : (c : Cut) → x ≡ Err c → Err Early ≡ span_at m g s
  unfolding span_at
  span_cut c z = rw (← e, z)

  module _ (w : VarUInt) (z : x ≡ Ok w) where
    pub span_in : w.length ≤ length s
    span_in = (var_range s w.value w.length w.minimal (sym e ∙ z)).2

    pub span_over : length s - w.length < w.value → Err Early ≡ span_at m g s
    unfolding span_at
    span_over l = rw (← e, z, lt-ltb (length s - w.length) w.value l)

    pub span_part : (h : Faults) → w.value ≤ length s - w.length → h ≡ noted m g (flaw_if (not w.minimal) Long)
        → span w.length (w.length + w.value) h ≡ span_at m g s
    unfolding span_at
    span_part h l y = rw (← e, z, le-ltb (length s - w.length) w.value l, y)

-- where a span lies
module _ (m : Modes) (g : Faults) (s : List ℕ) (x : Result Span Stop) (e : x ≡ span_at m g s) (p : Span) (z : x ≡ Ok p) where
  span_inside : Inside p.begin p.end s
  unfolding span_at
  span_inside =
      number_all (λ o. Ok p ≡ o → Inside p.begin p.end s) (Err Early) _ s (λ y. clash cc)
      (λ v n u t y. fits v n (noted m g (flaw_if (not u) Long)) (ltb (length s - n) v) (var_range s v n u t).2 refl y) (sym z ∙ e)
    where
      fits : (v n : ℕ) (f : Faults) (c : Bool) → n ≤ length s → ltb (length s - n) v ≡ c
          → Ok p ≡ cond c (Err Early) (span n (n + v) f) → Inside p.begin p.end s
      fits v n f true l t y = clash cc
      fits v n f false l t y =
          let at : (p.begin ≡ n) × (p.end ≡ n + v) = span_same y in
          let from : p.begin ≡ n = at.0 in
          let to : p.end ≡ n + v = at.1 in
          record { order = omega arith; within = omega (arith, ltb-false (length s - n) v t) }

  pub span_order : p.begin ≤ p.end
  span_order = span_inside.order

  pub span_within : p.end ≤ length s
  span_within = span_inside.within

-- ---- text

module _ (m : Modes) (g : Faults) (s : List ℕ) (x : Result Span Stop) (e : x ≡ span_at m g s) where
  pub text_stop : (k : Stop) → x ≡ Err k → Err k ≡ text_at m g s
  unfolding text_at
  text_stop k z = rw (← e, z)

  module _ (p : Span) (z : x ≡ Ok p) where
    pub text_looked : (u : Bool) (f : Faults) → u ≡ is_text (between p.begin p.end s) → f ≡ noted m p.faults (flaw_if (not u) NotUtf8)
        → span p.begin p.end f ≡ text_at m g s
    unfolding text_at
    text_looked u f y w = rw (← e, z, w, y)

    pub text_passed : m.format ≡ false → Ok p ≡ text_at m g s
    unfolding text_at
    text_passed y = rw (← e, z, unasked m p.faults (not (is_text (between p.begin p.end s))) NotUtf8 y)

-- where a text lies
module _ (m : Modes) (g : Faults) (s : List ℕ) (x : Result Span Stop) (e : x ≡ text_at m g s) (p : Span) (z : x ≡ Ok p) where
  text_inside : Inside p.begin p.end s
  unfolding text_at
  text_inside = at (span_at m g s) refl (sym z ∙ e)
    where
      at : (o : Result Span Stop) → span_at m g s ≡ o → Ok p ≡ text_of m s o → Inside p.begin p.end s
      at (Err k) t y = clash cc
      at (Ok r) t y =
          let same : (p.begin ≡ r.begin) × (p.end ≡ r.end) = span_same y in
          let from : p.begin ≡ r.begin = same.0 in
          let to : p.end ≡ r.end = same.1 in
          record {
            order = omega (arith, span_order m g s (Ok r) (sym t) r refl);
            within = omega (arith, span_within m g s (Ok r) (sym t) r refl);
          }

  pub text_order : p.begin ≤ p.end
  text_order = text_inside.order

  pub text_within : p.end ≤ length s
  text_within = text_inside.within

-- ---- a name

module _ (k : Kind) (from : ℕ) (m : Modes) (g : Faults) (s : List ℕ) (x : Result Span Stop) (e : x ≡ text_at m g (between from (length s) s)) where
  pub named_stop : (j : Stop) → x ≡ Err j → Err j ≡ named_at k from m g s
  unfolding named_at
  named_stop j z = rw (← e, z)

  pub named_read : (p : Span) (f : Faults) → x ≡ Ok p → f ≡ noted m p.faults (flaw_if (eqb p.begin p.end) Blank)
      → front_read k (from + p.begin) (from + p.end) f ≡ named_at k from m g s
  unfolding named_at
  named_read p f z w = rw (← e, z, w)

-- where it stands in the whole part
module _ (from : ℕ) (m : Modes) (g : Faults) (s : List ℕ) (x : Result Span Stop) (l : from ≤ length s) (e : x ≡ text_at m g (between from (length s) s))
    (p : Span) (z : x ≡ Ok p) where
  pub named_end : from + p.end ≤ length s
  named_end =
      let n : length (between from (length s) s) ≡ length s - from = part_length from (length s) s (record { order = l; within = omega arith }) in
      omega (arith, text_within m g (between from (length s) s) x e p z)

  pub named_start : from + p.begin ≤ length s
  named_start = omega (arith, named_end, text_order m g (between from (length s) s) x e p z)

-- ---- a front

module _ (g : Faults) (s : List ℕ) (mark : Mark) (x : Result Kind Stop) (e : x ≡ typed_at mark s) where
  pub plain_stop : (j : Stop) → x ≡ Err j → Err j ≡ plain_of g (typed_at mark s)
  plain_stop j z = rw (← e, z)

  pub plain_read : (k : Kind) → x ≡ Ok k → front_read k 1 1 g ≡ plain_of g (typed_at mark s)
  plain_read k z = rw (← e, z)

module _ (f : Form) (m : Modes) (g : Faults) (s : List ℕ) (r : Result Front Stop) where
  pub front_top : f ≡ Top → r ≡ plain_of g (typed_at OfTop s) → r ≡ front_at f m g s
  front_top z w = rw (z, front_is Top m g s) w

  pub front_item : f ≡ Item → r ≡ plain_of g (typed_at OfItem s) → r ≡ front_at f m g s
  front_item z w = rw (z, front_is Item m g s) w

  pub front_shared : (k : Kind) → f ≡ SharedField k → r ≡ named_at k 0 m g s → r ≡ front_at f m g s
  front_shared k z w = rw (z, front_is (SharedField k) m g s) w

  pub front_field : (x : Result Kind Stop) (k : Kind) → f ≡ Field → x ≡ typed_at OfField s → x ≡ Ok k → r ≡ named_at k 1 m g s → r ≡ front_at f m g s
  front_field x k z e y w = rw (z, front_is Field m g s, ← e, y) w

pub front_bare : (f : Form) (m : Modes) (g : Faults) (s : List ℕ) (k : Kind) → f ≡ SharedItem k → front_read k 0 0 g ≡ front_at f m g s
front_bare f m g s k z = rw (z, front_is (SharedItem k) m g s)

pub front_stop : (f : Form) (m : Modes) (g : Faults) (s : List ℕ) (x : Result Kind Stop) (j : Stop) → f ≡ Field → x ≡ typed_at OfField s → x ≡ Err j
    → Err j ≡ front_at f m g s
front_stop f m g s x j z e y = rw (z, front_is Field m g s, ← e, y)

pub typed_some : (m : Mark) (s : List ℕ) (x : Result Kind Stop) (k : Kind) → x ≡ typed_at m s → x ≡ Ok k → 1 ≤ length s
unfolding typed_at
typed_some m [] x k e z = clash cc
typed_some m (b ∷ s) x k e z = omega arith

-- ---- what the search goes by

pub ruleset type_laws = (type_none, type_told)

pub ruleset span_laws = (span_cut, span_in, span_over, span_part)

pub ruleset text_laws = (span_order, span_within, text_stop, text_looked, text_passed)

pub ruleset named_laws = (named_stop, named_read, named_start, named_end)

pub ruleset plain_laws = (plain_stop, plain_read)

pub ruleset front_laws = (front_top, front_item, front_shared, front_field, front_bare, front_stop, typed_some)
