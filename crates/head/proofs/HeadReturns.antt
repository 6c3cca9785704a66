-- What the code of a head knows at each return, and what it answers there.
use Rattle.std.specs.Prelude.{Option, None, Some, Result, Err, Ok}
use Prim.Native.Nat.{ℕ, ◌+◌, ◌-◌, ◌≤◌, ◌<◌}
use native.Mathlib.Omega.{arith}
use mathlib.Core.Path.{◌≡◌, sym, ◌∙◌}
use mathlib.Core.Bool.{Bool, true, false, not}
use mathlib.Core.List.{List}
use lib.ListN.{length, get_or}
use borrow.Author.Tests.{lt-ltb, le-ltb}
use Rattle.number.specs.VarUInt.{var_uint, cut, whole}
use Rattle.number.proofs.VarUIntLaws.{var_range}
use Rattle.format.specs.declared.Kind.{Kind}
use Rattle.format.specs.declared.Mark.TheVariants.{SharedByFields, SharedByItems}
use Rattle.format.specs.declared.Form.TheVariants.{Field, Item, SharedField, SharedItem}
use Rattle.format.specs.declared.Stop.{Stop}
use Rattle.format.specs.declared.Stop.TheVariants.{Early, Unknown, BadUniform}
use Rattle.faults.specs.declared.Modes.{Modes}
use Rattle.faults.specs.declared.Faults.{Faults}
use Rattle.format.specs.declared.Class.{Class}
use Rattle.format.specs.declared.Class.TheVariants as C
use Rattle.format.specs.declared.Inner.{Inner}
use Rattle.format.specs.declared.Inner.TheVariants as I
use Rattle.format.specs.Kinds.{kind_at, is_bare}
use Rattle.format.specs.declared.Flaw.TheVariants.{Long, Wide}
use Rattle.faults.specs.Noted.{noted, flaw_if}
use Rattle.head.specs.Code.{head_at}
use Rattle.front.specs.Between.{between}
use Rattle.front.specs.Pieces.{span_at, text_at}
use Rattle.format.specs.Payload.{class_of}
use Rattle.head.specs.Pieces.{fixed_size, count_of, shared_fields_of, shared_items_of, shared_count_of, inside_of, head_by}
use Rattle.leaves.specs.Pieces.{fixed_at, positive_of, negative_of, double_at, leaf_of, id_of, name_of}
use Rattle.leaves.specs.declared.Heading.TheVariants as H
use Rattle.leaves.specs.declared.Heading.{Heading}
use Rattle.front.proofs.BetweenLaws.{part_length, part_cons, part_none, part_rest}
use Rattle.head.proofs.HeadLaws.{head_is}
use Rattle.number.specs.declared.VarUInt.{VarUInt}
use Rattle.number.specs.declared.Cut.{Cut}
use Rattle.front.specs.declared.Span.{Span}
use Rattle.front.specs.Made.{span}

-- ---- behind a count

module _ (a b : ℕ) (s : List ℕ) (i : a ≤ b) (w : b ≤ length s) (x : Result VarUInt Cut) (e : x ≡ var_uint (between a b s)) (v : VarUInt)
    (z : x ≡ Ok v) where
  pub count_in_law : a + v.length ≤ b
  count_in_law = omega (arith, (var_range (between a b s) v.value v.length v.minimal (sym e ∙ z)).2, part_length a b s (record { order = i; within = w }))

  pub shared_whole : (m : Modes) (g h : Faults) (r : Result Heading Stop) → h ≡ noted m g (flaw_if (not v.minimal) Long)
      → r ≡ shared_items_of h v.value (a + v.length) b (between (a + v.length) b s)
      → r ≡ shared_count_of m g a b (between a b s) (var_uint (between a b s))
  shared_whole m g h r y k = rw (← e, z, ← y, part_rest a b v.length s) k

-- ---- by the class

module _ (k : Kind) (m : Modes) (g : Faults) (s : List ℕ) (c : Class) (r : Result Heading Stop) (e : c ≡ class_of k) where
  by : (d : Class) → c ≡ d → r ≡ head_by d m g s → r ≡ head_at k m g s
  by d z w = rw (head_is k m g s, ← e, z) w

  pub head_fixed : (n : ℕ) → c ≡ C.Fixed n → r ≡ fixed_at n g s → r ≡ head_at k m g s
  head_fixed n z w = by (C.Fixed n) z w

  pub head_text : c ≡ C.Text → r ≡ leaf_of (text_at m g s) → r ≡ head_at k m g s
  head_text z w = by C.Text z w

  pub head_positive : c ≡ C.Positive → r ≡ positive_of m g (var_uint s) → r ≡ head_at k m g s
  head_positive z w = by C.Positive z w

  pub head_negative : c ≡ C.Negative → r ≡ negative_of m g (var_uint s) → r ≡ head_at k m g s
  head_negative z w = by C.Negative z w

  pub head_wide : c ≡ C.Wide → r ≡ double_at m g s → r ≡ head_at k m g s
  head_wide z w = by C.Wide z w

  pub head_behind : (i : Inner) → c ≡ C.Behind i → r ≡ inside_of i m s (span_at m g s) → r ≡ head_at k m g s
  head_behind i z w = by (C.Behind i) z w

pub ruleset head_laws = (head_fixed, head_text, head_positive, head_negative, head_wide, head_behind)
