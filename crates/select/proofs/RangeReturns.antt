-- What the code answers of a name at a position, and of a range of names, at each return.
use Rattle.std.specs.Prelude.{Option, None}
use Prim.Native.Nat.{ℕ, ◌≤◌, ◌<◌}
use mathlib.Core.Path.{◌≡◌, sym, ap, ◌∙◌}
use mathlib.Core.Bool.{Bool, true, false}
use mathlib.Core.List.{List}
use borrow.Author.Tests.{le-leb, lt-leb}
use Rattle.std.proofs.Common.{Option, None, Some}
use Rattle.std.specs.declared.cmp.Ordering.{Ordering}
use Rattle.std.specs.declared.cmp.Ordering.TheVariants.{Less, Equal, Greater}
use Rattle.std.specs.Ordering.{is_gt, is_le}
use Rattle.format.specs.declared.Form.{Form}
use Rattle.names.specs.FieldNames.{name_at}
use Rattle.passing.specs.FrameNames as frames
use Rattle.entries.specs.Entry.{begin_in, name_in}
use Rattle.compare.specs.Order.{order}
use Rattle.select.specs.declared.Source.{Source}
use Rattle.select.specs.declared.Source.TheVariants as S
use Rattle.select.specs.Source.{named_at}
use Rattle.select.specs.Range.{above, up_to, wanted}
use Rattle.names.specs.declared.Name.{Name}

-- ---- the name at a position

pub of_field : (o : Source) (s : List ℕ) (a : ℕ) (f : Form) → o ≡ S.Fields f → (r : Option Name) → r ≡ name_at f a s → r ≡ named_at o a s
of_field o s a f e r i = i ∙ rw e

module _ (o : Source) (s : List ℕ) (a d p : ℕ) (e : o ≡ S.Frames d p) where
  pub of_frame : a ≤ p → (r : Option Name) → r ≡ frames.name_at d a s → r ≡ named_at o a s
  of_frame l r h = rw (e, le-leb a p l) h

  pub of_none : p < a → None ≡ named_at o a s
  of_none l = rw (e, lt-leb a p l)

-- ---- a range

module _ (s : List ℕ) (b : Option ℕ) (x : ℕ) where
  pub above_open : b ≡ None → true ≡ above s b x
  above_open h = rw h

  pub upto_open : b ≡ None → true ≡ up_to s b x
  upto_open h = rw h

  module _ (y : ℕ) (h : b ≡ Some y) (o : Ordering) (e : o ≡ order (name_in s x) (name_in s y)) where
    by_more : (w : Ordering) → o ≡ w → is_gt w ≡ above s b x
    by_more w i = rw h (ap is_gt (sym i ∙ e))

    by_upto : (w : Ordering) → o ≡ w → is_le w ≡ up_to s b x
    by_upto w i = rw h (ap is_le (sym i ∙ e))

    pub above_less : o ≡ Less → false ≡ above s b x
    above_less i = by_more Less i

    pub above_same : o ≡ Equal → false ≡ above s b x
    above_same i = by_more Equal i

    pub above_beyond : o ≡ Greater → true ≡ above s b x
    above_beyond i = by_more Greater i

    pub upto_less : o ≡ Less → true ≡ up_to s b x
    upto_less i = by_upto Less i

    pub upto_same : o ≡ Equal → true ≡ up_to s b x
    upto_same i = by_upto Equal i

    pub upto_beyond : o ≡ Greater → false ≡ up_to s b x
    upto_beyond i = by_upto Greater i

module _ (s : List ℕ) (low high : Option ℕ) (stop x n : ℕ) (e : n ≡ begin_in x) where
  pub wanted_late : stop ≤ n → false ≡ wanted s low high stop x
  unfolding wanted
  wanted_late l = rw (le-leb stop (begin_in x) (rw e at l))

  module _ (l : n < stop) (a : Bool) (i : a ≡ above s low x) where
    pub wanted_over : a ≡ true → (r : Bool) → r ≡ up_to s high x → r ≡ wanted s low high stop x
    unfolding wanted
    wanted_over h r j = j ∙ rw (lt-leb stop (begin_in x) (rw e at l), sym i ∙ h)

    pub wanted_under : a ≡ false → false ≡ wanted s low high stop x
    unfolding wanted
    wanted_under h = rw (lt-leb stop (begin_in x) (rw e at l), sym i ∙ h)
