-- A head, by what an item of its kind meets; and an item of which the kind tells the size.
use Rattle.std.specs.Prelude.{Result, Err, Ok}
use Prim.Native.Nat.{ℕ, ◌-◌, ◌≤◌, ◌<◌}
use native.Mathlib.Omega.{arith}
use mathlib.Core.Path.{◌≡◌, refl, sym, ap, ◌∙◌}
use mathlib.Core.List.{List, []}
use lib.ListN.{length}
use borrow.Author.Tests.{lt-ltb, le-ltb}
use Rattle.format.specs.declared.Kind.{Kind}
use Rattle.format.specs.declared.Form.{Form}
use Rattle.format.specs.declared.Form.TheVariants.{SharedItem}
use Rattle.format.specs.declared.Stop.{Stop}
use Rattle.format.specs.declared.Stop.TheVariants.{Early}
use Rattle.format.specs.declared.Class.{Class}
use Rattle.format.specs.declared.Class.TheVariants as C
use Rattle.faults.specs.declared.Modes.{Modes}
use Rattle.faults.specs.declared.Faults.{Faults}
use Rattle.format.specs.Parse.{Out, fault, got}
use Rattle.format.specs.Payload.{front, Head, value, fields_in, items_in, head, class_of}
use Rattle.front.specs.Code.{answer_of}
use Rattle.head.specs.Code.{heading_of, head_at, met_of, meet_at}
use Rattle.head.specs.Pieces.{fixed_in, fixed_size}
use Rattle.head.specs.declared.Met.TheVariants as M
use Rattle.head.specs.declared.Met.{Met}
use Rattle.leaves.specs.Pieces.{fixed_at}
use Rattle.leaves.specs.declared.Heading.TheVariants as H
use Rattle.leaves.specs.declared.Heading.{Heading}
use Rattle.head.proofs.HeadLaws.{head_is}
use Rattle.faults.proofs.NotedLaws.{noted_none}
use Rattle.head.proofs.MeetReturns.{meet_by}

-- ---- a head, by what an item of its kind meets

front_item : (k : Kind) (s : List ℕ) → front (SharedItem k) s ≡ got ([], k) [] s
unfolding front
front_item k s = refl

abbrev heading_in : Result Met Stop → Result Heading Stop
heading_in (Err j) = Err j
heading_in (Ok (M.Leaf k a b e v)) = Ok (H.Leaf e v)
heading_in (Ok (M.Fields k a b o c e v)) = Ok (H.Fields o c e v)
heading_in (Ok (M.Items k a b o w c e v)) = Ok (H.Items o w c e v)

abbrev item_of : Kind → ℕ → ℕ → Result Heading Stop → Result Met Stop
item_of k a b (Err j) = Err j
item_of k a b (Ok (H.Leaf e v)) = Ok (M.Leaf k a b e v)
item_of k a b (Ok (H.Fields o c e v)) = Ok (M.Fields k a b o c e v)
item_of k a b (Ok (H.Items o w c e v)) = Ok (M.Items k a b o w c e v)

meet_item : (k : Kind) (m : Modes) (g : Faults) (s : List ℕ)
    → meet_at (SharedItem k) m g s ≡ item_of k (length s - length s - 0) (length s - length s) (head_at k m g s)
unfolding head_at
meet_item k m g s = meet_by (SharedItem k) m g s [] k [] s (front_item k s) ∙ rw (noted_none m g) (at (head k s))
  where
    at : (o : Out Head) → answer_of Err (λ d v q. met_of k (length s - length s - 0) (length s - length s) d v (length s - length q)) m g o
        ≡ item_of k (length s - length s - 0) (length s - length s) (answer_of Err (λ d v q. heading_of d v (length s - length q)) m g o)
    at (fault i) = refl
    at (got (value c) fs r) = refl
    at (got (fields_in c d) fs r) = refl
    at (got (items_in c n d) fs r) = refl

head_item : (k : Kind) (m : Modes) (g : Faults) (s : List ℕ) → heading_in (meet_at (SharedItem k) m g s) ≡ head_at k m g s
head_item k m g s = ap heading_in (meet_item k m g s) ∙ at (head_at k m g s)
  where
    at : (y : Result Heading Stop) → heading_in (item_of k (length s - length s - 0) (length s - length s) y) ≡ y
    at (Err j) = refl
    at (Ok (H.Leaf e v)) = refl
    at (Ok (H.Fields o c e v)) = refl
    at (Ok (H.Items o w c e v)) = refl

-- an item of which the kind tells the size
module _ (k : Kind) (m : Modes) (g : Faults) (s : List ℕ) (n : ℕ) (e : fixed_size k ≡ n) (i : 0 < n) where
  fixed_class : class_of k ≡ C.Fixed n
  fixed_class = at (class_of k) e
    where
      at : (c : Class) → fixed_in c ≡ n → c ≡ C.Fixed n
      at (C.Fixed a) z = ap C.Fixed z
      at C.Text z = absurd (omega arith)
      at C.Positive z = absurd (omega arith)
      at C.Negative z = absurd (omega arith)
      at C.Wide z = absurd (omega arith)
      at (C.Behind o) z = absurd (omega arith)

  fixed_head : head_at k m g s ≡ fixed_at n g s
  fixed_head = rw (head_is k m g s, fixed_class)

  pub fixed_short : length s < n → Err Early ≡ meet_at (SharedItem k) m g s
  unfolding fixed_at
  fixed_short j = rw (meet_item k m g s, fixed_head, lt-ltb (length s) n j)

  pub fixed_long : n ≤ length s → Ok (M.Leaf k (length s - length s - 0) (length s - length s) n g) ≡ meet_at (SharedItem k) m g s
  unfolding fixed_at
  fixed_long j = rw (meet_item k m g s, fixed_head, le-ltb (length s) n j)

module _ (k : Kind) (m : Modes) (g : Faults) (s : List ℕ) (x : Result Met Stop) (e : x ≡ meet_at (SharedItem k) m g s) where
  by_item : (t : Result Met Stop) → x ≡ t → heading_in t ≡ head_at k m g s
  by_item t i = ap heading_in (sym i ∙ e) ∙ head_item k m g s

  pub item_stop : (j : Stop) → x ≡ Err j → Err j ≡ head_at k m g s
  item_stop j i = by_item (Err j) i

  pub item_leaf : (p : Met) (l : Kind) (a b n : ℕ) (v : Faults) → x ≡ Ok p → p ≡ M.Leaf l a b n v → Ok (H.Leaf n v) ≡ head_at k m g s
  item_leaf p l a b n v i j = by_item (Ok (M.Leaf l a b n v)) (i ∙ ap Ok j)

  pub item_fields : (p : Met) (l : Kind) (a b : ℕ) (o : Form) (c n : ℕ) (v : Faults) → x ≡ Ok p → p ≡ M.Fields l a b o c n v
      → Ok (H.Fields o c n v) ≡ head_at k m g s
  item_fields p l a b o c n v i j = by_item (Ok (M.Fields l a b o c n v)) (i ∙ ap Ok j)

  pub item_items : (p : Met) (l : Kind) (a b : ℕ) (o : Form) (w c n : ℕ) (v : Faults) → x ≡ Ok p → p ≡ M.Items l a b o w c n v
      → Ok (H.Items o w c n v) ≡ head_at k m g s
  item_items p l a b o w c n v i j = by_item (Ok (M.Items l a b o w c n v)) (i ∙ ap Ok j)

pub ruleset item_laws = (item_stop, item_leaf, item_fields, item_items)
