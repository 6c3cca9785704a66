-- A payload that has to fill its part: what the code knows at each return.
use Rattle.std.specs.Prelude.{Result, Err, Ok}
use Prim.Native.Nat.{ℕ, ◌+◌, ◌-◌, ◌≤◌, ◌<◌}
use native.Mathlib.Omega.{arith}
use mathlib.Core.Path.{◌≡◌, refl, sym, ap, ◌∙◌, subst}
use mathlib.Core.Bool.{cond}
use mathlib.Core.List.{List, [], ◌∷◌}
use lib.ListN.{length, length-append}
use lib.Dec.{ltb}
use borrow.Author.Tests.{lt-ltb, le-ltb}
use Rattle.format.specs.declared.Kind.{Kind}
use Rattle.format.specs.declared.Form.{Form}
use Rattle.format.specs.declared.Stop.{Stop}
use Rattle.format.specs.declared.Stop.TheVariants.{Early}
use Rattle.faults.specs.declared.Modes.{Modes}
use Rattle.faults.specs.declared.Faults.{Faults}
use Rattle.format.specs.Parse.{Out, fault, got, whole}
use Rattle.format.specs.Payload.{Head, value, fields_in, items_in, head}
use Rattle.front.specs.Code.{answer_of}
use Rattle.head.specs.Code.{heading_of, head_at}
use Rattle.format.proofs.Local.{local_le}
use Rattle.format.proofs.HeadParts.{local_head, head_body}
use Rattle.open.specs.Code.{end_of}
use Rattle.open.specs.Opening.{opened_by}
use Rattle.open.specs.declared.Opened.TheVariants as O
use Rattle.open.specs.declared.Opened.{Opened}
use Rattle.leaves.specs.declared.Heading.TheVariants as H
use Rattle.leaves.specs.declared.Heading.{Heading}

-- by its head, in a part of n bytes from a on
abbrev opened_at : ℕ → Heading → Opened
opened_at a (H.Leaf e v) = O.Leaf
opened_at a (H.Fields f b e v) = O.Fields f (a + b)
opened_at a (H.Items f c b e v) = O.Items f (a + b)

abbrev opened_in : ℕ → ℕ → Result Heading Stop → Result Opened Stop
opened_in a n (Err j) = Err j
opened_in a n (Ok h) = cond (ltb (end_of h) n) (Err Early) (Ok (opened_at a h))

opened_is : (k : Kind) (m : Modes) (g : Faults) (s : List ℕ) (a : ℕ) → opened_in a (length s) (head_at k m g s) ≡ opened_by (a + length s) (whole (head k s) [])
unfolding head_at
opened_is k m g s a = at (head k s) refl
  where
    at : (o : Out Head) → head k s ≡ o → opened_in a (length s) (answer_of Err (λ x h r. heading_of x h (length s - length r)) m g o)
        ≡ opened_by (a + length s) (whole o [])
    at (fault j) e = refl
    at (got (value v) fs []) e = rw (le-ltb (length s - 0) (length s) (omega arith))
    at (got (value v) fs (b ∷ r)) e = rw (lt-ltb (length s - length (b ∷ r)) (length s) (omega (arith, local_le (head k) (local_head k) s e)))
    at (got (fields_in f c) fs []) e =
        let t = (head_body k s e).0 in
        let l : length s ≡ length t.0 + (length c + 0) = simp length-append at (ap length t.1) in
        let z : a + (length s - 0 - length c) ≡ a + length s - length c = omega arith in
        rw (le-ltb (length s - 0) (length s) (omega arith), z)
    at (got (fields_in f c) fs (b ∷ r)) e = rw (lt-ltb (length s - length (b ∷ r)) (length s) (omega (arith, local_le (head k) (local_head k) s e)))
    at (got (items_in f n c) fs []) e =
        let t = (head_body k s e).0 in
        let l : length s ≡ length t.0 + (length c + 0) = simp length-append at (ap length t.1) in
        let z : a + (length s - 0 - length c) ≡ a + length s - length c = omega arith in
        rw (le-ltb (length s - 0) (length s) (omega arith), z)
    at (got (items_in f n c) fs (b ∷ r)) e = rw (lt-ltb (length s - length (b ∷ r)) (length s) (omega (arith, local_le (head k) (local_head k) s e)))

begin_of : Result Heading Stop → ℕ
begin_of (Err j) = 0
begin_of (Ok (H.Leaf e v)) = 0
begin_of (Ok (H.Fields f b e v)) = b
begin_of (Ok (H.Items f c b e v)) = b

begin_in_law : (k : Kind) (m : Modes) (g : Faults) (s : List ℕ) → begin_of (head_at k m g s) ≤ length s
unfolding head_at begin_of
begin_in_law k m g s = at (head k s)
  where
    at : (o : Out Head) → begin_of (answer_of Err (λ x h r. heading_of x h (length s - length r)) m g o) ≤ length s
    at (fault j) = omega arith
    at (got (value v) fs r) = omega arith
    at (got (fields_in f c) fs r) = omega arith
    at (got (items_in f n c) fs r) = omega arith

module _ (k : Kind) (m : Modes) (g : Faults) (s : List ℕ) (a : ℕ) (x : Result Heading Stop) (i : x ≡ head_at k m g s) where
  opens : (y : Result Heading Stop) → x ≡ y → opened_in a (length s) y ≡ opened_by (a + length s) (whole (head k s) [])
  opens y z = ap (opened_in a (length s)) (sym z ∙ i) ∙ opened_is k m g s a

  pub open_stop : (j : Stop) → x ≡ Err j → Err j ≡ opened_by (a + length s) (whole (head k s) [])
  open_stop j z = opens (Err j) z

  module _ (h : Heading) (z : x ≡ Ok h) (e : ℕ) where
    pub open_early : e < length s → e ≡ end_of h → Err Early ≡ opened_by (a + length s) (whole (head k s) [])
    open_early l t = rw (← t, lt-ltb e (length s) l) at (opens (Ok h) z)

    module _ (l : length s ≤ e) (t : e ≡ end_of h) where
      open_whole : (y : Heading) → h ≡ y → Ok (opened_at a y) ≡ opened_by (a + length s) (whole (head k s) [])
      open_whole y w = rw (← w) (rw (← t, le-ltb e (length s) l) at (opens (Ok h) z))

      pub open_leaf : (n : ℕ) (v : Faults) → h ≡ H.Leaf n v → Ok O.Leaf ≡ opened_by (a + length s) (whole (head k s) [])
      open_leaf n v w = open_whole (H.Leaf n v) w

      pub open_fields : (f : Form) (b n : ℕ) (v : Faults) → h ≡ H.Fields f b n v → Ok (O.Fields f (a + b)) ≡ opened_by (a + length s) (whole (head k s) [])
      open_fields f b n v w = open_whole (H.Fields f b n v) w

      pub open_items : (f : Form) (c b n : ℕ) (v : Faults) → h ≡ H.Items f c b n v → Ok (O.Items f (a + b)) ≡ opened_by (a + length s) (whole (head k s) [])
      open_items f c b n v w = open_whole (H.Items f c b n v) w

  module _ (h : Heading) (z : x ≡ Ok h) (f : Form) (b n : ℕ) (v : Faults) where
    begins : (y : Heading) → h ≡ y → begin_of (Ok y) ≤ length s
    begins y w = subst (λ o. begin_of o ≤ length s) (sym i ∙ z ∙ ap Ok w) (begin_in_law k m g s)

    pub fields_begin : h ≡ H.Fields f b n v → b ≤ length s
    unfolding begin_of
    fields_begin w = begins (H.Fields f b n v) w

    pub items_begin : (c : ℕ) → h ≡ H.Items f c b n v → b ≤ length s
    unfolding begin_of
    items_begin c w = begins (H.Items f c b n v) w

pub ruleset fill_laws = (open_stop, open_early, open_leaf, open_fields, open_items, fields_begin, items_begin)
