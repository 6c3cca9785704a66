-- The heading of a payload: of a leaf it is the leaf, and of a container it is none.
use Rattle.std.specs.Prelude.{Option, None, Some, Result, Err, Ok}
use Prim.Native.Nat.{ℕ, zero, suc, ◌-◌}
use mathlib.Core.Path.{◌≡◌, refl, ap, ◌∙◌}
use mathlib.Core.Bool.{Bool, true, false, cond}
use mathlib.Core.List.{List, [], ◌∷◌}
use lib.ListN.{length, drop, take}
use lib.Dec.{ltb}
use Rattle.number.proofs.Clash.{clash}
use Rattle.format.specs.declared.Kind.{Kind}
use Rattle.format.specs.declared.Mark.TheVariants.{SharedByFields, SharedByItems}
use Rattle.faults.specs.declared.Modes.{Modes}
use Rattle.faults.specs.declared.Faults.{Faults}
use Rattle.format.specs.declared.Form.TheVariants.{Item, SharedItem}
use Rattle.format.specs.declared.Stop.TheVariants.{Early, BadUniform}
use Rattle.format.specs.declared.Stop.{Stop}
use Rattle.frames.specs.declared.Refusal.TheVariants.{BadFrame}
use Rattle.format.specs.Kinds.{is_bare, kind_at}
use Rattle.format.specs.declared.Flaw.{Flaw}
use Rattle.format.specs.Parse.{Out, fault, got, with_flaws, bind, make, whole, read_var_uint, sized}
use Rattle.format.specs.Tree.{Leaf}
use Rattle.format.specs.Payload.{Payload, leaf, fields, shared_fields, items, shared_items, payload, Head, value, fields_in, items_in, shared_fields_of}
use Rattle.format.specs.Payload.{read_shared_fields, shared_items_of, read_shared_items, read_fields, read_items, head}
use Rattle.frames.specs.FramePieces.{IsLeaf}
use Rattle.faults.specs.Noted.{noted, nothing}
use Rattle.front.specs.Code.{answer_of}
use Rattle.head.specs.Code.{heading_of, head_at}
use Rattle.head.proofs.HeadReturns.{head_fixed, head_text, head_positive, head_negative, head_wide}
use Rattle.format.proofs.Lists.{append_nil}
use Rattle.format.proofs.Local.{with_put}
use Rattle.frame.specs.Pieces.{leaf_frame_of}
use Rattle.leaves.specs.declared.Heading.TheVariants as H
use Rattle.leaves.specs.declared.Heading.{Heading}

-- ---- read with no faults met before

pub unfaulted : (k : Kind) (m : Modes) (g : Faults) (s : List ℕ) (r : Result Heading Stop) → g ≡ nothing → r ≡ head_at k m g s → r ≡ head_at k m nothing s
unfaulted k m g s r e h = h ∙ ap (λ f. head_at k m f s) e

pub ruleset heading_laws = (unfaulted, head_fixed, head_text, head_positive, head_negative, head_wide)

-- ---- a heading of a leaf is the leaf

abbrev pub heading_leaf : Modes → Faults → ℕ → Out Leaf → Result Heading Stop
heading_leaf m g n (fault j) = Err j
heading_leaf m g n (got v fs r) = Ok (H.Leaf (n - length r) (noted m g fs))

pub heading_leaf_law : (k : Kind) (p : List ℕ → Out Leaf) → payload k ≡ leaf p → (m : Modes) (g : Faults) (s : List ℕ)
    → head_at k m g s ≡ heading_leaf m g (length s) (p s)
unfolding head_at head
heading_leaf_law k p e m g s = rw e (go (p s))
  where
    go : (o : Out Leaf) → answer_of Err (λ x h r. heading_of x h (length s - length r)) m g (make value o) ≡ heading_leaf m g (length s) o
    go (fault j) = refl
    go (got v fs r) = rw (with_put fs [] (value v) r, append_nil fs)

-- ---- a heading of a container is no leaf

abbrev pub Opens : Out Head → Type 0
Opens (fault j) = Unit {0}
Opens (got (value v) fs r) = ⊥
Opens (got (fields_in f b) fs r) = Unit {0}
Opens (got (items_in f n b) fs r) = Unit {0}

opens_with : (fs : List Flaw) (o : Out Head) → Opens o → Opens (with_flaws fs o)
opens_with [] o h = h
opens_with (f ∷ fs) (fault j) h = tt
opens_with (f ∷ fs) (got (value v) gs r) h = absurd h
opens_with (f ∷ fs) (got (fields_in x b) gs r) h = tt
opens_with (f ∷ fs) (got (items_in x n b) gs r) h = tt

opens_bind : {A : Type 0} (o : Out A) (f : A → List ℕ → Out Head) → ((a : A) (r : List ℕ) → Opens (f a r)) → Opens (bind o f)
opens_bind (fault j) f h = tt
opens_bind (got a fs r) f h = opens_with fs (f a r) (h a r)

opens_whole : (o : Out Head) (r : List ℕ) → Opens o → Opens (whole o r)
opens_whole (fault j) r h = tt
opens_whole (got (value v) fs q) r h = absurd h
opens_whole (got (fields_in x b) fs []) r h = tt
opens_whole (got (fields_in x b) fs (c ∷ q)) r h = tt
opens_whole (got (items_in x n b) fs []) r h = tt
opens_whole (got (items_in x n b) fs (c ∷ q)) r h = tt

opens_cond : (b : Bool) (j : Stop) (o : Out Head) → Opens o → Opens (cond b (fault j) o)
opens_cond true j o h = tt
opens_cond false j o h = h

opens_sized : (p : List ℕ → Out Head) (s : List ℕ) → ((b : List ℕ) → Opens (p b)) → Opens (sized p s)
opens_sized p s h = opens_bind (read_var_uint s) (λ n r. cond (ltb (length r) n) (fault Early) (whole (p (take n r)) (drop n r))) λ n r.
    opens_cond (ltb (length r) n) Early (whole (p (take n r)) (drop n r)) (opens_whole (p (take n r)) (drop n r) (h (take n r)))

opens_fields : (o : Option Kind) (s : List ℕ) → Opens (shared_fields_of o s)
opens_fields None s = tt
opens_fields (Some k) [] = tt
opens_fields (Some k) (b ∷ s) = tt

opens_items : (n : ℕ) (o : Option Kind) (s : List ℕ) → Opens (shared_items_of n o s)
opens_items n None s = tt
opens_items zero (Some k) s = tt
opens_items (suc n) (Some k) s = opens_cond (is_bare k) BadUniform (got (items_in (SharedItem k) (suc n) s) [] []) tt

opens_shared_fields : (s : List ℕ) → Opens (read_shared_fields s)
opens_shared_fields [] = tt
opens_shared_fields (b ∷ s) = opens_fields (kind_at SharedByFields b) s

opens_shared_items : (n : ℕ) (s : List ℕ) → Opens (read_shared_items n s)
opens_shared_items n [] = tt
opens_shared_items n (b ∷ s) = opens_items n (kind_at SharedByItems b) s

-- either it is a leaf's kind, or its heading is no leaf and it is refused as one
module _ (k : Kind) (m : Modes) (g : Faults) (s : List ℕ) where
  pub leaf_or : {X : Type 0} → (IsLeaf (payload k) → X) → (Opens (head k s) → Err BadFrame ≡ leaf_frame_of k s → X) → X
  unfolding head leaf_frame_of
  leaf_or {X} c d = go (payload k) refl
    where
      go : (q : Payload) → payload k ≡ q → X
      go (leaf p) e = c (rw e tt)
      go fields e = d (rw e (opens_sized read_fields s (λ b. tt))) (rw e)
      go shared_fields e = d (rw e (opens_sized read_shared_fields s opens_shared_fields)) (rw e)
      go items e = d (rw e (opens_sized read_items s (λ b. opens_bind (read_var_uint b) (λ n r. got (items_in Item n r) [] []) (λ n r. tt)))) (rw e)
      go shared_items e =
          d (rw e (opens_sized (λ b. bind (read_var_uint b) read_shared_items) s (λ b. opens_bind (read_var_uint b) read_shared_items opens_shared_items))) (rw e)

  pub not_leaf : {X : Type 0} → Opens (head k s) → (b : ℕ) (h : Faults) → head_at k m g s ≡ Ok (H.Leaf b h) → X
  unfolding head_at
  not_leaf {X} o b h z = go (head k s) o z
    where
      go : (q : Out Head) → Opens q → answer_of Err (λ x h r. heading_of x h (length s - length r)) m g q ≡ Ok (H.Leaf b h) → X
      go (fault j) o z = clash cc
      go (got (value v) fs r) o z = absurd o
      go (got (fields_in x c) fs r) o z = clash cc
      go (got (items_in x n c) fs r) o z = clash cc
