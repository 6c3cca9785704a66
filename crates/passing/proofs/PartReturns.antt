-- A name and a leaf at a position: what the code knows at each return.
use Rattle.std.specs.Prelude.{Option, None, Some, Result, Ok, Err}
use Rattle.std.specs.Result.{result_ok}
use Prim.Native.Nat.{ℕ, ◌+◌, ◌-◌, ◌≤◌, ◌<◌}
use native.Mathlib.Omega.{arith}
use mathlib.Core.Path.{◌≡◌, refl, sym, ap, ◌∙◌}
use mathlib.Core.Bool.{Bool, true, false}
use mathlib.Core.Option.{Option as Optional, none, some}
use mathlib.Core.List.{List, [], ◌++◌}
use lib.ListN.{length, drop, length-drop}
use Rattle.number.proofs.Clash.{clash}
use Rattle.format.specs.declared.Kind.{Kind}
use Rattle.format.specs.declared.Kind.TheVariants.{Null}
use Rattle.format.specs.declared.Form.TheVariants.{SharedField}
use Rattle.format.specs.declared.Stop.{Stop}
use Rattle.format.specs.declared.Flaw.{Flaw}
use Rattle.faults.specs.declared.Modes.{Modes}
use Rattle.faults.specs.declared.Faults.{Faults}
use Rattle.format.specs.Names.{read_name}
use Rattle.format.specs.Parse.{Out, fault, got, bind}
use Rattle.format.specs.Payload.{Payload, leaf, fields, shared_fields, items, shared_items, payload, front}
use Rattle.format.specs.Tree.{Leaf}
use Rattle.format.proofs.Local.{with_put}
use Rattle.format.proofs.HeadParts.{front_takes}
use Rattle.front.specs.Between.{between}
use Rattle.front.specs.Code.{answer_of, front_at}
use Rattle.front.specs.declared.Front.{Front}
use Rattle.front.specs.Made.{front_read}
use Rattle.front.proofs.BetweenLaws.{rest_all}
use Rattle.faults.specs.Noted.{noted}
use Rattle.head.specs.Code.{head_at}
use Rattle.frame.proofs.MadeLaws.{front_same}
use Rattle.frame.proofs.LeafHeadings.{heading_leaf, heading_leaf_law, leaf_or, not_leaf}
use Rattle.frames.specs.FramePieces.{IsLeaf}
use Rattle.twins.specs.Walk.{rest_of, name_rest}
use Rattle.passing.specs.Code.{end_of, leaf_rest, name_end, leaf_end}
use Rattle.passing.proofs.PassLaws.{leaf_less}
use Rattle.leaves.specs.declared.Heading.TheVariants as H
use Rattle.leaves.specs.declared.Heading.{Heading}

-- ---- a position that is counted from another

pub moved : (a t n r : ℕ) → a ≤ t → n ≡ t - a → r ≤ n → a + (n - r) ≡ t - r
moved a t n r l e h = omega arith

pub here_at : (a : ℕ) (s : List ℕ) → a ≤ length s → length s - length (drop a s) ≡ a
here_at a s l = rw (length-drop a s) (omega arith)

-- ---- a name

pub name_takes : (s : List ℕ) {n : List ℕ} {fs : List Flaw} {r : List ℕ} → read_name s ≡ got n fs r → length r < length s
unfolding front
name_takes s {n} {fs} {r} h =
    let e : front (SharedField Null) s ≡ got (n, Null) (fs ++ []) r = rw h (with_put {A = List ℕ × Kind} fs [] (n, Null) r) in
    (front_takes (SharedField Null) s e).1

pub name_inside : (named : Bool) (a : ℕ) (s : List ℕ) (b : ℕ) → Some b ≡ name_end named a s → b ≤ length s
unfolding name_end
name_inside named a s b h = go (name_rest named (drop a s)) h
  where
    go : (o : Optional (List ℕ)) → Some b ≡ end_of (length s) o → b ≤ length s
    go none h = clash cc
    go (some r) h = let z : b ≡ length s - length r = cc in omega arith

pub unnamed : (a : ℕ) (s : List ℕ) (named : Bool) → a ≤ length s → named ≡ false → Some a ≡ name_end named a s
unfolding name_end
unnamed a s named l e = rw e (ap Some (sym (here_at a s l)))

abbrev pub front_named : Kind → Modes → Faults → ℕ → Out (List ℕ) → Result Front Stop
front_named k m g n (fault j) = Err j
front_named k m g n (got t fs r) = front_read k (n - length r - length t) (n - length r) (noted m g (fs ++ []))

pub front_named_law : (k : Kind) (m : Modes) (g : Faults) (s : List ℕ) → front_at (SharedField k) m g s ≡ front_named k m g (length s) (read_name s)
unfolding front_at front
front_named_law k m g s = go (read_name s)
  where
    go : (o : Out (List ℕ))
        → answer_of Err (λ (x : List ℕ × Kind) h r. front_read x.1 (length s - length r - length x.0) (length s - length r) h) m g
        (bind o λ n q. got (n, k) [] q)
        ≡ front_named k m g (length s) o
    go (fault j) = refl
    go (got t fs r) = rw (with_put {A = List ℕ × Kind} fs [] (t, k) r)

-- what the answer is, of what was kept of it
pub kept : {A B : Type 0} (x : Result A B) (o : Option A) → o ≡ result_ok x → (a : A) → o ≡ Some a → x ≡ Ok a
kept (Err j) o w a z = clash cc
kept (Ok b) o w a z = let i : b ≡ a = cc in ap Ok i

module _ (a : ℕ) (s : List ℕ) (named : Bool) (l : a ≤ length s) (is_named : named ≡ true) (k : Kind) (m : Modes) (g : Faults) (x : Result Front Stop)
    (e : x ≡ front_at (SharedField k) m g (between a (length s) s)) (o : Option Front) (w : o ≡ result_ok x) where
  here : x ≡ front_named k m g (length (drop a s)) (read_name (drop a s))
  here = e ∙ ap (front_at (SharedField k) m g) (rest_all a s) ∙ front_named_law k m g (drop a s)

  pub name_cut : o ≡ None → None ≡ name_end named a s
  unfolding name_end
  name_cut z = rw is_named (go (read_name (drop a s)) (sym z ∙ w ∙ ap result_ok here))
    where
      go : (p : Out (List ℕ)) → None ≡ result_ok (front_named k m g (length (drop a s)) p) → None ≡ end_of (length s) (rest_of p)
      go (fault j) h = refl
      go (got n fs r) h = clash cc

  module _ (p : Front) (z : o ≡ Some p) where
    read : (a + p.start ≤ length s) × (Some (a + p.start) ≡ name_end named a s)
    unfolding name_end
    read = rw is_named (go (read_name (drop a s)) refl (sym (kept x o w p z) ∙ here))
      where
        go : (q : Out (List ℕ)) → read_name (drop a s) ≡ q → Ok p ≡ front_named k m g (length (drop a s)) q
            → (a + p.start ≤ length s) × (Some (a + p.start) ≡ end_of (length s) (rest_of q))
        go (fault j) i h = clash cc
        go (got n fs r) i h =
            let f = front_same h in
            let d = length-drop a s in
            let b = name_takes (drop a s) i in
            let c = moved a (length s) (length (drop a s)) (length r) l d (omega arith) in
            (omega (arith, f.1), ap Some (ap (a +◌) f.1 ∙ c))

    pub name_fits : a + p.start ≤ length s
    name_fits = read.0

    pub name_ends : Some (a + p.start) ≡ name_end named a s
    name_ends = read.1

pub ruleset name_laws = (unnamed, name_cut, name_ends)

-- ---- a leaf

module _ (a : ℕ) (s : List ℕ) (k : Kind) (l : a ≤ length s) (m : Modes) (g : Faults) (x : Result Heading Stop) (e : x ≡ head_at k m g (between a (length s) s)) where
  at_rest : x ≡ head_at k m g (drop a s)
  at_rest = e ∙ ap (head_at k m g) (rest_all a s)

  leaf_case : {X : Type 0}
      → ((p : List ℕ → Out Leaf) → payload k ≡ leaf p → x ≡ heading_leaf m g (length (drop a s)) (p (drop a s))
      → leaf_end k a s ≡ end_of (length s) (rest_of (p (drop a s))) → X)
      → (leaf_end k a s ≡ None → ((b : ℕ) (h : Faults) → x ≡ Ok (H.Leaf b h) → ⊥) → X) → X
  unfolding leaf_end
  leaf_case {X} c d = go (payload k) refl
    where
      other : (leaf_rest (payload k) (drop a s) ≡ none) → (IsLeaf (payload k) → ⊥) → X
      other z n = d (ap (end_of (length s)) z) λ b h i. leaf_or k m g (drop a s) (λ j. absurd (n j)) (λ o w. not_leaf k m g (drop a s) o b h (sym at_rest ∙ i))

      go : (q : Payload) → payload k ≡ q → X
      go (leaf p) i = c p i (at_rest ∙ heading_leaf_law k p i m g (drop a s)) (rw i)
      go fields i = other (rw i) (λ j. rw i at j)
      go shared_fields i = other (rw i) (λ j. rw i at j)
      go items i = other (rw i) (λ j. rw i at j)
      go shared_items i = other (rw i) (λ j. rw i at j)

  module _ (o : Option Heading) (w : o ≡ result_ok x) where
    pub leaf_stop : o ≡ None → None ≡ leaf_end k a s
    leaf_stop i = leaf_case (λ p ep h z. go (p (drop a s)) (sym i ∙ w ∙ ap result_ok h) ∙ sym z) (λ z n. sym z)
      where
        go : (q : Out Leaf) → None ≡ result_ok (heading_leaf m g (length (drop a s)) q) → None ≡ end_of (length s) (rest_of q)
        go (fault k) h = refl
        go (got v fs r) h = clash cc

    module _ (t : Heading) (z : o ≡ Some t) where
      pub leaf_other : ((b : ℕ) (h : Faults) → t ≡ H.Leaf b h → ⊥) → None ≡ leaf_end k a s
      leaf_other n = leaf_case (λ p ep y z'. go (p (drop a s)) (sym (kept x o w t z) ∙ y)) (λ z n. sym z)
        where
          go : {Y : Type 0} (q : Out Leaf) → Ok t ≡ heading_leaf m g (length (drop a s)) q → Y
          go (fault k) h = clash cc
          go (got v fs r) h = absurd (n (length (drop a s) - length r) (noted m g fs) (cc))

      module _ (b : ℕ) (h : Faults) (il : t ≡ H.Leaf b h) where
        leaf_read : (a + b ≤ length s) × (Some (a + b) ≡ leaf_end k a s)
        leaf_read =
            let i : x ≡ Ok (H.Leaf b h) = kept x o w t z ∙ ap Ok il in
            leaf_case (λ p ep y u. rw u (go p ep (p (drop a s)) refl (sym i ∙ y))) (λ u n. absurd (n b h i))
          where
            go : (p : List ℕ → Out Leaf) → payload k ≡ leaf p → (q : Out Leaf) → p (drop a s) ≡ q → Ok (H.Leaf b h) ≡ heading_leaf m g (length (drop a s)) q
                → (a + b ≤ length s) × (Some (a + b) ≡ end_of (length s) (rest_of q))
            go p ep (fault j) w y = clash cc
            go p ep (got v fs r) w y =
                let z : b ≡ length (drop a s) - length r = cc in
                let d = length-drop a s in
                let q = leaf_less k p ep (drop a s) r (ap rest_of w) in
                let n = moved a (length s) (length (drop a s)) (length r) l d q in
                (omega arith, ap Some (ap (a +◌) z ∙ n))

        pub leaf_fits : a + b ≤ length s
        leaf_fits = leaf_read.0

        pub leaf_ends : Some (a + b) ≡ leaf_end k a s
        leaf_ends = leaf_read.1

pub ruleset leaf_laws = (leaf_stop, leaf_other, leaf_ends)
