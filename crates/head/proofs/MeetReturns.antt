-- A field up to its contents: what the code knows at each return, from the answers of its front and of its head.
use Rattle.std.specs.Prelude.{Ok, Result, Err}
use Prim.Native.Nat.{ℕ, ◌+◌, ◌-◌, ◌≤◌}
use native.Mathlib.Omega.{arith}
use mathlib.Core.Path.{◌≡◌, refl, sym, ap, ◌∙◌, subst}
use mathlib.Core.List.{List, ◌++◌, append_assoc}
use lib.ListN.{length, length-append}
use Rattle.format.specs.declared.Kind.{Kind}
use Rattle.format.specs.declared.Form.{Form}
use Rattle.format.specs.declared.Stop.{Stop}
use Rattle.faults.specs.declared.Modes.{Modes}
use Rattle.faults.specs.declared.Faults.{Faults}
use Rattle.format.specs.declared.Flaw.{Flaw}
use Rattle.format.specs.Parse.{Out, fault, got, bind, make}
use Rattle.format.specs.Payload.{front, Head, value, fields_in, items_in, head}
use Rattle.faults.specs.Noted.{noted}
use Rattle.front.specs.Code.{answer_of, front_at}
use Rattle.head.specs.Code.{heading_of, head_at, met_of, met_in, meet_at}
use Rattle.head.specs.declared.Met.TheVariants as M
use Rattle.head.specs.declared.Met.{Met}
use Rattle.front.specs.Between.{between}
use Rattle.format.proofs.Local.{local_le}
use Rattle.format.proofs.HeadParts.{local_head, head_body, front_takes}
use Rattle.front.proofs.AnswerLaws.{answer_make, answer_flaws}
use Rattle.front.proofs.BetweenLaws.{end_drop, rest_all, part_length}
use Rattle.front.specs.declared.Front.{Front}
use Rattle.front.specs.Made.{front_read}
use Rattle.leaves.specs.declared.Heading.TheVariants as H
use Rattle.leaves.specs.declared.Heading.{Heading}

-- ---- what the code makes of a front and a head

abbrev met_by : Kind → ℕ → ℕ → Result Heading Stop → Result Met Stop
met_by k a b (Err j) = Err j
met_by k a b (Ok (H.Leaf e v)) = Ok (M.Leaf k a b (b + e) v)
met_by k a b (Ok (H.Fields o c e v)) = Ok (M.Fields k a b o (b + c) (b + e) v)
met_by k a b (Ok (H.Items o w c e v)) = Ok (M.Items k a b o w (b + c) (b + e) v)

abbrev met_from : Modes → List ℕ → Result Front Stop → Result Met Stop
met_from m s (Err j) = Err j
met_from m s (Ok p) = met_by p.kind p.name p.start (head_at p.kind m p.faults (between p.start (length s) s))

-- ---- and that is what the definition meets

pub meet_by : (f : Form) (m : Modes) (g : Faults) (s n : List ℕ) (k : Kind) (fs : List Flaw) (r : List ℕ) → front f s ≡ got (n, k) fs r
    → meet_at f m g s
    ≡ answer_of Err (λ d v q. met_of k (length s - length r - length n) (length s - length r) d v (length s - length q)) m (noted m g fs) (head k r)
unfolding meet_at
meet_by f m g s n k fs r e =
    rw (
      e,
      answer_flaws Err (met_in (length s)) m g fs (make (λ d. ((n, k), (r, d))) (head k r)),
      answer_make Err (met_in (length s)) m (noted m g fs) (λ d. ((n, k), (r, d))) (head k r),
    )

-- a head behind b bytes of n
head_behind : (k : Kind) (a b n : ℕ) (m : Modes) (h : Faults) (r : List ℕ) → b + length r ≡ n
    → met_by k a b (head_at k m h r) ≡ answer_of Err (λ d v q. met_of k a b d v (n - length q)) m h (head k r)
unfolding head_at
head_behind k a b n m h r e = at (head k r) refl
  where
    ends : (q : List ℕ) → length q ≤ length r → b + (length r - length q) ≡ n - length q
    ends q l = omega arith

    begins : (d q : List ℕ) → (w : List ℕ) × (r ≡ w ++ (d ++ q)) → (length q ≤ length r) × (b + (length r - length q - length d) ≡ n - length q - length d)
    begins d q i =
        let l : length r ≡ length i.0 + (length d + length q) = simp length-append at (ap length i.1) in
        (omega arith, omega arith)

    at : (o : Out Head) → head k r ≡ o
        → met_by k a b (answer_of Err (λ d v q. heading_of d v (length r - length q)) m h o) ≡ answer_of Err (λ d v q. met_of k a b d v (n - length q)) m h o
    at (fault j) i = refl
    at (got (value c) fs q) i = rw (ends q (local_le (head k) (local_head k) r i))
    at (got (fields_in f d) fs q) i = let l = begins d q (head_body k r i).0 in rw (ends q l.0, l.1)
    at (got (items_in f c d) fs q) i = let l = begins d q (head_body k r i).0 in rw (ends q l.0, l.1)

met_from_law : (f : Form) (m : Modes) (g : Faults) (s : List ℕ) → met_from m s (front_at f m g s) ≡ meet_at f m g s
unfolding front_at meet_at
met_from_law f m g s = at (front f s) refl
  where
    at : (o : Out (List ℕ × Kind)) → front f s ≡ o
        → met_from m s (answer_of Err (λ x h r. front_read x.1 (length s - length r - length x.0) (length s - length r) h) m g o)
        ≡ answer_of Err (met_in (length s)) m g (bind o λ x r. make (λ h. (x, (r, h))) (head x.1 r))
    at (fault j) e = refl
    at (got u fs r) e =
        let i = (front_takes f s e).0 in
        let h = noted m g fs in
        let a = length s - length r - length u.0 in
        let b = length s - length r in
        let l : b + length r ≡ length s = omega (arith, simp length-append at (ap length i.1)) in
        let d : between b (length s) s ≡ r = rest_all b s ∙ end_drop s (i.0 ++ u.0) r (i.1 ∙ sym (append_assoc i.0 u.0 r)) in
        ap (λ t. met_by u.1 a b (head_at u.1 m h t)) d
        ∙ (head_behind u.1 a b (length s) m h r l
        ∙ sym (answer_flaws Err (met_in (length s)) m g fs (make (λ d. (u, (r, d))) (head u.1 r))
        ∙ answer_make Err (met_in (length s)) m h (λ d. (u, (r, d))) (head u.1 r)))

-- ---- nothing passes the part

abbrev Starts : ℕ → Result Front Stop → Type 0
Starts n (Err j) = Unit {0}
Starts n (Ok p) = p.start ≤ n

abbrev Ends : ℕ → ℕ → Result Heading Stop → Type 0
Ends b n (Err j) = Unit {0}
Ends b n (Ok (H.Leaf e v)) = b + e ≤ n
Ends b n (Ok (H.Fields o c e v)) = (b + e ≤ n) × (c ≤ e)
Ends b n (Ok (H.Items o w c e v)) = (b + e ≤ n) × (c ≤ e)

front_starts : (f : Form) (m : Modes) (g : Faults) (s : List ℕ) → Starts (length s) (front_at f m g s)
unfolding front_at
front_starts f m g s = at (front f s)
  where
    at : (o : Out (List ℕ × Kind)) → Starts (length s) (answer_of Err
        (λ x h r. front_read x.1 (length s - length r - length x.0) (length s - length r) h) m g o)
    at (fault j) = tt
    at (got u fs r) = omega arith

head_ends : (k : Kind) (m : Modes) (h : Faults) (b n : ℕ) (r : List ℕ) → b + length r ≡ n → Ends b n (head_at k m h r)
unfolding head_at
head_ends k m h b n r e = at (head k r)
  where
    at : (o : Out Head) → Ends b n (answer_of Err (λ d v q. heading_of d v (length r - length q)) m h o)
    at (fault j) = tt
    at (got (value c) fs q) = omega arith
    at (got (fields_in f d) fs q) = (omega arith, omega arith)
    at (got (items_in f c d) fs q) = (omega arith, omega arith)

-- ---- what the code knows at each return

module _ (f : Form) (m : Modes) (g : Faults) (s : List ℕ) (x : Result Front Stop) (anew : x ≡ front_at f m g (between 0 (length s) s)) where
  told : x ≡ front_at f m g s
  told = rw (rest_all 0 s) at anew

  from : (t : Result Front Stop) → x ≡ t → met_from m s t ≡ meet_at f m g s
  from t z = ap (met_from m s) (sym z ∙ told) ∙ met_from_law f m g s

  pub meet_front : (j : Stop) → x ≡ Err j → Err j ≡ meet_at f m g s
  meet_front j z = from (Err j) z

  module _ (p : Front) (z : x ≡ Ok p) where
    pub start_in_law : p.start ≤ length s
    start_in_law = subst (Starts (length s)) (sym told ∙ z) (front_starts f m g s)

    module _ (y : Result Heading Stop) (w : y ≡ head_at p.kind m p.faults (between p.start (length s) s)) where
      pub meet_stop : (j : Stop) → y ≡ Err j → Err j ≡ meet_at f m g s
      meet_stop j v = ap (met_by p.kind p.name p.start) (sym v ∙ w) ∙ from (Ok p) z

      module _ (t : Heading) (v : y ≡ Ok t) where
        pub meet_head : met_by p.kind p.name p.start (Ok t) ≡ meet_at f m g s
        meet_head = ap (met_by p.kind p.name p.start) (sym v ∙ w) ∙ from (Ok p) z

        pub meet_head_by : (u : Heading) → t ≡ u → met_by p.kind p.name p.start (Ok u) ≡ meet_at f m g s
        meet_head_by u i = ap (λ y. met_by p.kind p.name p.start (Ok y)) (sym i) ∙ meet_head

        end_in : Ends p.start (length s) (Ok t)
        end_in =
            let l : p.start + length (between p.start (length s) s) ≡ length s =
            rw (part_length p.start (length s) s (record { order = start_in_law; within = omega arith })) (omega (arith, start_in_law)) in
            subst (Ends p.start (length s)) (sym w ∙ v) (head_ends p.kind m p.faults p.start (length s) (between p.start (length s) s) l)

        pub leaf_in : (e : ℕ) (h : Faults) → t ≡ H.Leaf e h → p.start + e ≤ length s
        leaf_in e h i = subst (λ u. Ends p.start (length s) (Ok u)) i end_in

        pub fields_in_law : (o : Form) (c e : ℕ) (h : Faults) → t ≡ H.Fields o c e h → (p.start + e ≤ length s) × (c ≤ e)
        fields_in_law o c e h i = subst (λ u. Ends p.start (length s) (Ok u)) i end_in

        pub items_in_law : (o : Form) (n c e : ℕ) (h : Faults) → t ≡ H.Items o n c e h → (p.start + e ≤ length s) × (c ≤ e)
        items_in_law o n c e h i = subst (λ u. Ends p.start (length s) (Ok u)) i end_in
