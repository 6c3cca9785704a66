-- A field: what the code knows at each return, from what was met and from the answer of its contents.
use Rattle.std.specs.Prelude.{Result, Err, Ok}
use Prim.Native.Nat.{ℕ, suc, ◌+◌, ◌-◌, ◌≤◌}
use native.Mathlib.Omega.{arith}
use mathlib.Core.Path.{◌≡◌, refl, sym, ap, ◌∙◌, subst}
use mathlib.Core.List.{List, [], ◌∷◌, ◌++◌, append_assoc}
use lib.ListN.{length, length-append}
use lib.Seq.{drop-append_seam, take-append_seam}
use Rattle.format.specs.declared.Kind.{Kind}
use Rattle.format.specs.declared.Form.{Form}
use Rattle.format.specs.declared.Stop.{Stop}
use Rattle.format.specs.declared.Stop.TheVariants.{TooDeep}
use Rattle.faults.specs.declared.Modes.{Modes}
use Rattle.faults.specs.declared.Faults.{Faults}
use Rattle.format.specs.declared.Flaw.{Flaw}
use Rattle.format.specs.Parse.{Out, fault, got, with_flaws, bind, make, whole}
use Rattle.format.specs.Payload.{front, Head, value, fields_in, items_in, head}
use Rattle.format.specs.Tree.{Node}
use Rattle.format.specs.Reader.{Standing, Named, Layout, Reader, read, read_field, contents}
use Rattle.faults.specs.Noted.{noted}
use Rattle.front.specs.Code.{answer_of}
use Rattle.head.specs.Code.{meeting, met_in, meet_at}
use Rattle.head.specs.declared.Met.TheVariants as M
use Rattle.head.specs.declared.Met.{Met}
use Rattle.front.specs.Between.{between}
use Rattle.format.proofs.Local.{bind_got}
use Rattle.format.proofs.HeadParts.{front_takes, head_body, Body}
use Rattle.front.proofs.AnswerLaws.{answer_make}
use Rattle.front.proofs.BetweenLaws.{rest_all}
use Rattle.faults.proofs.NotedLaws.{noted_none}
use Rattle.front.proofs.AnswerLaws.{answer_flaws}
use Rattle.contents.specs.declared.Field.{Field}
use Rattle.contents.specs.Contents.{closed}
use Rattle.contents.specs.Made.{field_read}
use Rattle.checks.specs.Checks.{field_at, contents_at}

pub field_deep : (f : Form) (m : Modes) (g : Faults) (s : List ℕ) (d : ℕ) → d ≡ 0 → Err TooDeep ≡ field_at f m d g s
unfolding field_at read
field_deep f m g s d e = rw e

-- ---- a field is what was met, and its contents

abbrev Meeting : Type 0
Meeting = (List ℕ × Kind) × (List ℕ × Head)

abbrev read_met : {A : Type 0} → Reader A → Meeting → List ℕ → Out (Named (Standing (Node (Standing A))))
read_met p y q = make (λ t. (y.0.0, (y.0.1, t))) (whole (contents p y.1.1) q)

module _ {A : Type 0} (p : Reader A) (m : Modes) (go : Named (Standing (Node (Standing A))) → Faults → List ℕ → Result Field Stop) where
  field_met : (g : Faults) (f : Form) (s : List ℕ)
      → answer_of Err go m g (read_field p f s) ≡ answer_of Err (λ y h q. answer_of Err go m h (read_met p y q)) m g (meeting f s)
  field_met g f s = by_front (front f s)
    where
      by_head : (x : List ℕ × Kind) (r : List ℕ) (e : Faults) (o : Out Head)
          → answer_of Err go m e (make (λ t. (x.0, (x.1, t))) (bind o λ h q. whole (contents p h) q))
          ≡ answer_of Err (λ y h q. answer_of Err go m h (read_met p y q)) m e (make (λ h. (x, (r, h))) o)
      by_head x r e (fault k) = refl
      by_head x r e (got h fs q) =
          rw (
            answer_make Err go m e (λ t. (x.0, (x.1, t))) (with_flaws fs (whole (contents p h) q)),
            answer_flaws Err (λ t. go (x.0, (x.1, t))) m e fs (whole (contents p h) q),
            answer_make Err (λ y h q. answer_of Err go m h (read_met p y q)) m e (λ h. (x, (r, h))) (got h fs q),
          )
          (sym (answer_make Err go m (noted m e fs) (λ t. (x.0, (x.1, t))) (whole (contents p h) q)))

      by_front : (o : Out (List ℕ × Kind))
          → answer_of Err go m g (bind o λ x r. make (λ t. (x.0, (x.1, t))) (bind (head x.1 r) λ h q. whole (contents p h) q))
          ≡ answer_of Err (λ y h q. answer_of Err go m h (read_met p y q)) m g (bind o λ x r. make (λ h. (x, (r, h))) (head x.1 r))
      by_front (fault k) = refl
      by_front (got x fs r) =
          rw (
            answer_flaws Err go m g fs (make (λ t. (x.0, (x.1, t))) (bind (head x.1 r) λ h q. whole (contents p h) q)),
            answer_flaws Err (λ y h q. answer_of Err go m h (read_met p y q)) m g fs (make (λ h. (x, (r, h))) (head x.1 r)),
          )
          (by_head x r (noted m g fs) (head x.1 r))

-- the contents fill their part, or end the reading
field_contents : {X Y : Type 0} (m : Modes) (e : Faults) (n : ℕ) (k : Kind) (mk : X → Named (Standing Y)) → ((x : X) → (mk x).1.0 ≡ k)
    → (o : Out X) (q : List ℕ)
    → answer_of Err (λ x h r. field_read x.1.0 (n - length r) h) m e (make mk (whole o q)) ≡ closed k (n - length q)
    (answer_of Err (λ t h r. Ok h) m e (whole o []))
field_contents m e n k mk i (fault j) q = refl
field_contents m e n k mk i (got x fs []) q = rw (answer_make Err (λ x h r. field_read x.1.0 (n - length r) h) m e mk (got x fs q), i x)
field_contents m e n k mk i (got x fs (b ∷ r)) q = refl

-- ---- where the contents stand

abbrev Within : List ℕ → Head → List ℕ → Type 0
Within s (value v) q = Unit {0}
Within s (fields_in f b) q = (w : List ℕ) × (s ≡ w ++ (b ++ q))
Within s (items_in f n b) q = (w : List ℕ) × (s ≡ w ++ (b ++ q))

meeting_within : (f : Form) (s : List ℕ) {y : Meeting} {fs : List Flaw} {q : List ℕ} → meeting f s ≡ got y fs q → Within s y.1.1 q
meeting_within f s {y} {fs} {q} e = bind_got (front f s) _ e λ x es r gs i k _. bind_got (head x.1 r) _ k λ h es' r' gs' i' k' _.
    let z : y ≡ (x, (r, h)) = cc in
    let u : r' ≡ q = cc in
    rw (z, ← u) (at x r (front_takes f s i).0 h r' (head_body x.1 r i'))
  where
    at : (x : List ℕ × Kind) (r : List ℕ) → (w : List ℕ) × (s ≡ w ++ (x.0 ++ r)) → (h : Head) (t : List ℕ) → Body r h t → Within s h t
    at x r w (value v) t b = tt
    at x r w (fields_in o c) t
        b = (w.0 ++ (x.0 ++ b.0.0), rw (append_assoc w.0 (x.0 ++ b.0.0) (c ++ t), append_assoc x.0 b.0.0 (c ++ t), ← b.0.1) w.1)
    at x r w (items_in o n c) t
        b = (w.0 ++ (x.0 ++ b.0.0), rw (append_assoc w.0 (x.0 ++ b.0.0) (c ++ t), append_assoc x.0 b.0.0 (c ++ t), ← b.0.1) w.1)

-- a part by its begin and end
part : (s w b q : List ℕ) → s ≡ w ++ (b ++ q) → between (length s - length q - length b) (length s - length q) s ≡ b
part s w b q e =
    let n : length s ≡ length w + (length b + length q) = simp length-append at (ap length e) in
    let c : length s - length q - length b ≡ length w = omega arith in
    let d : length s - length q - length w ≡ length b = omega arith in
    rw (c, d, e, drop-append_seam w (b ++ q)) (take-append_seam b q)

-- ---- a field by what was met

abbrev pub field_by : Modes → ℕ → List ℕ → Result Met Stop → Result Field Stop
field_by m d s (Err j) = Err j
field_by m d s (Ok (M.Leaf k a b e h)) = field_read k e h
field_by m d s (Ok (M.Fields k a b o c e h)) = closed k e (contents_at (fields_in o (between c e s)) m d h)
field_by m d s (Ok (M.Items k a b o w c e h)) = closed k e (contents_at (items_in o w (between c e s)) m d h)

pub field_view : (f : Form) (m : Modes) (g : Faults) (s : List ℕ) (d : ℕ) → field_by m d s (meet_at f m g s) ≡ field_at f m (suc d) g s
unfolding field_at contents_at meet_at read
field_view f m g s d = at (meeting f s) refl ∙ sym (field_met (read d) m go g f s)
  where
    go : Named (Standing (Node (Standing (Layout d)))) → Faults → List ℕ → Result Field Stop
    go x h r = field_read x.1.0 (length s - length r) h

    at : (o : Out Meeting) → meeting f s ≡ o
        → field_by m d s (answer_of Err (met_in (length s)) m g o) ≡ answer_of Err (λ y h q. answer_of Err go m h (read_met (read d) y q)) m g o
    at (fault k) i = refl
    at (got (y, (r, value v)) fs q) i = rw (noted_none m (noted m g fs))
    at (got (y, (r, fields_in o b)) fs q) i =
        let w = meeting_within f s i in
        rw (part s w.0 b q w.1)
        (sym (field_contents m (noted m g fs) (length s) y.1 (λ t. (y.0, (y.1, t))) (λ t. refl) (contents (read d) (fields_in o b)) q))
    at (got (y, (r, items_in o n b)) fs q) i =
        let w = meeting_within f s i in
        rw (part s w.0 b q w.1)
        (sym (field_contents m (noted m g fs) (length s) y.1 (λ t. (y.0, (y.1, t))) (λ t. refl) (contents (read d) (items_in o n b)) q))

-- where the contents of what was met begin and end
abbrev begins : Result Met Stop → ℕ
begins (Err j) = 0
begins (Ok (M.Leaf k a b e h)) = 0
begins (Ok (M.Fields k a b o c e h)) = c
begins (Ok (M.Items k a b o w c e h)) = c

abbrev ends : Result Met Stop → ℕ
ends (Err j) = 0
ends (Ok (M.Leaf k a b e h)) = 0
ends (Ok (M.Fields k a b o c e h)) = e
ends (Ok (M.Items k a b o w c e h)) = e

-- ---- the returns

module _ (f : Form) (m : Modes) (g : Faults) (s : List ℕ) (x : Result Met Stop) (anew : x ≡ meet_at f m g (between 0 (length s) s)) where
  e : x ≡ meet_at f m g s
  e = rw (rest_all 0 s) at anew

  module _ (l d : ℕ) (z : l ≡ suc d) where
    by : (u : Result Met Stop) → x ≡ u → field_by m d s u ≡ field_at f m l g s
    by u i = rw z (ap (field_by m d s) (sym i ∙ e) ∙ field_view f m g s d)

    pub field_stop : (j : Stop) → x ≡ Err j → Err j ≡ field_at f m l g s
    field_stop j i = by (Err j) i

    pub field_leaf : (k : Kind) (a b n : ℕ) (v : Faults) → x ≡ Ok (M.Leaf k a b n v) → field_read k n v ≡ field_at f m l g s
    field_leaf k a b n v i = by (Ok (M.Leaf k a b n v)) i

    pub field_fields : (k : Kind) (a b : ℕ) (o : Form) (c n : ℕ) (v : Faults) → x ≡ Ok (M.Fields k a b o c n v)
        → (y : Result Faults Stop) → y ≡ contents_at (fields_in o (between c n s)) m d v → (r : Result Field Stop) → r ≡ closed k n y → r ≡ field_at f m l g s
    field_fields k a b o c n v i y j r t = t ∙ ap (closed k n) j ∙ by (Ok (M.Fields k a b o c n v)) i

    pub field_items : (k : Kind) (a b : ℕ) (o : Form) (w c n : ℕ) (v : Faults) → x ≡ Ok (M.Items k a b o w c n v)
        → (y : Result Faults Stop) → y ≡ contents_at (items_in o w (between c n s)) m d v → (r : Result Field Stop) → r ≡ closed k n y → r ≡ field_at f m l g s
    field_items k a b o w c n v i y j r t = t ∙ ap (closed k n) j ∙ by (Ok (M.Items k a b o w c n v)) i

  -- the contents lie inside
  contents_in : (begins x ≤ ends x) × (ends x ≤ length s)
  unfolding meet_at
  contents_in = subst (λ t. (begins t ≤ ends t) × (ends t ≤ length s)) (sym e) (at (meeting f s))
    where
      at : (o : Out Meeting)
          → (begins (answer_of Err (met_in (length s)) m g o) ≤ ends (answer_of Err (met_in (length s)) m g o)) ×
          (ends (answer_of Err (met_in (length s)) m g o) ≤ length s)
      at (fault k) = (omega arith, omega arith)
      at (got (h, (q, value c)) fs r) = (omega arith, omega arith)
      at (got (h, (q, fields_in o c)) fs r) = (omega arith, omega arith)
      at (got (h, (q, items_in o w c)) fs r) = (omega arith, omega arith)

  pub fields_in_law : (k : Kind) (a b : ℕ) (o : Form) (c n : ℕ) (v : Faults) → x ≡ Ok (M.Fields k a b o c n v) → (c ≤ n) × (n ≤ length s)
  fields_in_law k a b o c n v i = subst (λ t. (begins t ≤ ends t) × (ends t ≤ length s)) i contents_in

  pub items_in_law : (k : Kind) (a b : ℕ) (o : Form) (w c n : ℕ) (v : Faults) → x ≡ Ok (M.Items k a b o w c n v) → (c ≤ n) × (n ≤ length s)
  items_in_law k a b o w c n v i = subst (λ t. (begins t ≤ ends t) × (ends t ≤ length s)) i contents_in
