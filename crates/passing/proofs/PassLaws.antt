-- What is passed over stands at the front, and is passed over the same whatever stands behind it. A frame takes a byte at least, so no bound on how many
-- there are matters once it is the length.
use Rattle.std.specs.Prelude.{Option, None, Some}
use Prim.Native.Nat.{ℕ, zero, suc, ◌≤◌, ◌<◌}
use native.Mathlib.Omega.{arith}
use mathlib.Core.Path.{◌≡◌, refl, sym, ap, ◌∙◌}
use mathlib.Core.Bool.{Bool, true, false, cond}
use mathlib.Core.Option.{Option as Optional, none, some}
use mathlib.Core.List.{List, [], ◌∷◌, ◌++◌, append_assoc}
use lib.ListN.{length, length-append}
use lib.Dec.{eqb}
use Rattle.number.proofs.Clash.{clash}
use Rattle.format.specs.declared.Kind.{Kind}
use Rattle.format.specs.declared.Flaw.{Flaw}
use Rattle.format.specs.declared.Flaw.TheVariants.{Blank}
use Rattle.format.specs.Parse.{Out, fault, got, raise, make}
use Rattle.format.specs.Names.{is_empty, read_text, read_name}
use Rattle.format.specs.Tree.{Leaf}
use Rattle.format.specs.Payload.{Payload, leaf, fields, shared_fields, items, shared_items, payload, value, head}
use Rattle.format.proofs.Local.{Local, with_put, local_bind, local_raise}
use Rattle.format.proofs.HeadParts.{local_text, local_head}
use Rattle.frames.specs.FramePieces.{writable}
use Rattle.twins.specs.Walk.{rest_of, onward, name_rest}
use Rattle.passing.specs.Pass.{pass_until, pass_payload, pass_known, pass_frame, pass_over}

-- ---- cases

pub unpassed : {X : Type 0} {r : List ℕ} → none ≡ some r → X
unpassed h = clash cc

pub same : {q r : List ℕ} → ◌≡◌ {A = Optional (List ℕ)} (some q) (some r) → q ≡ r
same h = cc

pub onward_got : {X : Type 0} (o : Optional (List ℕ)) (g : List ℕ → Optional (List ℕ)) {r : List ℕ} → onward none o g ≡ some r
    → ((q : List ℕ) → o ≡ some q → g q ≡ some r → X) → X
onward_got none g h c = unpassed h
onward_got (some q) g h c = c q refl h

pub rest_got : {A X : Type 0} (o : Out A) {r : List ℕ} → rest_of o ≡ some r → ((a : A) (fs : List Flaw) → o ≡ got a fs r → X) → X
rest_got (fault k) h c = unpassed h
rest_got (got a fs q) h c = c a fs (ap (got a fs) (same h))

-- ---- at the front

abbrev pub Stands : (List ℕ → Optional (List ℕ)) → List ℕ → List ℕ → Type 0
Stands p s r = (w : List ℕ) × (s ≡ w ++ r) × ((q : List ℕ) → p (w ++ q) ≡ some q)

-- a byte at least
abbrev pub Takes : (List ℕ → Optional (List ℕ)) → Type 0
Takes p = (s r : List ℕ) → p s ≡ some r → (w : List ℕ) × (s ≡ w ++ r) × (1 ≤ length w) × ((q : List ℕ) → p (w ++ q) ≡ some q)

pub stands_le : (s w r : List ℕ) → s ≡ w ++ r → length w ≤ length s
stands_le s w r e = omega (arith, simp length-append at (ap length e))

pub takes_less : (p : List ℕ → Optional (List ℕ)) → Takes p → (s r : List ℕ) → p s ≡ some r → length r < length s
takes_less p loc s r h = let w = loc s r h in omega (arith, w.2, simp length-append at (ap length w.1))

rest_stands : {A : Type 0} (f : List ℕ → Out A) → Local f → (s r : List ℕ) → rest_of (f s) ≡ some r → Stands (λ t. rest_of (f t)) s r
rest_stands f loc s r h = rest_got (f s) h λ a fs e. let w = loc s a fs r e in (w.0, w.1, λ q. rw (w.2 q))

-- ---- a name and a leaf

pub local_name : Local read_name
local_name = local_bind read_text (λ n r. raise (is_empty n) Blank (got n [] r)) local_text (λ n. local_raise (is_empty n) Blank n)

pub name_stands : (named : Bool) (s r : List ℕ) → name_rest named s ≡ some r → Stands (name_rest named) s r
name_stands true s r h = rest_stands read_name local_name s r h
name_stands false s r h = ([], same h, λ q. refl)

leaf_rest_law : (k : Kind) (p : List ℕ → Out Leaf) → payload k ≡ leaf p → (s : List ℕ) → rest_of (head k s) ≡ rest_of (p s)
unfolding head
leaf_rest_law k p e s = rw e (go (p s))
  where
    go : (o : Out Leaf) → rest_of (make value o) ≡ rest_of o
    go (fault j) = refl
    go (got v fs r) = rw (with_put fs [] (value v) r)

leaf_stands : (k : Kind) (p : List ℕ → Out Leaf) → payload k ≡ leaf p → (s r : List ℕ) → rest_of (p s) ≡ some r → Stands (λ t. rest_of (p t)) s r
leaf_stands k p e s r h =
    let w = rest_stands (head k) (local_head k) s r (leaf_rest_law k p e s ∙ h) in (w.0, w.1, λ q. sym (leaf_rest_law k p e (w.0 ++ q)) ∙ w.2 q)

pub leaf_less : (k : Kind) (p : List ℕ → Out Leaf) → payload k ≡ leaf p → (s r : List ℕ) → rest_of (p s) ≡ some r → length r ≤ length s
leaf_less k p e s r h = let w = leaf_stands k p e s r h in omega (arith, simp length-append at (ap length w.1))

-- ---- frames up to the close

module _ (p : List ℕ → Optional (List ℕ)) (loc : Takes p) where
  abbrev UntilStands : List ℕ → List ℕ → Type 0
  UntilStands s r = (w : List ℕ) × (s ≡ w ++ r) × (1 ≤ length w) × ((k : ℕ) (q : List ℕ) → length w ≤ k → pass_until p k (w ++ q) ≡ some q)

  until_stands : (m : ℕ) (s r : List ℕ) → pass_until p m s ≡ some r → UntilStands s r
  until_stands zero s r h = unpassed h
  until_stands (suc m) [] r h = unpassed h
  until_stands (suc m) (b ∷ s) r h = go (eqb b 0) refl (until_stands m) h
    where
      closed : eqb b 0 ≡ true → (k : ℕ) (q : List ℕ) → 1 ≤ k → pass_until p k (b ∷ q) ≡ some q
      closed e zero q l = absurd (omega arith)
      closed e (suc k) q l = rw e

      follow : (v w : List ℕ) → eqb b 0 ≡ false → ((q : List ℕ) → p ((b ∷ v) ++ q) ≡ some q)
          → ((k : ℕ) (q : List ℕ) → length w ≤ k → pass_until p k (w ++ q) ≡ some q)
          → (k : ℕ) (q : List ℕ) → length ((b ∷ v) ++ w) ≤ k → pass_until p k (((b ∷ v) ++ w) ++ q) ≡ some q
      follow v w e f g zero q l = absurd (omega arith)
      follow v w e f g (suc k) q l = rw (append_assoc (b ∷ v) w q, e, f (w ++ q)) (g k q (omega (arith, length-append v w)))

      first : (v w q : List ℕ) → eqb b 0 ≡ false → b ∷ s ≡ v ++ q → 1 ≤ length v → ((q : List ℕ) → p (v ++ q) ≡ some q) → q ≡ w ++ r
          → ((k : ℕ) (q : List ℕ) → length w ≤ k → pass_until p k (w ++ q) ≡ some q) → UntilStands (b ∷ s) r
      first [] w q e i l f j g = absurd (omega arith)
      first (a ∷ v) w q e i l f j g =
          let y : b ≡ a = cc in
          ((b ∷ v) ++ w, rw (append_assoc (b ∷ v) w r, ← j) (i ∙ ap (λ t. t ∷ (v ++ q)) (sym y)), omega arith, follow v w e (rw (← y) at f) g)

      go : (t : Bool) → eqb b 0 ≡ t → ((s r : List ℕ) → pass_until p m s ≡ some r → UntilStands s r)
          → cond t (some s) (onward none (p (b ∷ s)) λ r. pass_until p m r) ≡ some r → UntilStands (b ∷ s) r
      go true e ih h = (b ∷ [], ap (λ t. b ∷ t) (same h), omega arith, closed e)
      go false e ih h = onward_got (p (b ∷ s)) _ h λ q i j.
          let f = loc (b ∷ s) q i in
          let g = ih q r j in
          first f.0 g.0 q e f.1 f.2 f.3 g.1 g.3

  onward_same : (s : List ℕ) (f g : List ℕ → Optional (List ℕ)) → ((r : List ℕ) → length r < length s → f r ≡ g r) → onward none (p s) f ≡ onward none (p s) g
  onward_same s f g e = go (p s) refl
    where
      go : (o : Optional (List ℕ)) → p s ≡ o → onward none o f ≡ onward none o g
      go none i = refl
      go (some r) i = e r (takes_less p loc s r i)

  until_bound : (n m : ℕ) (s : List ℕ) → length s ≤ n → length s ≤ m → pass_until p n s ≡ pass_until p m s
  until_bound zero zero s a b = refl
  until_bound zero (suc m) [] a b = refl
  until_bound zero (suc m) (c ∷ s) a b = absurd (omega arith)
  until_bound (suc n) zero [] a b = refl
  until_bound (suc n) zero (c ∷ s) a b = absurd (omega arith)
  until_bound (suc n) (suc m) [] a b = refl
  until_bound (suc n) (suc m) (c ∷ s) a b = ap (cond (eqb c 0) (some s)) (onward_same (c ∷ s) _ _ λ r l. until_bound n m r (omega arith) (omega arith))

  -- one frame, and those behind it
  pub until_step : (b : ℕ) (s : List ℕ) → eqb b 0 ≡ false
      → pass_until p (length (b ∷ s)) (b ∷ s) ≡ onward none (p (b ∷ s)) λ r. pass_until p (length r) r
  until_step b s e = rw e (onward_same (b ∷ s) _ _ λ r l. until_bound (length s) (length r) r (omega arith) (omega arith))

-- ---- a frame

module _ (p : Bool → List ℕ → Optional (List ℕ)) (loc : (named : Bool) → Takes (p named)) where
  contents_stands : (named : Bool) (s r : List ℕ) → pass_until (p named) (length s) s ≡ some r → Stands (λ t. pass_until (p named) (length t) t) s r
  contents_stands named s r h =
      let w = until_stands (p named) (loc named) (length s) s r h in
      (w.0, w.1, λ q. w.3 (length (w.0 ++ q)) q (stands_le (w.0 ++ q) w.0 q refl))

  payload_stands : (k : Kind) (y : Payload) → payload k ≡ y → (s r : List ℕ) → pass_payload p y s ≡ some r → Stands (pass_payload p y) s r
  payload_stands k (leaf q) e s r h = leaf_stands k q e s r h
  payload_stands k fields e s r h = contents_stands true s r h
  payload_stands k shared_fields e s r h = unpassed h
  payload_stands k items e s r h = contents_stands false s r h
  payload_stands k shared_items e s r h = unpassed h

  frame_takes : (named : Bool) → Takes (pass_frame p named)
  frame_takes named [] r h = unpassed h
  frame_takes named (b ∷ s) r h = go (writable b) refl h
    where
      go : (o : Option Kind) → writable b ≡ o → pass_known p named o s ≡ some r
          → (w : List ℕ) × (b ∷ s ≡ w ++ r) × (1 ≤ length w) × ((q : List ℕ) → pass_frame p named (w ++ q) ≡ some q)
      go None e h = unpassed h
      go (Some k) e h = onward_got (name_rest named s) _ h λ q i j.
          let v = name_stands named s q i in
          let u = payload_stands k (payload k) refl q r j in (
            b ∷ (v.0 ++ u.0),
            rw (append_assoc v.0 u.0 r, ← u.1, ← v.1),
            omega arith,
            λ t. rw (append_assoc v.0 u.0 t, e, v.2 (u.0 ++ t)) (u.2 t),
          )

pub pass_takes : (d : ℕ) (named : Bool) → Takes (pass_over d named)
unfolding pass_over
pass_takes zero named s r h = unpassed h
pass_takes (suc d) named s r h = frame_takes (pass_over d) (pass_takes d) named s r h

pub pass_less : (d : ℕ) (named : Bool) (s r : List ℕ) → pass_over d named s ≡ some r → length r < length s
pass_less d named s r h = takes_less (pass_over d named) (pass_takes d named) s r h

-- whatever stands behind it
pub pass_payload_stands : (d : ℕ) (k : Kind) (s r : List ℕ) → pass_payload (pass_over d) (payload k) s ≡ some r
    → Stands (pass_payload (pass_over d) (payload k)) s r
pass_payload_stands d k s r h = payload_stands (pass_over d) (pass_takes d) k (payload k) refl s r h
