-- The names of the frames in a part: no bound on how many matters once it is the length; and what the answer at a position says of them.
use Rattle.std.specs.Prelude.{Option, None, Some}
use Rattle.format.specs.declared.Kind.{Kind}
use Prim.Native.Nat.{ℕ, zero, suc, ◌+◌, ◌-◌, ◌≤◌, ◌<◌}
use native.Mathlib.Nat.{sub-zero}
use native.Mathlib.Omega.{arith}
use mathlib.Core.Path.{◌≡◌, refl, sym, ap, ◌∙◌}
use mathlib.Core.Bool.{true}
use mathlib.Core.Option.{Option as Optional, none, some}
use mathlib.Core.List.{List, [], ◌∷◌, ◌++◌, append_assoc}
use lib.ListN.{length, take, drop, length-append, take-append-drop}
use lib.Seq.{length-take-le, take_at, drop_at}
use Rattle.number.proofs.Clash.{clash}
use Rattle.format.specs.declared.Flaw.{Flaw}
use Rattle.format.specs.Parse.{Out, fault, got}
use Rattle.format.specs.Names.{read_name}
use Rattle.format.specs.Payload.{payload}
use Rattle.frames.specs.FramePieces.{writable}
use Rattle.format.proofs.Lists.{append_nil}
use Rattle.front.specs.Between.{between}
use Rattle.front.proofs.BetweenLaws.{end_drop}
use Rattle.frame.proofs.NameReturns.{name_parts}
use Rattle.twins.specs.Walk.{onward}
use Rattle.passing.specs.Pass.{pass_payload, pass_known, pass_over}
use Rattle.passing.specs.FrameNames.{name_known, name_of, names_from, names_until, frame_names, name_in, name_at}
use Rattle.passing.proofs.PassLaws.{pass_less, pass_payload_stands}
use Rattle.names.specs.declared.Name.{Name}
use Rattle.names.proofs.MadeLaws.{name_same}

-- ---- the bound

from_same : (d : ℕ) (s : List ℕ) (o : Out (List ℕ)) (f g : List ℕ → List (List ℕ)) → ((r : List ℕ) → length r < length s → f r ≡ g r)
    → names_from o (pass_over d true s) f ≡ names_from o (pass_over d true s) g
from_same d s (fault k) f g e = refl
from_same d s (got n fs q) f g e = ap (λ ns. n ∷ ns) (go (pass_over d true s) refl)
  where
    go : (o : Optional (List ℕ)) → pass_over d true s ≡ o → onward [] o f ≡ onward [] o g
    go none i = refl
    go (some r) i = e r (pass_less d true s r i)

pub no_name : (d : ℕ) {n : List ℕ} {fs : List Flaw} {q : List ℕ} {X : Type 0} → name_of d [] ≡ got n fs q → X
unfolding name_of
no_name zero h = clash cc
no_name (suc d) h = clash cc

from_nothing : (d : ℕ) (f : List ℕ → List (List ℕ)) → names_from (name_of d []) (pass_over d true []) f ≡ []
from_nothing d f = go (name_of d []) refl
  where
    go : (o : Out (List ℕ)) → name_of d [] ≡ o → names_from o (pass_over d true []) f ≡ []
    go (fault k) e = refl
    go (got n fs q) e = no_name d e

names_bound : (d n m : ℕ) (s : List ℕ) → length s ≤ n → length s ≤ m → names_until d n s ≡ names_until d m s
unfolding names_until
names_bound d zero zero s a b = refl
names_bound d zero (suc m) [] a b = sym (from_nothing d λ r. names_until d m r)
names_bound d zero (suc m) (c ∷ s) a b = absurd (omega arith)
names_bound d (suc n) zero [] a b = from_nothing d λ r. names_until d n r
names_bound d (suc n) zero (c ∷ s) a b = absurd (omega arith)
names_bound d (suc n) (suc m) s a b =
    from_same d s (name_of d s) (λ r. names_until d n r) (λ r. names_until d m r) λ r l. names_bound d n m r (omega arith) (omega arith)

-- a frame's name, and those behind it
pub names_step : (d : ℕ) (s : List ℕ) → frame_names d s ≡ names_from (name_of d s) (pass_over d true s) (frame_names d)
unfolding names_until
names_step d [] = sym (from_nothing d (frame_names d))
names_step d (c ∷ s) =
    from_same d (c ∷ s) (name_of d (c ∷ s)) (λ r. names_until d (length s) r) (frame_names d) λ r l. names_bound d (length s) (length r) r
    (omega arith) (omega arith)

pub names_nil : (d : ℕ) → frame_names d [] ≡ []
unfolding names_until
names_nil d = refl

-- ---- where a frame's name stands

-- behind its kind
pub named_parts : (d : ℕ) (s : List ℕ) {n : List ℕ} {fs : List Flaw} {q : List ℕ} → name_of d s ≡ got n fs q
    → (b : ℕ) × ((t : List ℕ) × (s ≡ b ∷ t) × (read_name t ≡ got n fs q) × ((w : List ℕ) × (t ≡ w ++ (n ++ q))))
unfolding name_of
named_parts zero s h = clash cc
named_parts (suc d) [] h = clash cc
named_parts (suc d) (b ∷ s) {n} {fs} {q} h = go (writable b) h
  where
    go : (o : Option Kind) → name_known o s ≡ got n fs q
        → (c : ℕ) × ((t : List ℕ) × (b ∷ s ≡ c ∷ t) × (read_name t ≡ got n fs q) × ((w : List ℕ) × (t ≡ w ++ (n ++ q))))
    go None h = clash cc
    go (Some k) h = (b, (s, refl, h, name_parts s h))

-- what is left behind the frame is left behind its name too
pub named_passed : (d : ℕ) (s : List ℕ) {n : List ℕ} {fs : List Flaw} {q r : List ℕ} → name_of d s ≡ got n fs q → pass_over d true s ≡ some r
    → (u : List ℕ) × (q ≡ u ++ r)
unfolding name_of pass_over
named_passed zero s h i = clash cc
named_passed (suc d) [] h i = clash cc
named_passed (suc d) (b ∷ s) {n} {fs} {q} {r} h i = go (writable b) h i
  where
    go : (o : Option Kind) → name_known o s ≡ got n fs q → pass_known (pass_over d) true o s ≡ some r → (u : List ℕ) × (q ≡ u ++ r)
    go None h i = clash cc
    go (Some k) h i = let j : pass_payload (pass_over d) (payload k) q ≡ some r = rw h at i in let w = pass_payload_stands d k q r j in (w.0, w.1)

-- ---- the name at a position

-- a name that is found in a part: where it stands, where the next frame stands, and the names from here on
pub record Found (d : ℕ) (s : List ℕ) (a b e n : ℕ) : Type 0 where
  pub begins : a < b
  pub ordered : b ≤ e
  pub before : e ≤ n
  pub inside : n ≤ length s
  pub onward : a < n
  pub names : frame_names d (drop a s) ≡ between b e s ∷ frame_names d (drop n s)

-- behind c stands the name m; q is left behind it, whose end is r
found_front : (d a : ℕ) (s c m q u r : List ℕ) → s ≡ c ++ (m ++ q) → q ≡ u ++ r → a < length c → frame_names d (drop a s) ≡ m ∷ frame_names d r
    → Found d s a (length s - length q - length m) (length s - length q) (length s - length r)
found_front d a s c m q u r e i l j =
    let x : length s ≡ length c + (length m + length q) = simp length-append at (ap length e) in
    let y : length q ≡ length u + length r = simp length-append at (ap length i) in
    let o : length s - length q ≡ length c + length m = omega arith in
    let p : length s - length q - length m ≡ length c = rw o (omega arith) in
    let t : length c + length m - length c ≡ length m = omega arith in
    let k : between (length c) (length c + length m) s ≡ m = rw (t, e, drop_at c (m ++ q) (length c) refl, take_at m q (length m) refl) in
    let h : s ≡ (c ++ (m ++ u)) ++ r = rw (append_assoc c (m ++ u) r, append_assoc m u r, ← i) e in
    rw (p, o) (record {
      begins = l;
      ordered = omega arith;
      before = omega arith;
      inside = omega arith;
      onward = omega arith;
      names = rw (k, end_drop s (c ++ (m ++ u)) r h) j;
    })

module _ (d a : ℕ) (s : List ℕ) where
  pub none_at : name_at d a s ≡ None → frame_names d (drop a s) ≡ []
  unfolding name_at
  none_at h = names_step d (drop a s) ∙ go (name_of d (drop a s)) h
    where
      go : (o : Out (List ℕ)) → name_in (length s) o (pass_over d true (drop a s)) ≡ None → names_from o (pass_over d true (drop a s)) (frame_names d) ≡ []
      go (fault k) h = refl
      go (got n fs q) h = clash cc

  pub found_at : a ≤ length s → (f : Name) → name_at d a s ≡ Some f → Found d s a f.begin f.end f.next
  unfolding name_at
  found_at l f h = go (name_of d (drop a s)) refl (pass_over d true (drop a s)) refl h
    where
      go : (o : Out (List ℕ)) → name_of d (drop a s) ≡ o → (p : Optional (List ℕ)) → pass_over d true (drop a s) ≡ p → name_in (length s) o p ≡ Some f
          → Found d s a f.begin f.end f.next
      go (fault k) i p j h = clash cc
      go (got m fs q) i p j h = by p j h
        where
          parts : (r : List ℕ) → (u : List ℕ) × (q ≡ u ++ r) → frame_names d (drop a s) ≡ m ∷ frame_names d r
              → Found d s a (length s - length q - length m) (length s - length q) (length s - length r)
          parts r u k =
              let x = named_parts d (drop a s) i in
              let w = x.0 ∷ x.1.3.0 in
              let z : s ≡ (take a s ++ w) ++ (m ++ q) =
              sym (take-append-drop a s) ∙ ap (λ t. take a s ++ t) (x.1.1 ∙ ap (λ t. x.0 ∷ t) x.1.3.1) ∙ sym (append_assoc (take a s) w (m ++ q)) in
              found_front d a s (take a s ++ w) m q u.0 r z u.1 (omega (arith, length-append (take a s) w, length-take-le a s l)) k

          by : (p : Optional (List ℕ)) → pass_over d true (drop a s) ≡ p → name_in (length s) (got m fs q) p ≡ Some f → Found d s a f.begin f.end f.next
          by none j h =
              let z = name_same h in
              let y : length s - 0 ≡ f.next = rw sub-zero z.2 in
              rw (← z.0, ← z.1, ← y) (parts [] (q, sym (append_nil q)) (names_step d (drop a s) ∙ rw (i, j, names_nil d)))
          by (some r) j h =
              let z = name_same h in
              rw (← z.0, ← z.1, ← z.2) (parts r (named_passed d (drop a s) i j) (names_step d (drop a s) ∙ rw (i, j)))
