-- Frames of an object that were read one after another: in the part that ends behind them stand their names, in order; and in the part that ends with the name
-- of the next frame that name too, the last.
use Rattle.std.specs.Prelude.{Option, None, Some, Err}
use Rattle.format.specs.declared.Kind.{Kind}
use Prim.Native.Nat.{ℕ, zero, suc, ◌+◌, ◌-◌, ◌≤◌, ◌<◌}
use native.Mathlib.Omega.{arith}
use mathlib.Core.Path.{◌≡◌, refl, sym, ap, ◌∙◌}
use mathlib.Core.Bool.{Bool, true, false, cond}
use mathlib.Core.Option.{Option as Optional, none, some}
use mathlib.Core.List.{List, [], ◌∷◌, ◌++◌, append_assoc, map}
use lib.ListN.{length, take, drop, length-append, length-drop}
use lib.Seq.{take_at, drop-drop}
use Rattle.number.proofs.Clash.{clash}
use Rattle.format.specs.declared.Flaw.{Flaw}
use Rattle.format.specs.declared.Flaw.TheVariants.{Blank, Long, NotUtf8}
use Rattle.format.specs.Mask.{has}
use Rattle.format.specs.Parse.{got}
use Rattle.format.specs.Tree.{Tree}
use Rattle.format.proofs.Lists.{append_nil}
use Rattle.frames.specs.declared.Refusal.TheVariants.{BadFrame, EmptyName, NotText}
use Rattle.frames.specs.FramePieces.{writable}
use Rattle.frames.specs.WriteList.{framed, read_frames}
use Rattle.front.specs.Between.{between}
use Rattle.frame.specs.Pieces as pieces
use Rattle.frame.proofs.MadeLaws.{name_same}
use Rattle.frame.specs.Made.{name_read}
use Rattle.twins.specs.Own.{own_name}
use Rattle.twins.specs.Walk.{onward}
use Rattle.passing.specs.Pass.{pass_over}
use Rattle.passing.specs.FrameNames.{name_known, name_of, frame_names}
use Rattle.passing.proofs.PassLaws.{local_name, pass_takes, pass_less}
use Rattle.passing.proofs.PassRead.{pass_read, own_name_law, read_name_law}
use Rattle.passing.proofs.FrameReturns.{rest_at}
use Rattle.passing.proofs.NamesLaws.{names_step, names_nil, named_parts, named_passed}

-- ---- one frame, whatever stands behind it

cancel : (v z r : List ℕ) → v ++ r ≡ z ++ r → v ≡ z
cancel v z r e =
    let l : length v + length r ≡ length z + length r = simp length-append at (ap length e) in
    sym (take_at v r (length v) refl) ∙ ap (take (length v)) e ∙ take_at z r (length v) (omega arith)

name_stands : (d : ℕ) (s : List ℕ) {n : List ℕ} {fs : List Flaw} {q : List ℕ} → name_of d s ≡ got n fs q
    → (w : List ℕ) × (s ≡ w ++ q) × ((t : List ℕ) → name_of d (w ++ t) ≡ got n fs t)
unfolding name_of
name_stands zero s h = clash cc
name_stands (suc d) [] h = clash cc
name_stands (suc d) (b ∷ s) {n} {fs} {q} h = go (writable b) refl h
  where
    go : (o : Option Kind) → writable b ≡ o → name_known o s ≡ got n fs q → (w : List ℕ) × (b ∷ s ≡ w ++ q) × ((t : List ℕ) → name_of (suc d) (w ++ t) ≡ got n fs t)
    go None e h = clash cc
    go (Some k) e h = let w = local_name s n fs q h in (b ∷ w.0, ap (λ t. b ∷ t) w.1, λ t. rw e (w.2 t))

-- it is passed over: its name, and those behind it
names_on : (d : ℕ) (s : List ℕ) {n : List ℕ} {fs : List Flaw} {q r : List ℕ} → name_of d s ≡ got n fs q → pass_over d true s ≡ some r
    → (v : List ℕ) × (s ≡ v ++ r) × ((m : List ℕ) → frame_names d (v ++ m) ≡ n ∷ frame_names d m)
names_on d s {n} {fs} {q} {r} h i =
    let v = pass_takes d true s r i in
    let w = name_stands d s h in
    let u = named_passed d s h i in
    let z : v.0 ≡ w.0 ++ u.0 = cancel v.0 (w.0 ++ u.0) r (sym v.1 ∙ w.1 ∙ ap (λ t. w.0 ++ t) u.1 ∙ sym (append_assoc w.0 u.0 r)) in
    let y : (m : List ℕ) → name_of d (v.0 ++ m) ≡ got n fs (u.0 ++ m) =
    λ m. ap (λ t. name_of d (t ++ m)) z ∙ ap (name_of d) (append_assoc w.0 u.0 m) ∙ w.2 (u.0 ++ m) in
    (v.0, v.1, λ m. names_step d (v.0 ++ m) ∙ rw (y m, v.3 m))

-- nothing stands behind its name
names_last : (d : ℕ) (s : List ℕ) {n : List ℕ} {fs : List Flaw} → name_of d s ≡ got n fs [] → frame_names d s ≡ n ∷ []
names_last d s {n} h = names_step d s ∙ rw h (ap (λ ns. n ∷ ns) (go (pass_over d true s) refl))
  where
    nothing : (u r : List ℕ) → [] ≡ u ++ r → r ≡ []
    nothing [] r e = sym e
    nothing (b ∷ u) r e = clash cc

    go : (o : Optional (List ℕ)) → pass_over d true s ≡ o → onward [] o (frame_names d) ≡ []
    go none i = refl
    go (some r) i = let u = named_passed d s h i in rw (nothing u.0 r u.1) (names_nil d)

-- ---- frames that were read one after another

-- from s on up to what is left: each by what is left from it on, and its name
pub data Over (d : ℕ) (s : List ℕ) : List (List ℕ × List ℕ) → List ℕ → Type 0 where
  begun : Over d s [] s
  onto : {fs : List (List ℕ × List ℕ)} {q : List ℕ} {x : List ℕ × Tree d} {r : List ℕ} → Over d s fs q → read_frames d (some []) q ≡ framed x r
      → Over d s (fs ++ ((q, x.0) ∷ [])) r

abbrev pub names_of : List (List ℕ × List ℕ) → List (List ℕ)
names_of fs = map (λ f. f.1) fs

names_append : (fs gs : List (List ℕ × List ℕ)) → names_of (fs ++ gs) ≡ names_of fs ++ names_of gs
names_append [] gs = refl
names_append (f ∷ fs) gs = ap (λ ns. f.1 ∷ ns) (names_append fs gs)

-- their names come first, whatever stands behind them
pub own_walked : (d : ℕ) (s : List ℕ) {fs : List (List ℕ × List ℕ)} {r : List ℕ} → Over d s fs r
    → (w : List ℕ) × (s ≡ w ++ r) × ((m : List ℕ) → frame_names d (w ++ m) ≡ names_of fs ++ frame_names d m)
own_walked d s begun = ([], refl, λ m. refl)
own_walked d s (onto {fs} {q} {x} {r} o e) =
    let i = own_walked d s o in
    let n = read_name_law d [] q x r e in
    let f = names_on d q n.1.1 (pass_read d (some []) q x r e) in (
      i.0 ++ f.0,
      rw (append_assoc i.0 f.0 r, ← f.1) i.1,
      λ m. rw (append_assoc i.0 f.0 m, names_append fs ((q, x.0) ∷ []), append_assoc (names_of fs) (x.0 ∷ []) (frame_names d m))
          (i.2 (f.0 ++ m) ∙ ap (λ ns. names_of fs ++ ns) (f.2 m)),
    )

-- ---- by positions of the list

cut_at : (s w r : List ℕ) (at p : ℕ) → at ≤ p → p ≤ length s → drop at s ≡ w ++ r → length r ≡ length s - p → between at p s ≡ w
cut_at s w r at p a b e l =
    let n : length s - at ≡ length w + length r = sym (length-drop at s) ∙ (simp length-append at (ap length e)) in
    rw e (take_at w r (p - at) (omega arith))

module _ (d : ℕ) (s : List ℕ) (at p : ℕ) (a : at ≤ p) (b : p ≤ length s) {fs : List (List ℕ × List ℕ)} (o : Over d (drop at s) fs (drop p s)) where
  -- the next frame was read too
  pub over_next : (x : List ℕ × Tree d) (r : List ℕ) → read_frames d (some []) (drop p s) ≡ framed x r
      → (p < length s - length r) × (length s - length r ≤ length s) × Over d (drop at s) (fs ++ ((drop p s, x.0) ∷ [])) (drop (length s - length r) s)
  over_next x r e =
      let i = pass_read d (some []) (drop p s) x r e in
      let w = pass_takes d true (drop p s) r i in
      let z : drop (length s - length r) s ≡ r = rest_at p s w.0 r b w.1 in
      let l = pass_less d true (drop p s) r i in
      let m = length-drop p s in
      (omega arith, omega arith, rw z (onto o e))

  -- the part that ends behind them
  pub names_over : frame_names d (between at p s) ≡ names_of fs
  names_over =
      let w = own_walked d (drop at s) o in
      let z : between at p s ≡ w.0 = cut_at s w.0 (drop p s) at p a b w.1 (length-drop p s) in
      rw z (ap (frame_names d) (sym (append_nil w.0)) ∙ w.2 [] ∙ rw (names_nil d) (append_nil (names_of fs)))

  -- the part that ends with the next frame's name
  pub name_over : {n : List ℕ} {gs : List Flaw} {q : List ℕ} → name_of d (drop p s) ≡ got n gs q
      → frame_names d (between at (length s - length q) s) ≡ names_of fs ++ (n ∷ [])
  name_over {n} {gs} {q} h =
      let w = own_walked d (drop at s) o in
      let y = name_stands d (drop p s) h in
      let l : length s - p ≡ length y.0 + length q = sym (length-drop p s) ∙ (simp length-append at (ap length y.1)) in
      let e : drop at s ≡ (w.0 ++ y.0) ++ q = w.1 ∙ ap (λ t. w.0 ++ t) y.1 ∙ sym (append_assoc w.0 y.0 q) in
      let z : between at (length s - length q) s ≡ w.0 ++ y.0 =
      cut_at s (w.0 ++ y.0) q at (length s - length q) (omega arith) (omega arith) e (omega arith) in
      let k : name_of d y.0 ≡ got n gs [] = ap (name_of d) (sym (append_nil y.0)) ∙ y.2 [] in
      rw z (w.2 y.0 ∙ ap (λ ns. names_of fs ++ ns) (names_last d y.0 k))

  -- whose name is right, and is found behind its kind
  pub own_over : (n : List ℕ) → own_name d (drop p s) ≡ some n → (begin e : ℕ) → pieces.name_at s (p + 1) ≡ name_read begin e
      → frame_names d (between at e s) ≡ names_of fs ++ (n ∷ [])
  unfolding pieces.name_at
  own_over n h begin e i =
      let w = own_name_law d (drop p s) n h in
      let x = named_parts d (drop p s) w.1.1 in
      let t : drop (p + 1) s ≡ x.1.0 = sym (drop-drop 1 p s) ∙ ap (drop 1) x.1.1 in
      let j : pieces.name_by (length s) (got n w.0 w.1.0) ≡ name_read begin e = rw (t, x.1.2) at i in
      let z : length s - length w.1.0 ≡ e = go (length s) w.0 w.1.0 j in
      rw (← z) (name_over w.1.1)
    where
      go : (total : ℕ) (gs : List Flaw) (q : List ℕ) → pieces.name_by total (got n gs q) ≡ name_read begin e → total - length q ≡ e
      go total gs q h = by (has Long gs) (has Blank gs) (has NotUtf8 gs) h
        where
          by : (a b c : Bool)
              → cond a (Err BadFrame) (cond b (Err EmptyName) (cond c (Err NotText) (name_read (total - length q - length n) (total - length q))))
              ≡ name_read begin e
              → total - length q ≡ e
          by true b c h = clash cc
          by false true c h = clash cc
          by false false true h = clash cc
          by false false false h = (name_same h).1
