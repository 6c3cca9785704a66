-- A leaf that stands in a list: its encoding is what stands there, but for a Float64 that Float32 holds.
use Rattle.std.specs.Prelude.{Some}
use Prim.Native.Nat.{ℕ, ◌≤◌}
use mathlib.Core.Path.{◌≡◌, refl, sym, ap, ◌∙◌}
use mathlib.Core.Bool.{Bool, true, false, cond}
use mathlib.Core.List.{List, [], ◌++◌}
use lib.ListN.{length, drop, take}
use lib.Seq.{length-take-le}
use lib.Dec.{ltb, eqb}
use borrow.Author.Tests.{eqb-true, eqb-false, ltb-false}
use Rattle.number.proofs.Clash.{clash}
use Rattle.number.specs.BigEndian.{Bytes, from_bytes, to_bytes}
use Rattle.number.proofs.BigEndianLaws.{to_from, bytes_take}
use Rattle.float.specs.Rule.{holds}
use Rattle.float.specs.Width.{is_nan64, narrow}
use Rattle.float.proofs.Laws.{holds_nan}
use Rattle.format.specs.declared.Kind.{Kind}
use Rattle.format.specs.declared.Kind.TheVariants.{Float32, Float64}
use Rattle.format.specs.declared.Stop.TheVariants.{Early}
use Rattle.format.specs.Kinds.{id, known}
use Rattle.format.specs.declared.Flaw.{Flaw}
use Rattle.format.specs.declared.Flaw.TheVariants.{Long, Low, Wide, NotUtf8}
use Rattle.format.specs.Parse.{Out, fault, got, bind, raise, fixed}
use Rattle.format.specs.Mask.{has}
use Rattle.format.specs.Tree.{number, nan64, Leaf, float}
use Rattle.format.specs.Payload.{float64, read_float64, Payload, leaf, fields, shared_fields, items, shared_items, payload, value, head}
use Rattle.format.specs.Encoding.{float_kind, float_payload, leaf_kind, leaf_payload}
use Rattle.faults.specs.Noted.{flaw_if}
use Rattle.format.proofs.Local.{with_put}
use Rattle.format.proofs.KindLaws.{known_rt}
use Rattle.format.proofs.HeadParts.{local_head}
use Rattle.format.proofs.LeavesBack.{OnlyBy, leaf_only}
use Rattle.frames.specs.FramePieces.{IsLeaf}
use Rattle.frames.proofs.Flaws.{leaf_clean}

-- ---- a Float64

double_kind : (b : ℕ) → float_kind (float64 b) ≡ cond (holds b) Float32 Float64
double_kind b = go (is_nan64 b) refl
  where
    go : (x : Bool) → is_nan64 b ≡ x → float_kind (cond x (nan64 b) (number b)) ≡ cond (holds b) Float32 Float64
    go true e = rw (holds_nan b e)
    go false e = refl

double_payload : (b : ℕ) → float_payload (float64 b) ≡ cond (holds b) (to_bytes 4 (narrow b)) (to_bytes 8 b)
double_payload b = go (is_nan64 b) refl
  where
    go : (x : Bool) → is_nan64 b ≡ x → float_payload (cond x (nan64 b) (number b)) ≡ cond (holds b) (to_bytes 4 (narrow b)) (to_bytes 8 b)
    go true e = rw (holds_nan b e)
    go false e = refl

abbrev pub bits_of : List ℕ → ℕ
bits_of s = from_bytes (take 8 s)

pub record Double (s : List ℕ) (v : Leaf) (fs : List Flaw) (r : List ℕ) : Type 0 where
  pub enough : 8 ≤ length s
  pub flaws : fs ≡ flaw_if (holds (bits_of s)) Wide
  pub left : r ≡ drop 8 s
  pub kind : leaf_kind v ≡ cond (holds (bits_of s)) Float32 Float64
  pub bytes : leaf_payload v ≡ cond (holds (bits_of s)) (to_bytes 4 (narrow (bits_of s))) (take 8 s)

double_got : (s : List ℕ) → Bytes s → {v : Leaf} {fs : List Flaw} {r : List ℕ} → read_float64 s ≡ got v fs r → Double s v fs r
unfolding fixed
double_got s w {v} {fs} {r} h = go (ltb (length s) 8) refl h
  where
    by : 8 ≤ length s → (x : Bool) → holds (bits_of s) ≡ x → raise x Wide (got (float (float64 (bits_of s))) [] (drop 8 s)) ≡ got v fs r → Double s v fs r
    by l x ex h =
        let c : length (take 8 s) ≡ 8 = length-take-le 8 s l in
        let b : to_bytes 8 (bits_of s) ≡ take 8 s = rw c at (to_from (take 8 s) (bytes_take 8 s w)) in
        made x ex h b
      where
        made : (x : Bool) → holds (bits_of s) ≡ x → raise x Wide (got (float (float64 (bits_of s))) [] (drop 8 s)) ≡ got v fs r
            → to_bytes 8 (bits_of s) ≡ take 8 s → Double s v fs r
        made true ex h b = let z : float (float64 (bits_of s)) ≡ v = cc in
            record {
              enough = l;
              flaws = rw ex (cc);
              left = cc;
              kind = rw (← z) (double_kind (bits_of s));
              bytes = ap leaf_payload (sym z) ∙ double_payload (bits_of s) ∙ ap (λ t. cond (holds (bits_of s)) (to_bytes 4 (narrow (bits_of s))) t) b;
            }
        made false ex h b = let z : float (float64 (bits_of s)) ≡ v = cc in
            record {
              enough = l;
              flaws = rw ex (cc);
              left = cc;
              kind = rw (← z) (double_kind (bits_of s));
              bytes = ap leaf_payload (sym z) ∙ double_payload (bits_of s) ∙ ap (λ t. cond (holds (bits_of s)) (to_bytes 4 (narrow (bits_of s))) t) b;
            }

    go : (x : Bool) → ltb (length s) 8 ≡ x → (bind (cond x (fault Early) (got (take 8 s) [] (drop 8 s))) λ b r.
        raise (holds (from_bytes b)) Wide (got (float (float64 (from_bytes b))) [] r)) ≡ got v fs r → Double s v fs r
    go true e h = clash cc
    go false e h = by (ltb-false (length s) 8 e) (holds (bits_of s)) refl h

-- ---- a leaf

pub kind_double : (k : Kind) → id k ≡ 11 → k ≡ Float64
unfolding known
kind_double k e = let z : known 11 ≡ Some k = rw e at (known_rt k) in cc

module _ (k : Kind) (p : List ℕ → Out Leaf) (e : payload k ≡ leaf p) (s : List ℕ) (w : Bytes s) {v : Leaf} {fs : List Flaw} {r : List ℕ}
    (h : p s ≡ got v fs r) where
  pub leaf_got : {X : Type 0} → has Long fs ≡ false → has Low fs ≡ false → has NotUtf8 fs ≡ false
      → ((id k ≡ 11 → ⊥) → fs ≡ [] → s ≡ leaf_payload v ++ r → leaf_kind v ≡ k → X) → (k ≡ Float64 → Double s v fs r → X) → X
  unfolding payload
  leaf_got {X} a b c f g = go (eqb (id k) 11) refl
    where
      plain : (id k ≡ 11 → ⊥) → fs ≡ [] → (q : Payload) → q ≡ leaf p → OnlyBy k q → X
      plain ne z (leaf q) y o = let t : q ≡ p = cc in let u = o s v r w (rw (t, h, z)) in f ne z u.0 u.1
      plain ne z fields y o = clash cc
      plain ne z shared_fields y o = clash cc
      plain ne z items y o = clash cc
      plain ne z shared_items y o = clash cc

      double : k ≡ Float64 → read_float64 s ≡ got v fs r → X
      double z y = g z (double_got s w y)

      go : (x : Bool) → eqb (id k) 11 ≡ x → X
      go true z =
          let y = kind_double k (eqb-true (id k) 11 z) in
          double y (let t : payload Float64 ≡ leaf p = rw y at e in
          let u : read_float64 ≡ p = cc in ap (λ (q : List ℕ → Out Leaf). q s) u ∙ h)
      go false z = let ne = eqb-false (id k) 11 z in plain ne (leaf_clean k p ne e s h a b c) (payload k) e (leaf_only k)

pub leaf_of_law : {X : Type 0} (k : Kind) → IsLeaf (payload k) → ((p : List ℕ → Out Leaf) → payload k ≡ leaf p → X) → X
leaf_of_law {X} k i c = go (payload k) refl i
  where
    go : (q : Payload) → payload k ≡ q → IsLeaf q → X
    go (leaf p) e i = c p e
    go fields e i = absurd i
    go shared_fields e i = absurd i
    go items e i = absurd i
    go shared_items e i = absurd i

-- what a leaf reader leaves is an end
pub leaf_left : (k : Kind) (p : List ℕ → Out Leaf) → payload k ≡ leaf p → (s : List ℕ) {v : Leaf} {fs : List Flaw} {r : List ℕ} → p s ≡ got v fs r
    → (w : List ℕ) × (s ≡ w ++ r)
unfolding head
leaf_left k p e s {v} {fs} {r} h =
    let z : head k s ≡ got (value v) (fs ++ []) r = rw (e, h) (with_put fs [] (value v) r) in
    let l = local_head k s (value v) (fs ++ []) r z in (l.0, l.1)
