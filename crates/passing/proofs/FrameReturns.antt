-- A frame at a position, and the frames of a container one after another: what the code knows at each return and in its loop.
use Rattle.std.specs.Prelude.{Option, None, Some}
use Prim.Native.Nat.{ℕ, zero, suc, ◌+◌, ◌-◌, ◌≤◌, ◌<◌}
use native.Mathlib.Omega.{arith}
use native.Mathlib.Numerals.{add-one}
use mathlib.Core.Path.{◌≡◌, refl, sym, ap, ◌∙◌}
use mathlib.Core.Bool.{Bool, true, false}
use mathlib.Core.Option.{Option as Optional, none, some}
use mathlib.Core.List.{List, ◌++◌, append_assoc}
use lib.ListN.{length, take, drop, get_or, length-append, length-drop, take-append-drop, drop_of_length-le}
use lib.Seq.{drop-cons}
use borrow.Author.Tests.{eq-eqb, ne_eqb}
use Rattle.number.proofs.Clash.{clash}
use Rattle.format.specs.declared.Kind.{Kind}
use Rattle.format.specs.declared.Kind.TheVariants.{Object, Array}
use Rattle.format.specs.Payload.{Payload, leaf, fields, shared_fields, items, shared_items, payload}
use Rattle.front.proofs.BetweenLaws.{end_drop}
use Rattle.frames.specs.FramePieces.{writable}
use Rattle.frames.proofs.FrontLaws.{leaf_kind_law}
use Rattle.frames.proofs.Used.{kind_object, kind_array}
use Rattle.twins.specs.Walk.{onward, name_rest}
use Rattle.passing.specs.Pass.{pass_until, pass_payload, pass_known, pass_over}
use Rattle.passing.specs.Code.{end_of, leaf_rest, name_end, leaf_end, contents_end, payload_end, frame_end}
use Rattle.passing.proofs.PassLaws.{pass_takes, pass_less, until_step, name_stands}
use Rattle.passing.proofs.PartReturns.{here_at}

-- what is left, from where it begins
pub rest_at : (a : ℕ) (s w r : List ℕ) → a ≤ length s → drop a s ≡ w ++ r → drop (length s - length r) s ≡ r
rest_at a s w r l e =
    end_drop s (take a s ++ w) r (sym (take-append-drop a s) ∙ ap (λ t. take a s ++ t) e ∙ sym (append_assoc (take a s) w r))

-- ---- the frames of a container

module _ (d : ℕ) (named : Bool) (s : List ℕ) where
  pub contents_end_law : (p : ℕ) → length s ≤ p → None ≡ contents_end d named p s
  unfolding contents_end
  contents_end_law p l = rw (drop_of_length-le s l)

  pub contents_close : (p : ℕ) → p < length s → get_or s p 0 ≡ 0 → Some (p + 1) ≡ contents_end d named p s
  unfolding contents_end
  contents_close p l z =
      rw (drop-cons s p 0 l, eq-eqb (get_or s p 0) 0 z, add-one p) (ap Some (sym (here_at (suc p) s (omega arith))))

  module _ (p : ℕ) (l : p < length s) (z : get_or s p 0 ≡ 0 → ⊥) (y : Option ℕ) (e : y ≡ frame_end d named p s) where
    step : contents_end d named p s ≡ end_of (length s) (onward none (pass_over d named (drop p s)) λ r. pass_until (pass_over d named) (length r) r)
    unfolding contents_end
    step = rw (drop-cons s p 0 l)
        (ap (end_of (length s)) (until_step (pass_over d named) (pass_takes d named) (get_or s p 0) (drop (suc p) s) (ne_eqb (get_or s p 0) 0 z)))

    pub contents_stuck : y ≡ None → None ≡ contents_end d named p s
    unfolding frame_end
    contents_stuck i = go (pass_over d named (drop p s)) (sym i ∙ e) ∙ sym step
      where
        go : (o : Optional (List ℕ)) → None ≡ end_of (length s) o
            → None ≡ end_of (length s) (onward none o λ r. pass_until (pass_over d named) (length r) r)
        go none i = refl
        go (some r) i = clash cc

    module _ (q : ℕ) (i : y ≡ Some q) where
      contents_case : (p < q) × (q ≤ length s) × (contents_end d named p s ≡ contents_end d named q s)
      unfolding frame_end contents_end
      contents_case = go (pass_over d named (drop p s)) refl (sym i ∙ e) step
        where
          go : (o : Optional (List ℕ)) → pass_over d named (drop p s) ≡ o → Some q ≡ end_of (length s) o
              → contents_end d named p s ≡ end_of (length s) (onward none o λ r. pass_until (pass_over d named) (length r) r)
              → (p < q) × (q ≤ length s) × (contents_end d named p s ≡ contents_end d named q s)
          go none i j k = clash cc
          go (some r) i j k =
              let u : q ≡ length s - length r = cc in
              let n = pass_less d named (drop p s) r i in
              let m = length-drop p s in
              let w = pass_takes d named (drop p s) r i in
              let x : drop q s ≡ r = rw u (rest_at p s w.0 r (omega arith) w.1) in
              (omega arith, omega arith, k ∙ ap (λ t. end_of (length s) (pass_until (pass_over d named) (length t) t)) (sym x))

      pub contents_less : (p < q) × (q ≤ length s)
      contents_less = (contents_case.0, contents_case.1)

      pub contents_on : contents_end d named p s ≡ contents_end d named q s
      contents_on = contents_case.2

-- ---- a payload

module _ (d : ℕ) (k : Kind) (a : ℕ) (s : List ℕ) (y : Option ℕ) where
  pub payload_object : k ≡ Object → y ≡ contents_end d true a s → y ≡ payload_end d k a s
  unfolding contents_end payload_end payload
  payload_object j h = rw j h

  pub payload_array : k ≡ Array → y ≡ contents_end d false a s → y ≡ payload_end d k a s
  unfolding contents_end payload_end payload
  payload_array j h = rw j h

  pub payload_leaf : (k ≡ Object → ⊥) → (k ≡ Array → ⊥) → y ≡ leaf_end k a s → y ≡ payload_end d k a s
  unfolding leaf_end payload_end
  payload_leaf m n h = h ∙ ap (end_of (length s)) (go (payload k) refl)
    where
      go : (q : Payload) → payload k ≡ q → leaf_rest q (drop a s) ≡ pass_payload (pass_over d) q (drop a s)
      go (leaf p) j = refl
      go fields j = absurd (rw j at (leaf_kind_law k (rw j) (λ z. m (kind_object k z)) (λ z. n (kind_array k z))))
      go shared_fields j = refl
      go items j = absurd (rw j at (leaf_kind_law k (rw j) (λ z. m (kind_object k z)) (λ z. n (kind_array k z))))
      go shared_items j = refl

-- ---- a frame

pub frame_deep : (d : ℕ) (named : Bool) (a : ℕ) (s : List ℕ) → d ≡ 0 → None ≡ frame_end d named a s
unfolding frame_end pass_over
frame_deep d named a s e = rw e

module _ (d : ℕ) (named : Bool) (a : ℕ) (s : List ℕ) (l : a < length s) (n : d ≡ 0 → ⊥) (o : Option Kind) (e : o ≡ writable (get_or s a 0)) where
  pub pass_known_law : pass_over d named (drop a s) ≡ pass_known (pass_over (d - 1)) named o (drop (a + 1) s)
  unfolding pass_over
  pass_known_law = go d n
    where
      go : (d : ℕ) → (d ≡ 0 → ⊥) → pass_over d named (drop a s) ≡ pass_known (pass_over (d - 1)) named o (drop (a + 1) s)
      go zero n = absurd (n refl)
      go (suc d) n = let z : suc d - 1 ≡ d = omega arith in rw (z, drop-cons s a 0 l, add-one a, e)

  pub frame_unknown : o ≡ None → None ≡ frame_end d named a s
  unfolding frame_end
  frame_unknown i = rw (pass_known_law, i)

  module _ (k : Kind) (i : o ≡ Some k) (b : Option ℕ) (h : b ≡ name_end named (a + 1) s) where
    step_named : pass_over d named (drop a s) ≡ onward none (name_rest named (drop (a + 1) s)) λ r. pass_payload (pass_over (d - 1)) (payload k) r
    step_named = pass_known_law ∙ ap (λ o. pass_known (pass_over (d - 1)) named o (drop (a + 1) s)) i

    pub frame_unnamed : b ≡ None → None ≡ frame_end d named a s
    unfolding frame_end name_end
    frame_unnamed j = go (name_rest named (drop (a + 1) s)) (sym j ∙ h) ∙ ap (end_of (length s)) (sym step_named)
      where
        go : (q : Optional (List ℕ)) → None ≡ end_of (length s) q
            → None ≡ end_of (length s) (onward none q λ r. pass_payload (pass_over (d - 1)) (payload k) r)
        go none j = refl
        go (some r) j = clash cc

    pub frame_ends : (c : ℕ) → b ≡ Some c → (y : Option ℕ) → y ≡ payload_end (d - 1) k c s → y ≡ frame_end d named a s
    unfolding frame_end payload_end name_end
    frame_ends c j y z = z ∙ go (name_rest named (drop (a + 1) s)) refl (sym j ∙ h) ∙ ap (end_of (length s)) (sym step_named)
      where
        go : (q : Optional (List ℕ)) → name_rest named (drop (a + 1) s) ≡ q → Some c ≡ end_of (length s) q
            → end_of (length s) (pass_payload (pass_over (d - 1)) (payload k) (drop c s))
            ≡ end_of (length s) (onward none q λ r. pass_payload (pass_over (d - 1)) (payload k) r)
        go none j x = clash cc
        go (some r) j x =
            let v : c ≡ length s - length r = cc in
            let w = name_stands named (drop (a + 1) s) r j in
            let z = length-drop (a + 1) s in
            let u : length (drop (a + 1) s) ≡ length w.0 + length r = simp length-append at (ap length w.1) in
            let t : drop c s ≡ r = rw v (rest_at (a + 1) s w.0 r (omega arith) w.1) in
            ap (λ r. end_of (length s) (pass_payload (pass_over (d - 1)) (payload k) r)) t

pub ruleset contents_laws = (contents_end_law, contents_close, contents_stuck)

pub ruleset payload_laws = (payload_object, payload_array, payload_leaf)

pub ruleset frame_laws = (frame_deep, frame_unknown, frame_unnamed, frame_ends)
