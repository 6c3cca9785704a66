-- The name of the frame at a position: what the code knows at each return.
use Rattle.std.specs.Prelude.{Option, None, Some, unwrap_or, Result, Ok}
use Rattle.std.specs.Result.{result_ok}
use Prim.Native.Nat.{ℕ, zero, suc, ◌+◌, ◌-◌, ◌≤◌, ◌<◌}
use native.Mathlib.Omega.{arith}
use native.Mathlib.Numerals.{add-one}
use mathlib.Core.Path.{◌≡◌, refl, sym, ap, ◌∙◌}
use mathlib.Core.Bool.{true}
use mathlib.Core.Option.{Option as Optional, none, some}
use mathlib.Core.List.{List, ◌++◌, append_assoc}
use lib.ListN.{length, drop, get_or, length-append, length-drop, drop_of_length-le}
use lib.Seq.{drop-cons}
use Rattle.number.proofs.Clash.{clash}
use Rattle.format.specs.declared.Kind.{Kind}
use Rattle.format.specs.declared.Form.TheVariants.{SharedField}
use Rattle.format.specs.declared.Flaw.{Flaw}
use Rattle.format.specs.declared.Stop.{Stop}
use Rattle.format.specs.declared.Stop.TheVariants as S
use Rattle.faults.specs.declared.Modes.{Modes}
use Rattle.faults.specs.declared.Faults.{Faults}
use Rattle.format.specs.Names.{read_name}
use Rattle.format.specs.Parse.{Out, fault, got}
use Rattle.format.specs.Payload.{payload}
use Rattle.front.specs.Between.{between}
use Rattle.front.specs.Code.{front_at}
use Rattle.front.proofs.BetweenLaws.{rest_all}
use Rattle.frame.proofs.MadeLaws.{front_same}
use Rattle.frame.proofs.NameReturns.{name_parts}
use Rattle.frames.specs.FramePieces.{writable}
use Rattle.passing.specs.Pass.{pass_payload, pass_over}
use Rattle.passing.specs.FrameNames.{name_known, name_of, name_in, name_at}
use Rattle.passing.specs.Code.{end_of, payload_end}
use Rattle.passing.proofs.PartReturns.{front_named, front_named_law, kept}
use Rattle.passing.proofs.FrameReturns.{rest_at, pass_known_law}
use Rattle.front.specs.declared.Front.{Front}
use Rattle.names.specs.Made.{name_met}

-- ---- no frame

at_nothing : (d a : ℕ) (s : List ℕ) (k : Stop) → name_of d (drop a s) ≡ fault k → None ≡ name_at d a s
unfolding name_at
at_nothing d a s k e = rw e

pub name_deep : (d a : ℕ) (s : List ℕ) → d ≡ 0 → None ≡ name_at d a s
unfolding name_of
name_deep d a s e = at_nothing d a s S.TooDeep (rw e)

pub name_past : (d a : ℕ) (s : List ℕ) → (d ≡ 0 → ⊥) → length s ≤ a → None ≡ name_at d a s
unfolding name_of
name_past zero a s n l = absurd (n refl)
name_past (suc d) a s n l = at_nothing (suc d) a s S.Early (rw (drop_of_length-le s l))

-- ---- what stands behind the kind

-- where a name of m bytes stands that leaves r of the n bytes behind a
named_at_law : (a t n w m r b f : ℕ) → a ≤ t → n ≡ t - a → n ≡ w + (m + r) → b ≡ n - r - m → f ≡ n - r
    → (a + b ≡ t - r - m) × (a + f ≡ t - r) × (b ≤ f) × (a + f ≤ t)
named_at_law a t n w m r b f l e i u v =
    let y : n - r ≡ w + m = omega arith in
    let z : t - r ≡ a + (w + m) = omega arith in
    let x : b ≡ w = rw y at u ∙ back w m in
    rw (z, x, v, y) (ahead a w m, refl, omega arith, omega arith)
  where
    back : (w m : ℕ) → w + m - m ≡ w
    back w m = omega arith

    ahead : (a w m : ℕ) → a + w ≡ a + (w + m) - m
    ahead a w m = omega arith

module _ (d a : ℕ) (s : List ℕ) (n : d ≡ 0 → ⊥) (l : a < length s) (o : Option Kind) (e : o ≡ writable (get_or s a 0)) where
  name_known_law : name_of d (drop a s) ≡ name_known o (drop (a + 1) s)
  unfolding name_of
  name_known_law = go d n
    where
      go : (d : ℕ) → (d ≡ 0 → ⊥) → name_of d (drop a s) ≡ name_known o (drop (a + 1) s)
      go zero n = absurd (n refl)
      go (suc d) n = rw (drop-cons s a 0 l, add-one a, e)

  pub name_unknown : o ≡ None → None ≡ name_at d a s
  name_unknown i = at_nothing d a s S.Unknown (name_known_law ∙ rw i)

  module _ (k : Kind) (i : o ≡ Some k) (m : Modes) (g : Faults) (x : Result Front Stop) (h : x ≡ front_at (SharedField k) m g (between (a + 1) (length s) s))
      (kp : Option Front) (wp : kp ≡ result_ok x) where
    here : x ≡ front_named k m g (length (drop (a + 1) s)) (read_name (drop (a + 1) s))
    here = h ∙ ap (front_at (SharedField k) m g) (rest_all (a + 1) s) ∙ front_named_law k m g (drop (a + 1) s)

    name_read : name_of d (drop a s) ≡ read_name (drop (a + 1) s)
    name_read = name_known_law ∙ rw i

    pub name_stop : kp ≡ None → None ≡ name_at d a s
    name_stop y = go (read_name (drop (a + 1) s)) refl (sym y ∙ wp ∙ ap result_ok here)
      where
        go : (p : Out (List ℕ)) → read_name (drop (a + 1) s) ≡ p → None ≡ result_ok (front_named k m g (length (drop (a + 1) s)) p) → None ≡ name_at d a s
        go (fault t) u v = at_nothing d a s t (name_read ∙ u)
        go (got t fs r) u v = clash cc

    module _ (p : Front) (y : kp ≡ Some p) where
      -- what was read: the name t, with q left
      read_case : {X : Type 0} → ((t : List ℕ) (fs : List Flaw) (q : List ℕ) → name_of d (drop a s) ≡ got t fs q → drop (a + 1 + p.start) s ≡ q
          → a + 1 + p.name ≡ length s - length q - length t → a + 1 + p.start ≡ length s - length q → p.name ≤ p.start → a + 1 + p.start ≤ length s
          → pass_over d true (drop a s) ≡ pass_payload (pass_over (d - 1)) (payload k) q → X) → X
      read_case {X} z = go (read_name (drop (a + 1) s)) refl (sym (kept x kp wp p y) ∙ here)
        where
          go : (o : Out (List ℕ)) → read_name (drop (a + 1) s) ≡ o → Ok p ≡ front_named k m g (length (drop (a + 1) s)) o → X
          go (fault t) u w = clash cc
          go (got t fs q) u w =
              let f = front_same w in
              let c = name_parts (drop (a + 1) s) u in
              let r : length (drop (a + 1) s) ≡ length c.0 + (length t + length q) = simp length-append at (ap length c.1) in
              let j = named_at_law (a + 1) (length s) (length (drop (a + 1) s)) (length c.0) (length t) (length q) p.name p.start (omega arith)
              (length-drop (a + 1) s) r f.0 f.1 in
              let k₁ : drop (a + 1) s ≡ (c.0 ++ t) ++ q = c.1 ∙ sym (append_assoc c.0 t q) in
              let k₂ : drop (a + 1 + p.start) s ≡ q = rw j.1 (rest_at (a + 1) s (c.0 ++ t) q (omega arith) k₁) in
              z t fs q (name_read ∙ u) k₂ j.0 j.1 j.2 j.3 (pass_known_law d true a s l n o e ∙ rw (i, u))

      pub read_inside : (p.name ≤ p.start) × (a + 1 + p.start ≤ length s)
      read_inside = read_case λ t fs q j₀ j₁ j₂ j₃ j₄ j₅ j₆. (j₄, j₅)

      pub name_next : (r : Option ℕ) → r ≡ payload_end (d - 1) k (a + 1 + p.start) s → (n : ℕ) → n ≡ unwrap_or r (length s)
          → name_met (a + 1 + p.name) (a + 1 + p.start) n ≡ name_at d a s
      unfolding name_at payload_end
      name_next r w n v = read_case λ t fs q j₀ j₁ j₂ j₃ j₄ j₅ j₆.
          go t fs q j₀ j₂ j₃ (pass_payload (pass_over (d - 1)) (payload k) q) j₆
          (v ∙ ap (λ o. unwrap_or o (length s)) (w ∙ ap (λ u. end_of (length s) (pass_payload (pass_over (d - 1)) (payload k) u)) j₁))
        where
          go : (t : List ℕ) (fs : List Flaw) (q : List ℕ) → name_of d (drop a s) ≡ got t fs q → a + 1 + p.name ≡ length s - length q - length t
              → a + 1 + p.start ≡ length s - length q
              → (o : Optional (List ℕ)) → pass_over d true (drop a s) ≡ o → n ≡ unwrap_or (end_of (length s) o) (length s)
              → name_met (a + 1 + p.name) (a + 1 + p.start) n ≡ name_in (length s) (name_of d (drop a s)) (pass_over d true (drop a s))
          go t fs q j₀ j₂ j₃ none u v = rw (j₀, u, j₂, j₃, v)
          go t fs q j₀ j₂ j₃ (some c) u v = rw (j₀, u, j₂, j₃, v)

pub ruleset name_laws = (name_deep, name_past, name_unknown, name_stop, name_next)
