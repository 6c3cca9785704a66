-- Passing a frame without a check, if the frames in it are passed so. One layer.
use Rattle.std.specs.Prelude.{Option, None, Some}
use Prim.Native.Nat.{ℕ, ◌≤◌, ◌<◌}
use native.Mathlib.Omega.{arith}
use mathlib.Core.Path.{◌≡◌, refl, sym, ap, ◌∙◌}
use mathlib.Core.Bool.{Bool, true, false, ◌||◌, cond}
use mathlib.Core.Option.{Option as Optional, none, some}
use mathlib.Core.List.{List, [], ◌∷◌, map}
use lib.ListN.{length}
use Rattle.format.specs.declared.Kind.{Kind}
use Rattle.format.specs.declared.Flaw.TheVariants.{Blank, Long, Low, NotUtf8}
use Rattle.format.specs.Kinds.{known}
use Rattle.format.specs.Parse.{Out, fault, got}
use Rattle.format.specs.Names.{read_name}
use Rattle.format.specs.Mask.{has}
use Rattle.format.specs.Tree.{Leaf, Node, atom, array, object}
use Rattle.format.specs.Payload.{Payload, leaf, fields, shared_fields, items, shared_items, payload}
use Rattle.frames.specs.declared.Refusal.{Refusal}
use Rattle.frames.specs.declared.Refusal.TheVariants.{BadFrame, EmptyName, NotText}
use Rattle.frames.specs.WriteList.{Frames, refused, framed, next, is_writable, frame_kind, name_found, frame_name, leaf_found, until_close, frame_payload, frame}
use Rattle.frames.specs.FramePieces.{mode_of}
use Rattle.frames.proofs.FrontLaws.{never, with_name}
use Rattle.twins.specs.Lax.{LaxReader, heedless}
use Rattle.twins.specs.Walk.{left_of, rest_of, onward, name_rest, pass_until, pass_payload, pass_known, pass_frame}
use Rattle.twins.proofs.FrontTakes.{leaf_le, read_le}
use Rattle.twins.proofs.PassUntil.{Passes, Behind, until_less, until_passes}

-- refused at the frame itself: nothing is asked
own_refusal : {A : Type 0} (stop : ℕ) (m : Refusal) (f : List ℕ) (w : Optional (List ℕ)) → Passes {A = A} stop f (refused m f) w
own_refusal stop m f w =
    record { on = λ v r h. never h; inside = λ n u h i d. absurd (let z : f ≡ u = cc in omega (arith, ap length z)); less = omega arith }

-- something is made of what was read
made_passes : {A B : Type 0} (stop : ℕ) (made : A → B) (f : List ℕ) (o : Frames A) (w : Optional (List ℕ)) → Passes stop f o w
    → Passes stop f (next o λ v r. framed (made v) r) w
made_passes stop made f (refused m u) w a = record {
  on = λ v r h. never h;
  inside = λ m₁ u₁ h i d. let z : u ≡ u₁ = cc in a.inside m u refl (omega (arith, ap length z)) (omega (arith, ap length z));
  less = a.less;
}
made_passes stop made f (framed v r) w a = record {
  on = λ t r₁ h i. let z : r ≡ r₁ = cc in a.on v r refl (omega (arith, ap length z)) ∙ ap some z;
  inside = λ m₁ u₁ h i d. never (sym h);
  less = a.less;
}

leaf_passes : (stop : ℕ) (x : Kind) (q : List ℕ → Out Leaf) → payload x ≡ leaf q → (f s : List ℕ) → length s ≤ length f
    → Passes stop f (leaf_found f (q s)) (rest_of (q s))
leaf_passes stop x q e f s c = go (q s) refl
  where
    go : (o : Out Leaf) → q s ≡ o → Passes stop f (leaf_found f o) (rest_of o)
    go (fault k) j = own_refusal stop BadFrame f none
    go (got v fs r) j = at (has Long fs || has Low fs) (has NotUtf8 fs) refl refl
      where
        at : (a b : Bool) → (has Long fs || has Low fs) ≡ a → has NotUtf8 fs ≡ b
            → Passes stop f (cond a (refused BadFrame f) (cond b (refused NotText f) (framed v r))) (some r)
        at true b ea eb = own_refusal stop BadFrame f (some r)
        at false true ea eb = own_refusal stop NotText f (some r)
        at false false ea eb =
            let w : leaf_found f (q s) ≡ framed v r = rw (j, ea, eb) in
            record { on = λ v₁ r₁ h i. let z : r ≡ r₁ = cc in ap some z; inside = λ n u h i d. never (sym h); less = omega (arith, leaf_le x q e f s w) }

module _ {A : Type 0} (stop : ℕ) (l : LaxReader A) (p : Bool → List ℕ → Optional (List ℕ))
    (g : (named : Bool) (s : List ℕ) → Passes stop s (l named s) (p named s))
    (takes : (named : Bool) (s : List ℕ) (x : List ℕ × A) (r : List ℕ) → l named s ≡ framed x r → length r < length s) where
  -- ---- a payload at s of the frame f

  contents_passes : (named : Bool) (f s : List ℕ) → length s ≤ length f
      → Passes stop f (until_close (λ u. l named) (length s) [] s) (pass_until (p named) stop (length s) s)
  contents_passes named f s c =
      go (until_close (λ u. l named) (length s) [] s) (until_passes stop l p g takes named (length s) [] s) (until_less stop l p g takes named (length s) [] s)
    where
      w : Optional (List ℕ)
      w = pass_until (p named) stop (length s) s

      go : (o : Frames (List (List ℕ × A))) → Behind stop l p g takes o w → left_of o ≤ length s → Passes stop f o w
      go (refused n u) h d = record {
        on = λ v r e. never e;
        inside = λ m w e i k. let z : u ≡ w = cc in h (omega (arith, ap length z));
        less = omega arith;
      }
      go (framed xs r) h d = record {
        on = λ v r₁ e i. let z : r ≡ r₁ = cc in h (omega (arith, ap length z)) ∙ ap some z;
        inside = λ m w e i k. never (sym e);
        less = omega arith;
      }

  payload_passes : (x : Kind) (y : Payload) → payload x ≡ y → (f s : List ℕ) → length s ≤ length f
      → Passes stop f (frame_payload (heedless l) f y s) (pass_payload p stop y s)
  payload_passes x (leaf q) e f s c = made_passes stop atom f (leaf_found f (q s)) (rest_of (q s)) (leaf_passes stop x q e f s c)
  payload_passes x fields e f s c = made_passes stop object f _ _ (contents_passes true f s c)
  payload_passes x shared_fields e f s c = own_refusal stop BadFrame f none
  payload_passes x items e f s c = made_passes stop (λ xs. array (map (λ x. x.1) xs)) f _ _ (contents_passes false f s c)
  payload_passes x shared_items e f s c = own_refusal stop BadFrame f none

  -- ---- a frame

  behind_name : (x : Kind) (n f s : List ℕ) → length s ≤ length f
      → Passes stop f (with_name n (frame_payload (heedless l) f (payload x) s)) (pass_payload p stop (payload x) s)
  behind_name x n f s c = made_passes stop (λ t. (n, t)) f (frame_payload (heedless l) f (payload x) s) _ (payload_passes x (payload x) refl f s c)

  behind_kind : (x : Kind) (named : Bool) (f s : List ℕ) → length s ≤ length f
      → Passes stop f (next (frame_name f (mode_of named []) s) λ n q. with_name n (frame_payload (heedless l) f (payload x) q))
      (onward none (name_rest named s) λ r. pass_payload p stop (payload x) r)
  behind_kind x false f s c = behind_name x [] f s c
  behind_kind x true f s c = go (read_name s) refl
    where
      go : (o : Out (List ℕ)) → read_name s ≡ o → Passes stop f (next (name_found f [] o) λ n q. with_name n (frame_payload (heedless l) f (payload x) q))
          (onward none (rest_of o) λ r. pass_payload p stop (payload x) r)
      go (fault k) j = own_refusal stop BadFrame f none
      go (got n fs r) j = at (has Long fs) (has Blank fs) (has NotUtf8 fs)
        where
          w : Optional (List ℕ)
          w = pass_payload p stop (payload x) r

          at : (a b d : Bool) → Passes stop f (next (cond a (refused BadFrame f) (cond b (refused EmptyName f) (cond d (refused NotText f) (framed n r))))
              λ n q. with_name n (frame_payload (heedless l) f (payload x) q)) w
          at true b d = own_refusal stop BadFrame f w
          at false true d = own_refusal stop EmptyName f w
          at false false true = own_refusal stop NotText f w
          at false false false = behind_name x n f r (let z = read_le s j in omega arith)

  pub frame_passes : (named : Bool) (s : List ℕ) → Passes stop s (frame (heedless l) (mode_of named []) s) (pass_frame p stop named s)
  frame_passes named [] = record { on = λ v r h. never h; inside = λ n u h i d. refl; less = omega arith }
  frame_passes named (b ∷ s) = go (known b)
    where
      f : List ℕ
      f = b ∷ s

      behind : Kind → List ℕ → Frames (List ℕ × Node A)
      behind x r = next (frame_name f (mode_of named []) r) λ n q. with_name n (frame_payload (heedless l) f (payload x) q)

      passed : Kind → Optional (List ℕ)
      passed x = onward none (name_rest named s) λ r. pass_payload p stop (payload x) r

      go : (o : Option Kind) → Passes stop f (next (frame_kind f o s) behind) (pass_known p stop named o s)
      go None = own_refusal stop BadFrame f none
      go (Some x) = at (is_writable (payload x))
        where
          at : (z : Bool) → Passes stop f (next (cond z (framed x s) (refused BadFrame f)) behind) (passed x)
          at true = behind_kind x named f s (omega arith)
          at false = own_refusal stop BadFrame f (passed x)
