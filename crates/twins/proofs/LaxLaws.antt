-- The lax reader never says that a name is used.
use Rattle.std.specs.Prelude.{Option, None, Some}
use Rattle.format.specs.declared.Kind.{Kind}
use Prim.Native.Nat.{ℕ, zero, suc}
use mathlib.Core.Path.{◌≡◌, refl, sym, ap, ◌∙◌}
use mathlib.Core.Bool.{Bool, true, false, ◌||◌, cond}
use mathlib.Core.List.{List, [], ◌∷◌}
use lib.ListN.{length}
use lib.Dec.{eqb}
use Rattle.number.proofs.Clash.{clash}
use Rattle.format.specs.declared.Flaw.TheVariants.{Blank, Long, Low, NotUtf8}
use Rattle.format.specs.Kinds.{known}
use Rattle.format.specs.Parse.{Out, fault, got}
use Rattle.format.specs.Names.{read_name}
use Rattle.format.specs.Mask.{has}
use Rattle.format.specs.Tree.{Leaf, Tree}
use Rattle.format.specs.Payload.{Payload, leaf, fields, shared_fields, items, shared_items, payload}
use Rattle.frames.specs.declared.Refusal.TheVariants.{BadFrame, NameUsed, NoneOpen}
use Rattle.frames.specs.WriteList.{Frames, refused, framed, next, is_writable, frame_kind, name_found, frame_name, leaf_found, until_close, frame_payload, frame}
use Rattle.frames.specs.WriteList.{only}
use Rattle.frames.specs.Writer.{refusal_number}
use Rattle.frames.specs.FramePieces.{mode_of}
use Rattle.frames.proofs.FrontLaws.{never}
use Rattle.twins.specs.Lax.{LaxReader, heedless, lax, lax_list}

abbrev Unused : {A : Type 0} → Frames A → Type 0
Unused (refused n r) = eqb (refusal_number NameUsed) (refusal_number n) ≡ false
Unused (framed a r) = Unit {0}

unused_next : {A B : Type 0} (o : Frames A) (g : A → List ℕ → Frames B) → Unused o → ((a : A) (r : List ℕ) → Unused (g a r)) → Unused (next o g)
unused_next (refused n r) g h f = h
unused_next (framed a r) g h f = f a r

unused_cond : {A : Type 0} (b : Bool) (o p : Frames A) → Unused o → Unused p → Unused (cond b o p)
unused_cond true o p h g = h
unused_cond false o p h g = g

-- ---- the parts of a frame

unused_leaf : (f : List ℕ) (o : Out Leaf) → Unused (leaf_found f o)
unused_leaf f (fault n) = refl
unused_leaf f (got v fs r) = unused_cond (has Long fs || has Low fs) _ _ refl (unused_cond (has NotUtf8 fs) _ _ refl tt)

unused_name : (f : List ℕ) (named : Bool) (s : List ℕ) → Unused (frame_name f (mode_of named []) s)
unused_name f false s = tt
unused_name f true s = go (read_name s)
  where
    go : (o : Out (List ℕ)) → Unused (name_found f [] o)
    go (fault n) = refl
    go (got n fs r) = unused_cond (has Long fs) _ _ refl (unused_cond (has Blank fs) _ _ refl (unused_cond (has NotUtf8 fs) _ (framed n r) refl tt))

unused_kind : (f : List ℕ) (o : Option Kind) (s : List ℕ) → Unused (frame_kind f o s)
unused_kind f None s = refl
unused_kind f (Some x) s = unused_cond (is_writable (payload x)) (framed x s) (refused BadFrame f) tt refl

-- ---- one layer

module _ {A : Type 0} (l : LaxReader A) (g : (named : Bool) (s : List ℕ) → Unused (l named s)) where
  unused_until : (named : Bool) (n : ℕ) (free : List (List ℕ)) (s : List ℕ) → Unused (until_close (λ u. l named) n free s)
  unused_until named zero free s = refl
  unused_until named (suc n) free [] = refl
  unused_until named (suc n) free (b ∷ s) =
      unused_cond (eqb b 0) (framed [] s) (next (l named (b ∷ s)) λ x r. next (until_close (λ u. l named) n (x.0 ∷ free) r) λ xs q. framed (x ∷ xs) q) tt
      (unused_next (l named (b ∷ s)) _ (g named (b ∷ s)) λ x r.
      unused_next (until_close (λ u. l named) n (x.0 ∷ free) r) _ (unused_until named n (x.0 ∷ free) r) λ xs q. tt)

  unused_payload : (f : List ℕ) (y : Payload) (s : List ℕ) → Unused (frame_payload (heedless l) f y s)
  unused_payload f (leaf q) s = unused_next (leaf_found f (q s)) _ (unused_leaf f (q s)) λ v r. tt
  unused_payload f fields s = unused_next (until_close (λ u. l true) (length s) [] s) _ (unused_until true (length s) [] s) λ xs r. tt
  unused_payload f shared_fields s = refl
  unused_payload f items s = unused_next (until_close (λ u. l false) (length s) [] s) _ (unused_until false (length s) [] s) λ xs r. tt
  unused_payload f shared_items s = refl

  unused_frame : (named : Bool) (s : List ℕ) → Unused (frame (heedless l) (mode_of named []) s)
  unused_frame named [] = refl
  unused_frame named (b ∷ s) =
      unused_next (frame_kind (b ∷ s) (known b) s) _ (unused_kind (b ∷ s) (known b) s) λ x r.
      unused_next (frame_name (b ∷ s) (mode_of named []) r) _ (unused_name (b ∷ s) named r) λ n q.
      unused_next (frame_payload (heedless l) (b ∷ s) (payload x) q) _ (unused_payload (b ∷ s) (payload x) q) λ t u. tt

-- ---- every depth, and the whole list

lax_unused : (d : ℕ) (named : Bool) (s : List ℕ) → Unused (lax d named s)
unfolding lax
lax_unused zero named s = refl
lax_unused (suc d) named s = unused_frame (lax d) (lax_unused d) named s

only_unused : {A : Type 0} (x : List ℕ × A) (r : List ℕ) → Unused (only x r)
only_unused x [] = tt
only_unused x (b ∷ r) = refl

list_unused : (d : ℕ) (s : List ℕ) → Unused (lax_list d s)
unfolding lax_list
list_unused d [] = refl
list_unused d (b ∷ s) = unused_cond (eqb b 0) (refused NoneOpen (b ∷ s)) (next (lax d false (b ∷ s)) only) refl
    (unused_next (lax d false (b ∷ s)) only (lax_unused d false (b ∷ s)) only_unused)

pub lax_never : (d : ℕ) (s r : List ℕ) → lax_list d s ≡ refused NameUsed r → ⊥
lax_never d s r h = go (lax_list d s) (list_unused d s) h
  where
    go : (o : Frames (Tree d)) → Unused o → o ≡ refused NameUsed r → ⊥
    go (refused n q) u h =
        let z : n ≡ NameUsed = cc in
        let w : true ≡ false = ap (λ n. eqb (refusal_number NameUsed) (refusal_number n)) (sym z) ∙ u in
        clash cc
    go (framed a q) u h = never (sym h)
