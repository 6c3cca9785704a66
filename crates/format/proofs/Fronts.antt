-- What stands before a payload, the type byte and the name, for each form of a field: read back, and only it is.
use Rattle.std.specs.Prelude.{Option, None, Some}
use Prim.Native.Nat.{ℕ, ◌+◌, ◌^◌, ◌<◌}
use mathlib.Core.Path.{◌≡◌, refl, subst}
use mathlib.Core.List.{List, [], ◌∷◌, ◌++◌}
use lib.ListN.{length}
use Rattle.number.specs.BigEndian.{Bytes}
use Rattle.format.specs.declared.Kind.{Kind}
use Rattle.format.specs.declared.Mark.{Mark}
use Rattle.format.specs.declared.Mark.TheVariants.{OfTop, OfField, OfItem}
use Rattle.format.specs.declared.Form.{Form}
use Rattle.format.specs.declared.Form.TheVariants.{Top, Field, Item, SharedField, SharedItem}
use Rattle.format.specs.Kinds.{type_byte, kind_at}
use Rattle.format.specs.Parse.{got}
use Rattle.format.specs.Tree.{NameWithin}
use Rattle.format.specs.Encoding.{with_size}
use Rattle.format.specs.Names.{read_name}
use Rattle.format.specs.Payload.{kind_found, read_type, read_kind, front}
use Rattle.format.proofs.Back.{never, bind_case}
use Rattle.format.proofs.KindLaws.{kind_rt, kind_inv}
use Rattle.format.proofs.TextLaws.{name_rt, name_case}

-- the bytes, for a kind and a name
abbrev pub front_bytes : Form → Kind → List ℕ → List ℕ
front_bytes Top k n = type_byte OfTop k ∷ []
front_bytes Field k n = type_byte OfField k ∷ with_size n
front_bytes Item k n = type_byte OfItem k ∷ []
front_bytes (SharedField l) k n = with_size n
front_bytes (SharedItem l) k n = []

-- the kind and the name that can stand so
abbrev pub FrontWithin : Form → Kind → List ℕ → Type 0
FrontWithin Top k n = n ≡ []
FrontWithin Field k n = NameWithin n
FrontWithin Item k n = n ≡ []
FrontWithin (SharedField l) k n = (k ≡ l) × NameWithin n
FrontWithin (SharedItem l) k n = (k ≡ l) × (n ≡ [])

pub front_rt : (f : Form) (k : Kind) (n r : List ℕ) → FrontWithin f k n → length n < 2 ^ 64 → front f (front_bytes f k n ++ r) ≡ got (n, k) [] r
unfolding front
front_rt Top k n r w l = rw (kind_rt OfTop k, w)
front_rt Field k n r w l = rw (kind_rt OfField k, name_rt n r w l)
front_rt Item k n r w l = rw (kind_rt OfItem k, w)
front_rt (SharedField l) k n r w m = rw (w.0, name_rt n r w.1 m)
front_rt (SharedItem l) k n r w m = rw (w.0, w.1)

-- ---- back

type_case : {X : Type 0} (m : Mark) (s : List ℕ) {k : Kind} {r : List ℕ} → Bytes s → read_type m s ≡ got k [] r → (s ≡ type_byte m k ∷ r → Bytes r → X) → X
type_case m [] w h c = never h
type_case {X} m (b ∷ s) {k} {r} w h c = go (kind_at m b) refl h
  where
    go : (o : Option Kind) → kind_at m b ≡ o → kind_found o s ≡ got k [] r → X
    go None e h = never h
    go (Some l) e h =
        let z : l ≡ k = cc in
        let y : s ≡ r = cc in
        let x : b ≡ type_byte m k = rw z at (kind_inv m b l e) in
        c (cc) (subst Bytes y w.1)

abbrev Back : Form → List ℕ → List ℕ × Kind → List ℕ → Type 0
Back f s x q = (s ≡ front_bytes f x.1 x.0 ++ q) × FrontWithin f x.1 x.0 × Bytes q

pub front_inv : (f : Form) (s : List ℕ) (x : List ℕ × Kind) (q : List ℕ) → Bytes s → front f s ≡ got x [] q → Back f s x q
unfolding front
front_inv Top s x q w h = bind_case (read_kind Top s) _ h λ k r e h₁. type_case OfTop s w e λ es wr.
    let z : x ≡ ([], k) = cc in
    let y : r ≡ q = cc in
    rw z (rw y at es, refl, subst Bytes y wr)
front_inv Item s x q w h = bind_case (read_kind Item s) _ h λ k r e h₁. type_case OfItem s w e λ es wr.
    let z : x ≡ ([], k) = cc in
    let y : r ≡ q = cc in
    rw z (rw y at es, refl, subst Bytes y wr)
front_inv Field s x q w h = bind_case (read_kind Field s) _ h λ k r e h₁. type_case OfField s w e λ es wr.
    bind_case (read_name r) _ h₁ λ n u e₁ h₂. name_case r wr e₁ λ er wn wu.
    let z : x ≡ (n, k) = cc in
    let y : u ≡ q = cc in
    rw z (rw (er, y) at es, wn, subst Bytes y wu)
front_inv (SharedField l) s x q w h = bind_case (read_name s) _ h λ n u e₁ h₂. name_case s w e₁ λ er wn wu.
    let z : x ≡ (n, l) = cc in
    let y : u ≡ q = cc in
    rw z (rw y at er, (refl, wn), subst Bytes y wu)
front_inv (SharedItem l) s x q w h =
    let z : x ≡ ([], l) = cc in
    let y : s ≡ q = cc in
    rw z (y, (refl, refl), subst Bytes y w)
