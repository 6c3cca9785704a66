-- One layer of a tree: if the fields are read back, and only they are, then so is any field that holds a container of them.
use Prim.Native.Nat.{ℕ, ◌+◌, ◌^◌, ◌≤◌, ◌<◌}
use native.Mathlib.Omega.{arith}
use mathlib.Core.Path.{◌≡◌}
use mathlib.Core.Bool.{false}
use mathlib.Core.List.{List, [], ◌++◌, append_assoc}
use lib.ListN.{length, length-append}
use Rattle.number.specs.BigEndian.{Bytes}
use Rattle.format.specs.declared.Kind.{Kind}
use Rattle.format.specs.declared.Form.{Form}
use Rattle.format.specs.declared.Form.TheVariants.{Top, Field, Item, SharedField, SharedItem}
use Rattle.format.specs.Kinds.{is_bare}
use Rattle.format.specs.Parse.{got}
use Rattle.format.specs.Tree.{Node, atom, array, object, map_node, NodeWithin}
use Rattle.format.specs.Encoding.{node_kind, array_body, object_body, node_payload}
use Rattle.format.specs.Payload.{front}
use Rattle.format.specs.Reader.{Standing, Named, Reader, read_node, read_field}
use Rattle.format.proofs.Lists.{append_nil}
use Rattle.format.proofs.Back.{bind_case, make_case}
use Rattle.format.proofs.TextLaws.{size_some, inside_lt}
use Rattle.format.proofs.Leaves.{leaf_some}
use Rattle.format.proofs.Fronts.{front_bytes, FrontWithin, front_rt, front_inv}
use Rattle.format.proofs.LayerFields.{FieldWithin, Fine, field_bytes, read_as, stand}
use Rattle.format.proofs.LayerBack.{node_inv}
use Rattle.format.proofs.LayerRead.{node_rt}

module _ {A X : Type 0} (p : Reader X) (kind : A → Kind) (lay : A → X) (pay : A → List ℕ) (W : A → Type 0) (g : Fine p kind lay pay W) where
  parts_lt : (n : ℕ) (a b c : List ℕ) → length (a ++ b) < n → (length a < n) × (length b < n)
  parts_lt n a b c l = let m : length a + length b < n = rw length-append at l in (omega arith, omega arith)

  name_lt : (f : Form) (k : Kind) (n : List ℕ) → FrontWithin f k n → length (front_bytes f k n) < 2 ^ 64 → length n < 2 ^ 64
  name_lt Top k n w l = rw w (omega arith)
  name_lt Field k n w l = inside_lt n (omega arith)
  name_lt Item k n w l = rw w (omega arith)
  name_lt (SharedField h) k n w l = inside_lt n l
  name_lt (SharedItem h) k n w l = rw w.1 (omega arith)

  field_rt : (f : Form) (x : Named (Node A)) (r : List ℕ) → FieldWithin f (node_kind kind) (NodeWithin W) x
      → length (field_bytes f (node_kind kind) (node_payload kind pay) x) < 2 ^ 64
      → read_field p f (field_bytes f (node_kind kind) (node_payload kind pay) x ++ r) ≡ got (read_as (node_kind kind) (map_node (stand kind lay)) x) [] r
  field_rt f x r w l =
      let k = node_kind kind x.1 in
      let b = node_payload kind pay x.1 in
      let m = parts_lt (2 ^ 64) (front_bytes f k x.0) b [] l in
      rw (
        append_assoc (front_bytes f k x.0) b r,
        front_rt f k x.0 (b ++ r) w.0 (name_lt f k x.0 w.0 m.0),
        node_rt p kind lay pay W g
            x.1 r w.1 m.1,
      )

  field_inv : (f : Form) (s : List ℕ) (x : Named (Standing (Node (Standing X)))) (r : List ℕ) → Bytes s → read_field p f s ≡ got x [] r
      → (a : Named (Node A)) × (x ≡ read_as (node_kind kind) (map_node (stand kind lay)) a) × (s ≡ field_bytes f (node_kind kind) (node_payload kind pay) a ++ r)
      × FieldWithin f (node_kind kind) (NodeWithin W) a
  field_inv f s x r w h = bind_case (front f s) _ h λ y q e h₁. make_case _ (read_node p y.1 q) h₁ λ t e₁ z.
      let i = front_inv f s y q w e in
      let j = node_inv p kind lay pay W g y.1 q t r i.2 e₁ in
      ((y.0, j.0), rw (z, j.3) (cc), rw j.3 (rw append_assoc (cc)), rw j.3 (i.1, j.4))

  node_some : (a : Node A) → NodeWithin W a → is_bare (node_kind kind a) ≡ false → 1 ≤ length (node_payload kind pay a)
  node_some (atom v) w h = leaf_some v w h
  node_some (array xs) w h = let b = array_body kind pay xs in rw append_nil at (size_some b [])
  node_some (object xs) w h = let b = object_body kind pay xs in rw append_nil at (size_some b [])

  pub layer_fine : Fine (read_field p) (node_kind kind) (map_node (stand kind lay)) (node_payload kind pay) (NodeWithin W)
  layer_fine = record { good = λ f. record { rt = field_rt f; inv = field_inv f }; some = node_some }
