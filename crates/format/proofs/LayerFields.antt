-- The fields of one layer of a tree, as they are encoded and as they are read, in the four forms of a container.
use Prim.Native.Nat.{ℕ, ◌≤◌}
use mathlib.Core.Path.{◌≡◌, refl, ap}
use mathlib.Core.Bool.{false}
use mathlib.Core.List.{List, [], ◌∷◌, ◌++◌, map}
use lib.ListN.{length}
use Rattle.format.specs.declared.Kind.{Kind}
use Rattle.format.specs.declared.Mark.TheVariants.{OfItem}
use Rattle.format.specs.declared.Form.{Form}
use Rattle.format.specs.declared.Form.TheVariants.{Item, SharedItem}
use Rattle.format.specs.Kinds.{type_byte, is_bare}
use Rattle.format.specs.Parse.{Out}
use Rattle.format.specs.Encoding.{field_kinds}
use Rattle.format.specs.Reader.{Standing, Named, Reader, kinds_in, names_in}
use Rattle.format.proofs.Lists.{map_map}
use Rattle.format.proofs.Back.{Good}
use Rattle.format.proofs.Fronts.{front_bytes, FrontWithin}

-- ---- a field as it is encoded, and as it is read

-- with the kind that its encoding has
abbrev pub stand : {A X : Type 0} → (A → Kind) → (A → X) → A → Standing X
stand kind lay a = (kind a, lay a)

abbrev pub read_as : {A X : Type 0} → (A → Kind) → (A → X) → Named A → Named (Standing X)
read_as kind lay x = (x.0, (kind x.1, lay x.1))

abbrev pub field_bytes : {A : Type 0} → Form → (A → Kind) → (A → List ℕ) → Named A → List ℕ
field_bytes f kind pay x = front_bytes f (kind x.1) x.0 ++ pay x.1

abbrev pub FieldWithin : {A : Type 0} → Form → (A → Kind) → (A → Type 0) → Named A → Type 0
FieldWithin f kind W x = FrontWithin f (kind x.1) x.0 × W x.1

-- the fields are read back in every form, and only they are; their payloads have a byte at least, but for 01, 0C, 0D
pub record Fine {A X : Type 0} (p : Reader X) (kind : A → Kind) (lay : A → X) (pay : A → List ℕ) (W : A → Type 0) : Type 0 where
  pub good : (f : Form) → Good (p f) (read_as kind lay) (field_bytes f kind pay) (FieldWithin f kind W)
  pub some : (a : A) → W a → is_bare (kind a) ≡ false → 1 ≤ length (pay a)

-- an item has no name
abbrev pub nameless : {A : Type 0} → A → Named A
nameless a = ([], a)

along : {A B X : Type 0} (p : List ℕ → Out X) (out : A → X) (enc : A → List ℕ) (W : A → Type 0) (g : B → A)
    → ((a : A) → W a → (b : B) × (a ≡ g b)) → Good p out enc W → Good p (λ b. out (g b)) (λ b. enc (g b)) (λ b. W (g b))
along p out enc W g f h = record {
  rt = λ b r w l. h.rt (g b) r w l;
  inv = λ s x r w e. let i = h.inv s x r w e in let j = f i.0 i.3 in (j.0, rw (← j.1) i.1, rw (← j.1) i.2, rw (← j.1) i.3);
}

module _ {A X : Type 0} (p : Reader X) (kind : A → Kind) (lay : A → X) (pay : A → List ℕ) (W : A → Type 0) (g : Fine p kind lay pay W) where
  -- ---- the fields, in the four forms of a container

  pub item_good : Good (p Item) (λ a. read_as kind lay (nameless a)) (λ a. type_byte OfItem (kind a) ∷ pay a) (λ a. FieldWithin Item kind W (nameless a))
  item_good = along (p Item) (read_as kind lay) (field_bytes Item kind pay) (FieldWithin Item kind W) nameless
      (λ x w. (x.1, ap (λ n. (n, x.1)) w.0)) (g.good Item)

  pub shared_item_good : (k : Kind) → Good (p (SharedItem k)) (λ a. read_as kind lay (nameless a)) pay (λ a. FieldWithin (SharedItem k) kind W (nameless a))
  shared_item_good k = along (p (SharedItem k)) (read_as kind lay) (field_bytes (SharedItem k) kind pay) (FieldWithin (SharedItem k) kind W) nameless
      (λ x w. (x.1, ap (λ n. (n, x.1)) w.0.1)) (g.good (SharedItem k))

-- what the readers of contents make of them
module _ {A X : Type 0} (kind : A → Kind) (lay : A → X) where
  pub kinds_of_items : (xs : List A) → kinds_in (map (λ a. read_as kind lay (nameless a)) xs) ≡ map kind xs
  kinds_of_items = map_map _ _ _ (λ x. refl)

  pub items_stand : (xs : List A) → map (λ (x : Named (Standing X)). x.1) (map (λ a. read_as kind lay (nameless a)) xs) ≡ map (stand kind lay) xs
  items_stand = map_map _ _ _ (λ x. refl)

  pub kinds_of_fields : (xs : List (Named A)) → kinds_in (map (read_as kind lay) xs) ≡ field_kinds kind xs
  kinds_of_fields = map_map _ _ _ (λ x. refl)

  pub names_of_fields : (xs : List (Named A)) → names_in (map (read_as kind lay) xs) ≡ names_in xs
  names_of_fields = map_map _ _ _ (λ x. refl)
