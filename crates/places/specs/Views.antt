-- What a view shows, by steps along a path: the words of proofs/Views.antt.
use Rattle.std.specs.Prelude.{ℕ, zero, suc, ◌+◌, ◌≤◌, ◌≡◌, cond, List, [], ◌∷◌, ◌++◌, length, Some}
use Rattle.std.proofs.Math.Seq.{slice}
use Rattle.number.specs.BigEndian.{All}
use Rattle.number.specs.VarUInt.{var_uint}
use Rattle.format.specs.declared.Kind.{Kind}
use Rattle.format.specs.declared.Mark.TheVariants.{SharedByFields, SharedByItems}
use Rattle.places.specs.declared.Place.{Place}
use Rattle.format.specs.Kinds.{type_byte, has_size}
use Rattle.format.specs.Parse.{read_var_uint}
use Rattle.format.specs.Tree.{Node, atom, array, object}
use Rattle.format.specs.Payload.{Payload, leaf, fields, shared_fields, items, shared_items, payload}
use Rattle.format.specs.Reader.{Standing, Layout, kinds_in}
use Rattle.places.specs.Places.{taken, part, view}
use Rattle.places.specs.Show.{Reads, Viewed}
use Rattle.places.specs.Stepping.{fields_of, Reached}
use Rattle.places.specs.Contents.{contents_start}
use Rattle.places.specs.Siblings.{field_in}
use Rattle.places.specs.Made.{part_at}

-- what stands between a container's size and its contents, by how its fields stand: their count, and the byte that they share. ks are their kinds
abbrev pub Between : Payload → List Kind → List ℕ → Type 0
Between (leaf p) ks b = ⊥
Between fields ks b = b ≡ []
Between shared_fields ks b = (j : Kind) × (b ≡ type_byte SharedByFields j ∷ []) × All (λ k. k ≡ j) ks
Between items ks b = Reads read_var_uint b (length ks)
Between shared_items ks b = (n : List ℕ) × (j : Kind) × (b ≡ n ++ (type_byte SharedByItems j ∷ [])) × Reads read_var_uint n (length ks) × All (λ k. k ≡ j) ks

-- a container of kind k at c: its size, whose value is the view's length; and its view, which is all that follows the size
pub record ContainerView (s : List ℕ) (k : Kind) (c : Place) (ks : List Kind) : Type 0 where
  pub size : List ℕ
  pub between : List ℕ
  pub opening : slice c.start (contents_start s c) s ≡ size ++ between
  pub is_between : Between (payload k) ks between
  pub is_part : part s c ≡ part_at (c.start + length size) c.end
  pub is_view : view s c ≡ between ++ slice (contents_start s c) c.end s
  pub size_is : Reads read_var_uint size (length (view s c))

abbrev pub NodeView : {A : Type 0} → List ℕ → Kind → Place → Node (Standing A) → Type 0
NodeView s k c (atom v) = Viewed k v (view s c)
NodeView s k c (array xs) = ContainerView s k c (kinds_in (fields_of (array xs)))
NodeView s k c (object xs) = ContainerView s k c (kinds_in (fields_of (object xs)))

abbrev pub FieldView : (d : ℕ) → List ℕ → Place → Standing (Layout d) → Type 0
FieldView zero s c x = ⊥
FieldView (suc d) s c x = NodeView s x.0 c x.1

-- the place c, which steps along the path have reached: its view is a part of the payload that begins behind the size, if its kind has one, and ends where it
-- ends; and it shows the field that the reader has there
pub record Seen (path payload : List ℕ) (c : Place) : Type 0 where
  pub from : ℕ
  pub is_part : part payload c ≡ part_at from c.end
  pub inside : (c.start ≤ from) × (from ≤ c.end) × (c.end ≤ length payload)
  pub is_view : view payload c ≡ slice from c.end payload
  pub field : Reached
  pub is_field : field_in path payload ≡ Some field
  pub begins : from ≡ c.start + cond (has_size field.1.1.0) (taken (var_uint (slice c.start c.end payload))) 0
  pub shows : FieldView field.0 payload c field.1.1
