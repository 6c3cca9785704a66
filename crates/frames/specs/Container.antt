-- An object and an array in one form, by the ID that their fields share: their contents as encoded, their IDs, and the number that stands for a
-- container between the passes. Nothing here has to be believed: proofs/ContainerLaws.antt shows that it is format's encoding.
use Rattle.std.specs.Prelude.{ℕ, zero, suc, ◌+◌, ◌*◌, ◌/◌, ◌%◌, Bool, true, false, not, cond, List, [], ◌∷◌, ◌++◌, map, length, ltb}
use Rattle.number.specs.VarUInt.{encoded}
use Rattle.format.specs.declared.Kind.{Kind}
use Rattle.format.specs.declared.Mark.{Mark}
use Rattle.format.specs.declared.Mark.TheVariants.{OfField, OfItem, SharedByFields, SharedByItems}
use Rattle.format.specs.Kinds.{id, flags}
use Rattle.run.specs.Run.{shared, uniform}
use Rattle.format.specs.Tree.{Node, atom, array, object, Tree}
use Rattle.format.specs.Encoding.{with_size, concat, array_body, object_body, kind_of, payload_of}

-- fields with their names; an item's name is empty
abbrev pub node_of : {A : Type 0} → Bool → List (List ℕ × A) → Node A
node_of true xs = object xs
node_of false xs = array (map (λ x. x.1) xs)

-- ---- the IDs of the fields; what they share is the run of crates/run

abbrev pub ids : {A : Type 0} → (A → Kind) → List (List ℕ × A) → List ℕ
ids kind xs = map (λ x. id (kind x.1)) xs

unfoldable pub container_id : Bool → Bool → ℕ
container_id named u = cond named (cond u 3 2) (cond u 5 4)

-- ---- the contents: the count, the shared byte, and each field with its type byte and its name

unfoldable pub count_part : Bool → ℕ → List ℕ
count_part named n = cond named [] (encoded n)

-- of the shared byte, and of a field's own type byte
abbrev pub shared_mark : Bool → Mark
shared_mark named = cond named SharedByFields SharedByItems

abbrev pub type_mark : Bool → Mark
type_mark named = cond named OfField OfItem

unfoldable pub shared_part : Bool → Bool → ℕ → List ℕ
shared_part named u c = cond u ((flags (shared_mark named) + c) ∷ []) []

unfoldable pub type_part : Bool → Bool → ℕ → List ℕ
type_part named typed i = cond typed ((flags (type_mark named) + i) ∷ []) []

unfoldable pub name_part : Bool → List ℕ → List ℕ
name_part named n = cond named (with_size n) []

-- a field
abbrev pub field_part : {A : Type 0} → Bool → Bool → (A → Kind) → (A → List ℕ) → List ℕ × A → List ℕ
field_part named typed kind pay x = type_part named typed (id (kind x.1)) ++ (name_part named x.0 ++ pay x.1)

-- c is the shared ID of the fields
abbrev pub body_by : {A : Type 0} → Bool → ℕ → (A → Kind) → (A → List ℕ) → List (List ℕ × A) → List ℕ
body_by named c kind pay xs =
    count_part named (length xs) ++ (shared_part named (uniform named c) c ++ concat (field_part named (not (uniform named c)) kind pay) xs)

abbrev pub body : {A : Type 0} → Bool → (A → Kind) → (A → List ℕ) → List (List ℕ × A) → List ℕ
body named kind pay xs = body_by named (shared (ids kind xs)) kind pay xs

-- how long the contents are: `sum` is that of the names and payloads
unfoldable pub size_by : Bool → ℕ → ℕ → ℕ → ℕ
size_by named c n sum = length (count_part named n) + cond (uniform named c) 1 n + sum

-- ---- a work number between the passes: the size, the width of the count, and the shared ID, which is 0 if the container is not uniform

-- what the size and the width are scaled by: a shared ID is under 32, and the width of a count up to 16,777,216 under 8. So a size under 16,777,216 has its
-- place
-- in 32 bits
abbrev pub size_radix : ℕ
size_radix = 256

abbrev pub width_radix : ℕ
width_radix = 32

unfoldable pub packed : Bool → ℕ → ℕ → ℕ → ℕ
packed named c n size = size * size_radix + length (count_part named n) * width_radix + cond (uniform named c) c 0

abbrev pub size_in : ℕ → ℕ
size_in x = x / size_radix

abbrev pub width_in : ℕ → ℕ
width_in x = x % size_radix / width_radix

abbrev pub shared_in : ℕ → ℕ
shared_in x = x % width_radix

abbrev pub uniform_in : ℕ → Bool
uniform_in x = ltb 0 (shared_in x)

-- of every container, in order of opening
abbrev pub node_packs : {A : Type 0} → (A → Kind) → (A → List ℕ) → (A → List ℕ) → Node A → List ℕ
node_packs kind pay packs (atom v) = []
node_packs kind pay packs (array xs) = packed false (shared (map (λ x. id (kind x)) xs)) (length xs) (length (array_body kind pay xs)) ∷ concat packs xs
node_packs kind pay packs (object xs) = packed true (shared (ids kind xs)) (length xs) (length (object_body kind pay xs)) ∷ concat (λ x. packs x.1) xs

abbrev pub packs_of : (d : ℕ) → Tree d → List ℕ
packs_of zero t = absurd t
packs_of (suc d) t = node_packs (kind_of d) (payload_of d) (packs_of d) t
