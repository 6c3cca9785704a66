-- The list that describes a tree (document 01, "The write list"): each field's kind, inside an object its name, and then its payload as the encoding has it,
-- or what a container holds and a close. Nothing here has to be believed: proofs/Describable.antt shows that it is read as the tree.
use Rattle.std.specs.Prelude.{ℕ, zero, suc, List, [], ◌∷◌, ◌++◌}
use Rattle.format.specs.declared.Kind.TheVariants.{Object, Array}
use Rattle.format.specs.Kinds.{id}
use Rattle.format.specs.Tree.{Node, atom, array, object, Tree}
use Rattle.format.specs.Encoding.{with_size, concat, leaf_kind, leaf_payload}

abbrev pub close : List ℕ
close = 0 ∷ []

-- one layer: `name` stands between the kind and what follows, and `frames` describes the fields
abbrev pub node_frames : {A : Type 0} → (List ℕ → A → List ℕ) → List ℕ → Node A → List ℕ
node_frames frames name (atom v) = id (leaf_kind v) ∷ (name ++ leaf_payload v)
node_frames frames name (array xs) = id Array ∷ (name ++ (concat (frames []) xs ++ close))
node_frames frames name (object xs) = id Object ∷ (name ++ (concat (λ x. frames (with_size x.0) x.1) xs ++ close))

-- every layer
abbrev pub frames_of : (d : ℕ) → List ℕ → Tree d → List ℕ
frames_of zero name t = absurd t
frames_of (suc d) name t = node_frames (frames_of d) name t

unfoldable pub list_of : (d : ℕ) → Tree d → List ℕ
list_of d t = frames_of d [] t
