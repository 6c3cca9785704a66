-- The reader: the first stopping fault in document order; or the fields as they stand, the faults met that do not stop, and what is left
-- (document 01, "The mask"). `tree` forgets which of two IDs a kind was written with ("Trees").
use Rattle.std.specs.Prelude.{ℕ, zero, suc, Bool, true, false, ◌&&◌, cond, List, [], ◌∷◌, map, length, ltb}
use Rattle.std.proofs.Math.Option.{Option, none, some}
use Rattle.format.specs.declared.Kind.{Kind}
use Rattle.format.specs.declared.Form.{Form}
use Rattle.format.specs.declared.Form.TheVariants.{Top, Field, Item, SharedField, SharedItem}
use Rattle.format.specs.declared.Stop.TheVariants.{TooDeep}
use Rattle.format.specs.Limits.{depth_limit, length_limit}
use Rattle.format.specs.Kinds.{is_uniform, is_uniform_array}
use Rattle.format.specs.declared.Flaw.TheVariants.{Twin, NotUniform}
use Rattle.format.specs.Parse.{Out, fault, got, bind, raise, make, whole, many, fill}
use Rattle.format.specs.Names.{twins}
use Rattle.format.specs.Tree.{Node, atom, array, object, Tree, map_node}
use Rattle.format.specs.Payload.{Head, value, fields_in, items_in, front, head}

-- a field as it stands: its kind with its ID, and below it A; and the same with its name
abbrev pub Standing : Type 0 → Type 0
Standing A = Kind × A

abbrev pub Named : Type 0 → Type 0
Named A = List ℕ × A

-- d layers of such fields
abbrev pub Layout : ℕ → Type 0
Layout zero = ⊥
Layout (suc d) = Node (Standing (Layout d))

abbrev pub tree : (d : ℕ) → Layout d → Tree d
tree zero l = absurd l
tree (suc d) l = map_node (λ x. tree d x.1) l

abbrev pub Reader : Type 0 → Type 0
Reader A = Form → List ℕ → Out (Named (Standing A))

abbrev pub kinds_in : {A : Type 0} → List (Named (Standing A)) → List Kind
kinds_in xs = map (λ x. x.1.0) xs

abbrev pub names_in : {A : Type 0} → List (Named A) → List (List ℕ)
names_in xs = map (λ x. x.0) xs

-- 1024 is about 02 and 04
abbrev pub is_typed : Form → Bool
is_typed Top = true
is_typed Field = true
is_typed Item = true
is_typed (SharedField k) = false
is_typed (SharedItem k) = false

-- the fields together
abbrev pub as_array : {A : Type 0} → Form → List (Named (Standing A)) → List ℕ → Out (Node (Standing A))
as_array f xs r = raise (is_typed f && is_uniform_array (kinds_in xs)) NotUniform (got (array (map (λ x. x.1) xs)) [] r)

abbrev pub as_object : {A : Type 0} → Form → List (Named (Standing A)) → List ℕ → Out (Node (Standing A))
as_object f xs r = raise (is_typed f && is_uniform (kinds_in xs)) NotUniform (raise (twins (names_in xs)) Twin (got (object xs) [] r))

-- counted items, or fields that fill the part
abbrev pub contents : {A : Type 0} → Reader A → Head → Out (Node (Standing A))
contents p (value v) = got (atom v) [] []
contents p (items_in f n s) = bind (many (p f) n s) (as_array f)
contents p (fields_in f s) = bind (fill (p f) (length s) s) (as_object f)

abbrev pub read_node : {A : Type 0} → Reader A → Kind → List ℕ → Out (Node (Standing A))
read_node p k s = bind (head k s) λ h r. whole (contents p h) r

abbrev pub read_field : {A : Type 0} → Reader A → Reader (Node (Standing A))
read_field p f s = bind (front f s) λ x r. make (λ t. (x.0, (x.1, t))) (read_node p x.1 r)

-- a field with d levels left. With none it stands too deep, whatever its bytes are
unfoldable pub read : (d : ℕ) → Reader (Layout d)
read zero f s = fault TooDeep
read (suc d) f s = read_field (read d) f s

-- the tree of a payload within the limit, where no fault stops the reader. Bytes after the top field are no part of it
abbrev pub tree_in : Out (Named (Standing (Layout depth_limit))) → Option (Tree depth_limit)
tree_in (fault k) = none
tree_in (got x fs r) = some (tree depth_limit x.1.1)

unfoldable pub tree_of : List ℕ → Option (Tree depth_limit)
tree_of s = cond (ltb length_limit (length s)) none (tree_in (read depth_limit Top s))
