-- The names of the fields that stand in a part one after another (document 01, "The mask", 16), and where the code finds them.
use Rattle.std.specs.Prelude.{ℕ, zero, suc, ◌+◌, ◌-◌, Bool, cond, List, [], ◌∷◌, length, drop, ltb, eqb, Result, Err, Ok, Some, Option, None}
use Rattle.format.specs.declared.Kind.{Kind}
use Rattle.format.specs.declared.Form.{Form}
use Rattle.format.specs.declared.Stop.{Stop}
use Rattle.format.specs.Parse.{Out, fault, got}
use Rattle.format.specs.Names.{twins}
use Rattle.format.specs.Payload.{Head}
use Rattle.head.specs.Code.{meeting}
use Rattle.head.specs.declared.Met.TheVariants as M
use Rattle.head.specs.declared.Met.{Met}
use Rattle.names.specs.declared.Name.{Name}
use Rattle.names.specs.Made.{name_met}

-- the name of what was met in n bytes, and those behind it. A field that takes no byte has no name, and none is looked for behind it
abbrev pub names_after : ℕ → Out ((List ℕ × Kind) × (List ℕ × Head)) → (List ℕ → List (List ℕ)) → List (List ℕ)
names_after n (fault k) more = []
names_after n (got x fs r) more = cond (ltb (length r) n) (x.0.0 ∷ more r) []

-- the names, as far as fields can be met. The number bounds how many, and the length is enough
unfoldable pub names_at : Form → ℕ → List ℕ → List (List ℕ)
names_at f zero s = []
names_at f (suc n) [] = []
names_at f (suc n) (b ∷ s) = names_after (length (b ∷ s)) (meeting f (b ∷ s)) (λ r. names_at f n r)

abbrev pub field_names : Form → List ℕ → List (List ℕ)
field_names f s = names_at f (length s) s

unfoldable pub twins_at : Form → List ℕ → Bool
twins_at f s = twins (field_names f s)

-- ---- where the code finds them

abbrev pub ended_at : ℕ → ℕ → ℕ → Option Name
ended_at b e n = cond (eqb n 0) None (name_met b e n)

abbrev pub name_of : Result Met Stop → Option Name
name_of (Err j) = None
name_of (Ok (M.Leaf k a b e h)) = ended_at a b e
name_of (Ok (M.Fields k a b f c e h)) = ended_at a b e
name_of (Ok (M.Items k a b f n c e h)) = ended_at a b e

-- the name of what was met in n bytes
abbrev pub name_in : ℕ → Out ((List ℕ × Kind) × (List ℕ × Head)) → Option Name
name_in n (fault k) = None
name_in n (got x fs r) = ended_at (n - length x.1.0 - length x.0.0) (n - length x.1.0) (n - length r)

-- behind a other bytes
abbrev pub behind : ℕ → Option Name → Option Name
behind a None = None
behind a (Some p) = name_met (a + p.begin) (a + p.end) (a + p.next)

-- the name of the field at a position
unfoldable pub name_at : Form → ℕ → List ℕ → Option Name
name_at f a s = behind a (name_in (length (drop a s)) (meeting f (drop a s)))
