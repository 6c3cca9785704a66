-- Names (document 01, "The mask", 16, 32 and 512).
use Rattle.std.specs.Prelude.{ℕ, Bool, true, false, not, ◌||◌, List, [], ◌∷◌}
use Rattle.text.specs.Utf8.{is_text}
use Rattle.text.specs.Equal.{equal}
use Rattle.format.specs.Kinds.{any}
use Rattle.format.specs.declared.Flaw.TheVariants.{Blank, NotUtf8}
use Rattle.format.specs.Parse.{Out, got, bind, raise, sized, rest}

unfoldable pub is_empty : List ℕ → Bool
is_empty [] = true
is_empty (b ∷ s) = false

-- two of them are byte-equal
unfoldable pub twins : List (List ℕ) → Bool
twins [] = false
twins (n ∷ ns) = any (equal n) ns || twins ns

-- a size and text
abbrev pub read_text : List ℕ → Out (List ℕ)
read_text s = bind (sized rest s) λ t r. raise (not (is_text t)) NotUtf8 (got t [] r)

-- a field's name
abbrev pub read_name : List ℕ → Out (List ℕ)
read_name s = bind (read_text s) λ n r. raise (is_empty n) Blank (got n [] r)
