-- Two entries of one name, and where the first begins of some entries that has the name of one before it in the part.
use Rattle.std.specs.Prelude.{ℕ, Bool, false, cond, ◌&&◌, ◌||◌, List, [], ◌∷◌, ltb}
use Rattle.text.specs.Equal.{equal}
use Rattle.entries.specs.Entry.{begin_in, name_in}

abbrev pub same_name : List ℕ → ℕ → ℕ → Bool
same_name s x y = equal (name_in s x) (name_in s y)

-- x begins before e and has its name
unfoldable pub is_first : List ℕ → ℕ → ℕ → Bool
is_first s x e = ltb (begin_in x) (begin_in e) && same_name s x e

-- some entry does
unfoldable pub is_twin : List ℕ → List ℕ → ℕ → Bool
is_twin s [] e = false
is_twin s (x ∷ t) e = is_first s x e || is_twin s t e

abbrev pub lesser : ℕ → ℕ → ℕ
lesser a b = cond (ltb a b) a b

-- where the first of some entries begins that is a twin in t; 16777216 if none is
unfoldable pub least_of : List ℕ → List ℕ → List ℕ → ℕ
least_of s t [] = 16777216
least_of s t (e ∷ es) = cond (is_twin s t e) (lesser (begin_in e) (least_of s t es)) (least_of s t es)

abbrev pub least : List ℕ → List ℕ → ℕ
least s t = least_of s t t
