-- Names noted while an object is read. Sixteen at most are kept, and as many as there is a table for; of more it is told whether they ascend.
use Rattle.std.specs.Prelude.{ℕ, ◌+◌, Bool, true, ◌&&◌, cond, List, [], ◌∷◌, ◌++◌, length, take, set, ltb}
use Rattle.compare.specs.Order.{ascends}
use Rattle.entries.specs.Least.{lesser, least}
use Rattle.select.specs.declared.Source.{Source}
use Rattle.select.specs.Source.{Searched, searched}
use Rattle.notes.specs.declared.Notes.{Notes}
use Rattle.notes.specs.declared.Notes.TheVariants.{Few, Rising, Many}

-- x comes before the first of these names, and each before the next
unfoldable pub rises_from : List ℕ → ℕ → List ℕ → Bool
rises_from s x [] = true
rises_from s x (y ∷ t) = ascends s x y && rises_from s y t

abbrev pub rises : List ℕ → List ℕ → Bool
rises s [] = true
rises s (x ∷ t) = rises_from s x t

-- how many numbers in front of the table are notes
abbrev pub held_in : Notes → ℕ
held_in (Few n) = n
held_in (Rising y) = 0
held_in Many = 0

abbrev pub risen : Bool → ℕ → Notes
risen b x = cond b (Rising x) Many

-- the notes, and the table
pub record Noting : Type 0 where
  pub notes : Notes
  pub table : List ℕ

abbrev pub noting : Notes → List ℕ → Noting
noting n t = record { notes = n; table = t }

-- one name more
abbrev pub added : List ℕ → List ℕ → Notes → ℕ → Noting
added s t (Few n) x = cond (ltb n (lesser 16 (length t))) (noting (Few (n + 1)) (set t n x)) (noting (risen (rises s (take n t ++ (x ∷ []))) x) t)
added s t (Rising y) x = noting (risen (ascends s y x) x) t
added s t Many x = noting Many t

-- the first twin, and the table
abbrev pub told : Source → List ℕ → List ℕ → Notes → Searched
told o s t (Few n) = record { answer = least s (take n t); table = t }
told o s t (Rising y) = record { answer = 16777216; table = t }
told o s t Many = searched o s t
