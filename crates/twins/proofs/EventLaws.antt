-- Lists of events: the first twin of two that stand one behind the other; what all events have; and that each stands behind the one before it.
use Prim.Native.Nat.{ℕ, ◌≤◌}
use native.Mathlib.Omega.{arith}
use mathlib.Core.Path.{◌≡◌, refl}
use mathlib.Core.Bool.{Bool, true, false, cond}
use mathlib.Core.Option.{Option, none, some}
use mathlib.Core.List.{List, [], ◌∷◌, ◌++◌}
use lib.ListN.{length}
use Rattle.number.specs.BigEndian.{All}
use Rattle.format.specs.Kinds.{any}
use Rattle.frames.specs.WriteList.{Frames, next}
use Rattle.twins.specs.Events.{Event, is_of, first_twin, past, decide, Falls}
use Rattle.twins.specs.Least.{first_of}

pub twin_append : (seen a b : List Event) → first_twin seen (a ++ b) ≡ first_of (first_twin seen a) (first_twin (past seen a) b)
unfolding first_twin
twin_append seen [] b = refl
twin_append seen (e ∷ a) b = go (twin_append (e ∷ seen) a b) (any (is_of e.object e.name) seen)
  where
    go : first_twin (e ∷ seen) (a ++ b) ≡ first_of (first_twin (e ∷ seen) a) (first_twin (past (e ∷ seen) a) b)
        → (x : Bool) → cond x (some e.from) (first_twin (e ∷ seen) (a ++ b))
        ≡ first_of (cond x (some e.from) (first_twin (e ∷ seen) a)) (first_twin (past (e ∷ seen) a) b)
    go i true = refl
    go i false = i

pub decide_next : {A B : Type 0} (t : Option (List ℕ)) (o : Frames A) (g : A → List ℕ → Frames B) → next (decide t o) g ≡ decide t (next o g)
decide_next none o g = refl
decide_next (some f) o g = refl

-- ---- what all of them have

pub all_past : (P : Event → Type 0) (seen es : List Event) → All P seen → All P es → All P (past seen es)
all_past P seen [] h g = h
all_past P seen (e ∷ es) h g = all_past P (e ∷ seen) es (g.0, h) g.1

pub all_append : (P : Event → Type 0) (a b : List Event) → All P a → All P b → All P (a ++ b)
all_append P [] b h g = g
all_append P (e ∷ a) b h g = (h.0, all_append P a b h.1 g)

-- ---- less and less of the list is left

pub falls_less : (m j : ℕ) (es : List Event) → m ≤ j → Falls m es → Falls j es
falls_less m j [] l h = tt
falls_less m j (e ∷ es) l h = (let z = h.0 in omega arith, h.1)

pub falls_append : (m j : ℕ) (a b : List Event) → j ≤ m → Falls m a → All (λ e. j ≤ length e.from) a → Falls j b → Falls m (a ++ b)
falls_append m j [] b l h i g = falls_less j m b l g
falls_append m j (e ∷ a) b l h i g = (h.0, falls_append (length e.from) j a b i.0 h.1 i.1 g)
