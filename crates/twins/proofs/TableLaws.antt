-- Equal names with a table of some of the frames: equal ones among them; else later ones that are in the table, or are equal to each other.
use Prim.Native.Nat.{ℕ}
use native.Mathlib.Omega.{arith}
use mathlib.Core.Path.{◌≡◌, refl, sym, ap, ◌∙◌}
use mathlib.Core.Bool.{Bool, true, false, ◌||◌, cond}
use mathlib.Core.Option.{some}
use mathlib.Core.List.{List, [], ◌∷◌, ◌++◌}
use lib.ListN.{length}
use Rattle.format.specs.Kinds.{any}
use Rattle.twins.specs.Events.{Event, is_of, first_twin, past, Falls}
use Rattle.twins.specs.Least.{earlier, first_of}
use Rattle.twins.specs.Table.{first_met}
use Rattle.twins.proofs.EventLaws.{twin_append}
use Rattle.twins.proofs.EarlierLaws.{Behind, behind_less, earlier_left, earlier_right, earlier_same}
use Rattle.twins.proofs.KeepLaws.{twin_behind}

met_behind : (m : ℕ) (seen es : List Event) → Falls m es → Behind m (first_met seen es)
unfolding first_met
met_behind m seen [] h = tt
met_behind m seen (e ∷ es) h = at (any (is_of e.object e.name) seen) (met_behind (length e.from) seen es h.1)
  where
    at : (x : Bool) → Behind (length e.from) (first_met seen es) → Behind m (cond x (some e.from) (first_met seen es))
    at true i = h.0
    at false i = behind_less (length e.from) m (first_met seen es) (let z = h.0 in omega arith) i

any_append : (p : Event → Bool) (a b : List Event) → any p (a ++ b) ≡ (any p a || any p b)
any_append p [] b = refl
any_append p (e ∷ a) b = at (p e) (any_append p a b)
  where
    at : (x : Bool) → any p (a ++ b) ≡ (any p a || any p b) → (x || any p (a ++ b)) ≡ ((x || any p a) || any p b)
    at true i = refl
    at false i = i

twin_met : (m : ℕ) (a seen es : List Event) → Falls m es → first_twin (a ++ seen) es ≡ earlier (first_met seen es) (first_twin a es)
unfolding first_twin first_met
twin_met m a seen [] h = refl
twin_met m a seen (e ∷ es) h =
    rw (any_append (is_of e.object e.name) a seen)
    (at (any (is_of e.object e.name) a) (any (is_of e.object e.name) seen) (twin_met (length f) (e ∷ a) seen es h.1))
  where
    f : List ℕ
    f = e.from

    at : (x y : Bool) → first_twin (e ∷ (a ++ seen)) es ≡ earlier (first_met seen es) (first_twin (e ∷ a) es)
        → cond (x || y) (some f) (first_twin (e ∷ (a ++ seen)) es)
        ≡ earlier (cond y (some f) (first_met seen es)) (cond x (some f) (first_twin (e ∷ a) es))
    at true true i = sym (earlier_same f)
    at true false i = sym (earlier_right f (first_met seen es) (met_behind (length f) seen es h.1))
    at false true i = sym (earlier_left f (first_twin (e ∷ a) es) (twin_behind (length f) (e ∷ a) es h.1))
    at false false i = i

-- a table of the frames a, and the frames b behind them
pub twin_blocks : (m : ℕ) (a b : List Event) → Falls m b → first_twin [] (a ++ b) ≡ first_of (first_twin [] a) (earlier (first_met (past [] a) b) (first_twin [] b))
twin_blocks m a b h = twin_append [] a b ∙ ap (first_of (first_twin [] a)) (twin_met m [] (past [] a) b h)
