-- Where a frame stands: what the code answers at each return.
use Rattle.std.specs.Prelude.{Some, None, Option}
use Prim.Native.Nat.{ℕ, zero, suc, ◌+◌, ◌-◌, ◌≤◌, ◌<◌}
use native.Mathlib.Omega.{arith}
use mathlib.Core.Path.{◌≡◌, refl, sym, ◌∙◌}
use mathlib.Core.Bool.{Bool, true, false, cond}
use mathlib.Core.List.{List}
use lib.ListN.{length}
use lib.Dec.{leb}
use borrow.Author.Tests.{le-leb, lt-leb}
use Rattle.passing.specs.FrameNames.{name_at}
use Rattle.passing.proofs.NamesLaws.{found_at}
use Rattle.used.specs.Place.{place_at, place_from, frame_place}
use Rattle.used.proofs.Chains.{no_frame}
use Rattle.names.specs.declared.Name.{Name}

-- the frames before `at` are passed
pub record Passed (d : ℕ) (s : List ℕ) (g at : ℕ) : Type 0 where
  pub fuel : ℕ
  pub enough : length s ≤ at + fuel
  pub inside : at ≤ length s
  pub whole : frame_place d s g ≡ place_from d s g fuel at

pub passed_none : (d : ℕ) (s : List ℕ) (g : ℕ) → Passed d s g 0
passed_none d s g = record { fuel = length s; enough = omega arith; inside = omega arith; whole = refl }

module _ (d : ℕ) (s : List ℕ) (g at : ℕ) (w : Passed d s g at) where
  stands : ((k : ℕ) → length s ≤ at + k → at ≡ place_from d s g k at) → at ≡ frame_place d s g
  stands f = f w.fuel w.enough ∙ sym w.whole

  nothing : name_at d at s ≡ None → at ≡ frame_place d s g
  unfolding place_from
  nothing h = stands go
    where
      go : (k : ℕ) → length s ≤ at + k → at ≡ place_from d s g k at
      go zero m = refl
      go (suc k) m = rw h

  pub place_ends : length s ≤ at → at ≡ frame_place d s g
  place_ends l = nothing (no_frame d s at l)

  module _ (x : Option Name) (i : x ≡ name_at d at s) where
    pub place_nothing : x ≡ None → at ≡ frame_place d s g
    place_nothing h = nothing (sym i ∙ h)

    module _ (l : at < length s) (p : Name) (h : x ≡ Some p) where
      pub place_here : g ≤ p.begin → at ≡ frame_place d s g
      unfolding place_from
      place_here q = stands go
        where
          go : (k : ℕ) → length s ≤ at + k → at ≡ place_from d s g k at
          go zero m = refl
          go (suc k) m = rw (← i, h, le-leb g p.begin q)

      pub place_less : length s - p.next < length s - at
      place_less = let f = found_at d at s (omega arith) p (sym i ∙ h) in omega (arith, f.onward, f.inside)

      pub place_on : p.begin < g → Passed d s g p.next
      unfolding place_from
      place_on q = go w.fuel w.enough w.whole
        where
          go : (k : ℕ) → length s ≤ at + k → frame_place d s g ≡ place_from d s g k at → Passed d s g p.next
          go zero m j = absurd (omega arith)
          go (suc k) m j =
              let f = found_at d at s (omega arith) p (sym i ∙ h) in
              record { fuel = k; enough = omega (arith, f.onward); inside = f.inside; whole = j ∙ rw (← i, h, lt-leb g p.begin q) }

pub ruleset place_laws = (passed_none, place_ends, place_nothing, place_here, place_less, place_on)

-- ---- it stands in the part

place_from_law : (d : ℕ) (s : List ℕ) (g k a : ℕ) → a ≤ length s → place_from d s g k a ≤ length s
unfolding place_from
place_from_law d s g zero a l = l
place_from_law d s g (suc k) a l = go (name_at d a s) refl (λ n m. place_from_law d s g k n m)
  where
    by : (o : Bool) (n : ℕ) → n ≤ length s → cond o a n ≤ length s
    by true n m = l
    by false n m = m

    go : (x : Option Name) → name_at d a s ≡ x → ((n : ℕ) → n ≤ length s → place_from d s g k n ≤ length s) → place_at g a x (λ n. place_from d s g k n) ≤ length s
    go None h f = l
    go (Some p) h f = by (leb g p.begin) (place_from d s g k p.next) (f p.next (found_at d a s l p h).inside)

pub place_inside : (d : ℕ) (s : List ℕ) (g : ℕ) → frame_place d s g ≤ length s
place_inside d s g = place_from_law d s g (length s) 0 (omega arith)
