-- What was seen when a frame is read: of its object the names that the strict reader keeps, and no object that begins behind the frame.
use Prim.Native.Nat.{ℕ, suc, ◌≤◌, ◌<◌}
use native.Mathlib.Omega.{arith}
use mathlib.Core.Path.{◌≡◌, refl, ap, ◌∙◌}
use mathlib.Core.Bool.{Bool, true, false}
use mathlib.Core.List.{List, [], ◌∷◌, ◌++◌}
use lib.ListN.{length}
use borrow.Author.Tests.{ne_eqb, eq-eqb}
use Rattle.number.specs.BigEndian.{All}
use Rattle.text.specs.Equal.{equal}
use Rattle.format.specs.Kinds.{any}
use Rattle.format.proofs.Lists.{all_of}
use Rattle.frames.specs.WriteList.{Frames, framed}
use Rattle.twins.specs.Events.{Event, own_event, is_of, past}
use Rattle.twins.proofs.EventLaws.{all_past}
use Rattle.twins.proofs.FrameEvents.{Before, At}

-- the names that were met in the object at k are `used`
abbrev pub Agree : Bool → ℕ → List (List ℕ) → List Event → Type 0
Agree true k used seen = (n : List ℕ) → any (is_of k n) seen ≡ any (equal n) used
Agree false k used seen = Unit {0}

-- every object that was met begins where m bytes are left, or before
abbrev pub Above : ℕ → List Event → Type 0
Above m seen = All (λ e. m ≤ e.object) seen

pub above_less : (m j : ℕ) (seen : List Event) → j ≤ m → Above m seen → Above j seen
above_less m j seen l h = all_of (λ e. m ≤ e.object) (λ e. j ≤ e.object) (λ e z. omega arith) seen h

-- an object of which nothing was met
pub fresh : (k : ℕ) (n : List ℕ) (seen : List Event) → Above (suc k) seen → any (is_of k n) seen ≡ false
fresh k n [] h = refl
fresh k n (e ∷ seen) h = rw (ne_eqb k e.object (λ q. let z = h.0 in omega arith), fresh k n seen h.1)

-- events of inner objects do not matter
pass_inner : (k : ℕ) (n : List ℕ) (seen es : List Event) → All (λ e. e.object < k) es → any (is_of k n) (past seen es) ≡ any (is_of k n) seen
pass_inner k n seen [] h = refl
pass_inner k n seen (e ∷ es) h = pass_inner k n (e ∷ seen) es h.1 ∙ (rw (ne_eqb k e.object (λ q. let z = h.0 in omega arith)))

-- ---- behind a frame that was read

module _ {A : Type 0} (k : ℕ) (seen : List Event) (s : List ℕ) {L : Frames (List ℕ × A)} {E O I : List Event} (x : List ℕ × A) (r : List ℕ) where
  pub agree_on : (named : Bool) (used : List (List ℕ)) → Agree named k used seen → length s ≤ k → At named k s L E O I → L ≡ framed x r
      → Agree named k (x.0 ∷ used) (past seen E)
  agree_on false used g l h j = tt
  agree_on true used g l h j = λ n.
      let i : E ≡ own_event true k s x.0 ++ I = h.shape ∙ ap (λ o. o ++ I) (h.read x r j) in
      let a = pass_inner k n (record { object = k; from = s; name = x.0 } ∷ seen) I (all_of _ (λ e. e.object < k) (λ e z. omega arith) I h.low) in
      ap (λ es. any (is_of k n) (past seen es)) i ∙ a ∙ rw (eq-eqb k k refl, g n)

  pub above_on : (named : Bool) → Above (length s) seen → length s ≤ k → At named k s L E O I → L ≡ framed x r → Above (length r) (past seen E)
  above_on named g l h j =
      let b = above_less (length s) (length r) seen (let y = h.takes x r j in omega arith) g in
      all_past (λ e. length r ≤ e.object) seen E b (all_of (Before (length r)) (λ e. length r ≤ e.object) (λ e z. z.0) E (h.before x r j l))
