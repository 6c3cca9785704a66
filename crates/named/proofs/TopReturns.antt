-- The top field: what the code knows at each return.
use Rattle.std.specs.Prelude.{Result, Err}
use Prim.Native.Nat.{ℕ, ◌≤◌, ◌<◌}
use mathlib.Core.Path.{◌≡◌, ◌∙◌}
use mathlib.Core.List.{List}
use lib.ListN.{length, replicate}
use borrow.Author.Tests.{lt-ltb, le-ltb}
use Rattle.format.specs.declared.Form.TheVariants.{Top}
use Rattle.format.specs.declared.Stop.TheVariants.{TooLong}
use Rattle.format.specs.declared.Stop.{Stop}
use Rattle.format.specs.Limits.{depth_limit, length_limit}
use Rattle.faults.specs.declared.Modes.{Modes}
use Rattle.faults.specs.declared.Faults.{Faults}
use Rattle.faults.specs.Noted.{nothing}
use Rattle.named.specs.Named.{named_at, field_in, Kept}
use Rattle.named.specs.Top.{top_at, top_within, Checked, top_with}
use Rattle.named.proofs.NamedCases.{named_field}
use Rattle.contents.specs.declared.Field.{Field}
use Rattle.named.specs.declared.Named.{Named}

pub top_is : (m : Modes) (s : List ℕ) (g : Faults) → g ≡ nothing → (l : ℕ) → l ≡ depth_limit → (y : Result Named Stop) → y ≡ named_at Top m l g s → (x : Result Field Stop)
    → x ≡ field_in y → x ≡ top_at m s
top_is m s g i l j y h x k = k ∙ (rw (i, j) at (named_field Top m g s l y h))

pub top_long : (m : Modes) (s : List ℕ) → length_limit < length s → Err TooLong ≡ top_within m s
unfolding top_within
top_long m s i = rw (lt-ltb length_limit (length s) i)

pub top_within_law : (m : Modes) (s : List ℕ) → length s ≤ length_limit → (x : Result Field Stop) → x ≡ top_at m s → x ≡ top_within m s
unfolding top_within
top_within_law m s i x e = rw (le-ltb length_limit (length s) i) e

-- with a table
pub with_long : (m : Modes) (s t : List ℕ) → length_limit < length s → (t' : List ℕ) → t' ≡ replicate (length t) 0
    → ◌≡◌ {A = Checked} (record { answer = Err TooLong; table = t' }) (top_with m s t)
unfolding top_with
with_long m s t i t' h = rw (h, ← top_long m s i)

pub with_top : (m : Modes) (s t : List ℕ) → length s ≤ length_limit → (x : Result Field Stop) → x ≡ top_at m s → (t' t'' : List ℕ) → Kept t t'
    → t'' ≡ replicate (length t') 0 → ◌≡◌ {A = Checked} (record { answer = x; table = t'' }) (top_with m s t)
unfolding top_with
with_top m s t i x e t' t'' l h = rw (h, l.is, ← top_within_law m s i x e)

pub ruleset laws = (top_long, top_within_law)

pub ruleset with_laws = (top_is, with_long, with_top)
