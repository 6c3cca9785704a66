-- The mask as a sum: it is 0 exactly if nothing was met that is asked, and asking for less never adds to it.
use Prim.Native.Nat.{ℕ, ◌+◌, ◌/◌, ◌%◌, ◌≤◌}
use native.Mathlib.Omega.{arith}
use mathlib.Core.Path.{◌≡◌, refl, sym, ap, ◌∙◌}
use mathlib.Core.Bool.{Bool, true, false, ◌&&◌, cond}
use mathlib.Core.Logic.{◌⊎◌, inl, inr}
use mathlib.Core.List.{List, [], ◌∷◌}
use lib.ListN.{length}
use lib.Dec.{ltb, eqb}
use borrow.Author.Tests.{ltb-false, le-ltb}
use Rattle.number.proofs.Clash.{clash}
use Rattle.format.specs.declared.Stop.{Stop}
use Rattle.format.specs.declared.Stop.TheVariants.{Early, Unknown, TooDeep, TooLong, BadUniform}
use Rattle.format.specs.declared.Form.TheVariants.{Top}
use Rattle.format.specs.Limits.{depth_limit, length_limit}
use Rattle.format.specs.declared.Flaw.{Flaw}
use Rattle.format.specs.declared.Flaw.TheVariants.{Twin, Blank, Long, Low, Wide, NotUtf8, NotUniform}
use Rattle.format.specs.Parse.{Out, fault, got}
use Rattle.format.specs.Mask.{stop_value, flaw_value, mode_of, flaws, has, is_asked, counts, sum_of, padding_mode, padding_of, mask_of, mask, Fewer, bounds_only}
use Rattle.format.specs.Mask.{strict}
use Rattle.format.specs.Reader.{read}

-- ---- nothing met

and_false : (a : Bool) → (a && false) ≡ false
and_false true = refl
and_false false = refl

sum_none : (modes : ℕ) (fs : List Flaw) → sum_of modes [] fs ≡ 0
sum_none modes [] = refl
sum_none modes (f ∷ fs) = rw (and_false (is_asked modes (mode_of f)), sum_none modes fs)

pub mask_clean : (modes : ℕ) → sum_of modes [] flaws + 0 ≡ 0
mask_clean modes = rw (sum_none modes flaws)

-- ---- strict, and nothing counted

sum_strict : (f : Flaw) (met : List Flaw) → sum_of strict (f ∷ met) flaws ≡ 0 → ⊥
sum_strict Twin met h = omega arith
sum_strict Blank met h = omega arith
sum_strict Long met h = omega arith
sum_strict Low met h = omega arith
sum_strict Wide met h = omega arith
sum_strict NotUtf8 met h = omega arith
sum_strict NotUniform met h = omega arith

pub stop_some : (k : Stop) → stop_value k ≡ 0 → ⊥
stop_some Early h = omega arith
stop_some Unknown h = omega arith
stop_some TooDeep h = omega arith
stop_some TooLong h = omega arith
stop_some BadUniform h = omega arith

pub strict_case : {A X : Type 0} (o : Out A) → mask_of strict o ≡ 0 → ((x : A) → o ≡ got x [] [] → X) → X
strict_case (fault k) h c = absurd (stop_some k h)
strict_case (got x [] []) h c = c x refl
strict_case (got x [] (b ∷ r)) h c = absurd (omega arith)
strict_case (got x (f ∷ fs) r) h c = absurd (sum_strict f fs (omega arith))

-- ---- the limit first

pub mask_case : {X : Type 0} (modes : ℕ) (s : List ℕ) → mask modes s ≡ 0 → (length s ≤ length_limit → mask_of modes (read depth_limit Top s) ≡ 0 → X) → X
unfolding mask
mask_case {X} modes s h c = go (ltb length_limit (length s)) refl h
  where
    go : (x : Bool) → ltb length_limit (length s) ≡ x → cond x (stop_value TooLong) (mask_of modes (read depth_limit Top s)) ≡ 0 → X
    go true e h = absurd (stop_some TooLong h)
    go false e h = c (ltb-false length_limit (length s) e) h

pub mask_short : (modes : ℕ) (s : List ℕ) → length s ≤ length_limit → mask modes s ≡ mask_of modes (read depth_limit Top s)
unfolding mask
mask_short modes s l = rw (le-ltb length_limit (length s) l)

-- ---- fewer modes

fewer_at : (few more : ℕ) → Fewer few more → (f : Flaw) → is_asked few (mode_of f) ≡ true → is_asked more (mode_of f) ≡ true
fewer_at few more w Twin = w.with_names
fewer_at few more w Blank = w.with_names
fewer_at few more w Long = w.with_format
fewer_at few more w Low = w.with_format
fewer_at few more w Wide = w.with_format
fewer_at few more w NotUtf8 = w.with_format
fewer_at few more w NotUniform = w.with_format

and_mono : (a b c : Bool) → (a ≡ true → b ≡ true) → (a && c) ≡ true → (b && c) ≡ true
and_mono true b c f h = rw (f refl) h
and_mono false b c f h = clash cc

pub counts_fewer : (few more : ℕ) → Fewer few more → (met : List Flaw) (f : Flaw) → counts few met f ≡ true → counts more met f ≡ true
counts_fewer few more w met f h = and_mono (is_asked few (mode_of f)) (is_asked more (mode_of f)) (has f met) (fewer_at few more w f) h

cond_mono : (a b : Bool) (n : ℕ) → (a ≡ true → b ≡ true) → cond a n 0 ≤ cond b n 0
cond_mono true b n f = rw (f refl) (omega arith)
cond_mono false b n f = omega arith

sum_mono : (few more : ℕ) → Fewer few more → (met fs : List Flaw) → sum_of few met fs ≤ sum_of more met fs
sum_mono few more w met [] = omega arith
sum_mono few more w met (f ∷ fs) =
    omega (arith, cond_mono (counts few met f) (counts more met f) (flaw_value f) (counts_fewer few more w met f), sum_mono few more w met fs)

of_mono : {A : Type 0} (few more : ℕ) → Fewer few more → (o : Out A) → mask_of few o ≤ mask_of more o
of_mono few more w (fault k) = omega arith
of_mono few more w (got x fs []) = omega (arith, sum_mono few more w fs flaws)
of_mono few more w (got x fs (b ∷ r)) =
    omega (arith, sum_mono few more w fs flaws, cond_mono (is_asked few padding_mode) (is_asked more padding_mode) 4096 w.with_padding)

pub mask_mono : (few more : ℕ) (s : List ℕ) → Fewer few more → mask few s ≤ mask more s
unfolding mask
mask_mono few more s w = go (ltb length_limit (length s))
  where
    go : (x : Bool) → cond x (stop_value TooLong) (mask_of few (read depth_limit Top s)) ≤ cond x (stop_value TooLong) (mask_of more (read depth_limit Top s))
    go true = omega arith
    go false = of_mono few more w (read depth_limit Top s)

-- ---- what bounds checks alone pass was read, or stopped

pub bounds_case : {A X : Type 0} (o : Out A) → mask_of bounds_only o ≡ 0 → ((x : A) (fs : List Flaw) (r : List ℕ) → o ≡ got x fs r → X) → X
bounds_case (fault k) h c = absurd (stop_some k h)
bounds_case (got x fs r) h c = c x fs r refl

-- ---- other bits than the three modes

bit_kept : (modes : ℕ) (f : Flaw) → is_asked modes (mode_of f) ≡ is_asked (modes % 8) (mode_of f)
bit_kept modes f = ap (λ (n : ℕ). eqb n 1) (go f)
  where
    go : (f : Flaw) → modes / mode_of f % 2 ≡ modes % 8 / mode_of f % 2
    go Twin = omega arith
    go Blank = omega arith
    go Long = omega arith
    go Low = omega arith
    go Wide = omega arith
    go NotUtf8 = omega arith
    go NotUniform = omega arith

sum_kept : (modes : ℕ) (met fs : List Flaw) → sum_of modes met fs ≡ sum_of (modes % 8) met fs
sum_kept modes met [] = refl
sum_kept modes met (f ∷ fs) = rw (bit_kept modes f, sum_kept modes met fs)

padding_kept : (modes : ℕ) (r : List ℕ) → padding_of modes r ≡ padding_of (modes % 8) r
padding_kept modes [] = refl
padding_kept modes (b ∷ r) = let e : modes / 4 % 2 ≡ modes % 8 / 4 % 2 = omega arith in rw e

of_kept : {A : Type 0} (modes : ℕ) (o : Out A) → mask_of modes o ≡ mask_of (modes % 8) o
of_kept modes (fault k) = refl
of_kept modes (got x fs r) = rw (sum_kept modes fs flaws, padding_kept modes r)

pub mask_bits : (modes : ℕ) (s : List ℕ) → mask modes s ≡ mask (modes % 8) s
unfolding mask
mask_bits modes s = rw (of_kept modes (read depth_limit Top s))

-- ---- what the mask is made of

-- one stopping fault, or one sum, whatever the modes
pub mask_made : (s : List ℕ)
    → ((k : Stop) × ((modes : ℕ) → mask modes s ≡ stop_value k))
    ⊎ ((met : List Flaw) × (left : List ℕ) × ((modes : ℕ) → mask modes s ≡ sum_of modes met flaws + padding_of modes left))
unfolding mask
mask_made s = long_or (ltb length_limit (length s)) refl
  where
    read_or : (o : Out _) → read depth_limit Top s ≡ o → ltb length_limit (length s) ≡ false
        → ((k : Stop) × ((modes : ℕ) → cond (ltb length_limit (length s)) (stop_value TooLong) (mask_of modes (read depth_limit Top s)) ≡ stop_value k))
        ⊎ ((met : List Flaw) × (left : List ℕ) × ((modes : ℕ)
        → cond (ltb length_limit (length s)) (stop_value TooLong) (mask_of modes (read depth_limit Top s)) ≡ sum_of modes met flaws + padding_of modes left))
    read_or (fault k) e l = inl (k, λ modes. rw (l, e))
    read_or (got x fs r) e l = inr (fs, r, λ modes. rw (l, e))

    long_or : (b : Bool) → ltb length_limit (length s) ≡ b
        → ((k : Stop) × ((modes : ℕ) → cond (ltb length_limit (length s)) (stop_value TooLong) (mask_of modes (read depth_limit Top s)) ≡ stop_value k))
        ⊎ ((met : List Flaw) × (left : List ℕ) × ((modes : ℕ)
        → cond (ltb length_limit (length s)) (stop_value TooLong) (mask_of modes (read depth_limit Top s)) ≡ sum_of modes met flaws + padding_of modes left))
    long_or true l = inl (TooLong, λ modes. rw l)
    long_or false l = read_or (read depth_limit Top s) refl l

sum_bounds : (met : List Flaw) (left : List ℕ) → sum_of bounds_only met flaws + padding_of bounds_only left ≡ 0
sum_bounds met [] = refl
sum_bounds met (b ∷ r) = refl

pub stop_same : (s : List ℕ) → (mask bounds_only s ≡ 0 → ⊥) → (modes : ℕ) → mask modes s ≡ mask bounds_only s
stop_same s h modes = go (mask_made s)
  where
    go : ((k : Stop) × ((modes : ℕ) → mask modes s ≡ stop_value k)) ⊎ ((met : List Flaw) × (left : List ℕ)
        × ((modes : ℕ) → mask modes s ≡ sum_of modes met flaws + padding_of modes left)) → mask modes s ≡ mask bounds_only s
    go (inl i) = i.1 modes ∙ sym (i.1 bounds_only)
    go (inr i) = absurd (h (i.2 bounds_only ∙ sum_bounds i.0 i.1))
