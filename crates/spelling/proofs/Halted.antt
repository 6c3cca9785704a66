-- Which stopping fault it is: the mask is a stopping fault's value exactly if the payload halts with that fault (specs/Halts.antt).
use Prim.Native.Nat.{ℕ, zero, suc, ◌+◌, ◌*◌, ◌≤◌, ◌<◌}
use native.Mathlib.Omega.{arith}
use mathlib.Core.Path.{◌≡◌, refl, sym, ap, ◌∙◌}
use mathlib.Core.Logic.{◌↔◌, ◌⊎◌, inl, inr}
use mathlib.Core.Bool.{Bool, true, false, cond}
use mathlib.Core.List.{List, [], ◌∷◌, ◌++◌}
use lib.ListN.{length}
use lib.Dec.{ltb}
use borrow.Author.Tests.{ltb-true, ltb-false, lt-ltb}
use Rattle.number.specs.BigEndian.{Bytes}
use Rattle.format.specs.declared.Form.TheVariants.{Top}
use Rattle.format.specs.declared.Stop.{Stop}
use Rattle.format.specs.declared.Stop.TheVariants.{Early, Unknown, TooDeep, TooLong, BadUniform}
use Rattle.format.specs.Limits.{depth_limit, length_limit}
use Rattle.format.specs.declared.Flaw.{Flaw}
use Rattle.format.specs.declared.Flaw.TheVariants.{Twin, Blank, Long, Low, Wide, NotUtf8, NotUniform}
use Rattle.format.specs.Parse.{Out, fault, got}
use Rattle.format.specs.Reader.{Standing, Named, Layout, read}
use Rattle.format.specs.Mask.{stop_value, flaws, counts, is_asked, padding_mode, sum_of, padding_of, mask_of, mask, bounds_only}
use Rattle.spelling.specs.Spells.{any_form, Spells}
use Rattle.spelling.specs.Halts.{Halts}
use Rattle.format.proofs.Masks.{mask_short}
use Rattle.spelling.proofs.HaltingLayer.{read_halts}
use Rattle.spelling.proofs.Spelled.{read_any}
use Rattle.spelling.proofs.HaltsShort.{field_short}

-- ---- the values apart

pub stop_one : (k l : Stop) → stop_value k ≡ stop_value l → k ≡ l
stop_one Early Early h = refl
stop_one Early Unknown h = absurd (omega arith)
stop_one Early TooDeep h = absurd (omega arith)
stop_one Early TooLong h = absurd (omega arith)
stop_one Early BadUniform h = absurd (omega arith)
stop_one Unknown Early h = absurd (omega arith)
stop_one Unknown Unknown h = refl
stop_one Unknown TooDeep h = absurd (omega arith)
stop_one Unknown TooLong h = absurd (omega arith)
stop_one Unknown BadUniform h = absurd (omega arith)
stop_one TooDeep Early h = absurd (omega arith)
stop_one TooDeep Unknown h = absurd (omega arith)
stop_one TooDeep TooDeep h = refl
stop_one TooDeep TooLong h = absurd (omega arith)
stop_one TooDeep BadUniform h = absurd (omega arith)
stop_one TooLong Early h = absurd (omega arith)
stop_one TooLong Unknown h = absurd (omega arith)
stop_one TooLong TooDeep h = absurd (omega arith)
stop_one TooLong TooLong h = refl
stop_one TooLong BadUniform h = absurd (omega arith)
stop_one BadUniform Early h = absurd (omega arith)
stop_one BadUniform Unknown h = absurd (omega arith)
stop_one BadUniform TooDeep h = absurd (omega arith)
stop_one BadUniform TooLong h = absurd (omega arith)
stop_one BadUniform BadUniform h = refl

-- a sum of flaws and padding is a multiple of 16, and is below 2048 or from 4096 on
once : (b : Bool) (v : ℕ) → (n : ℕ) × (n ≤ 1) × (cond b v 0 ≡ v * n)
once true v = (1, omega arith, omega arith)
once false v = (0, omega arith, omega arith)

sum_is : (modes : ℕ) (met : List Flaw) → (n : ℕ) × (sum_of modes met flaws ≡ 16 * n) × (n < 128)
sum_is modes met =
    let a = once (counts modes met Twin) 16 in
    let b = once (counts modes met Blank) 32 in
    let c = once (counts modes met Long) 64 in
    let d = once (counts modes met Low) 128 in
    let e = once (counts modes met Wide) 256 in
    let f = once (counts modes met NotUtf8) 512 in
    let g = once (counts modes met NotUniform) 1024 in (
      a.0 + 2 * b.0 + 4 * c.0 + 8 * d.0 + 16 * e.0 + 32 * f.0 + 64 * g.0,
      omega (arith, a.2, b.2, c.2, d.2, e.2, f.2, g.2),
      omega
          (arith, a.1, b.1, c.1, d.1, e.1, f.1, g.1),
    )

padding_is : (modes : ℕ) (left : List ℕ) → (n : ℕ) × (padding_of modes left ≡ 4096 * n) × (n ≤ 1)
padding_is modes [] = (0, omega arith, omega arith)
padding_is modes (b ∷ r) = let i = once (is_asked modes padding_mode) 4096 in (i.0, i.2, i.1)

between : (n m : ℕ) → n < 128 → 16 * n + 4096 * m ≡ 2048 → ⊥
between n zero l e = omega arith
between n (suc m) l e = omega arith

pub sum_no_stop : (modes : ℕ) (met : List Flaw) (left : List ℕ) (k : Stop) → sum_of modes met flaws + padding_of modes left ≡ stop_value k → ⊥
sum_no_stop modes met left k h =
    go (sum_is modes met).0 (padding_is modes left).0 (sum_is modes met).2 k (sym (ap (λ n. n + padding_of modes left) (sum_is modes met).1) ∙ h)
    (padding_is modes left).1
  where
    go : (n m : ℕ) → n < 128 → (k : Stop) → 16 * n + padding_of modes left ≡ stop_value k → padding_of modes left ≡ 4096 * m → ⊥
    go n m l Early e i = omega (arith, e, i)
    go n m l Unknown e i = omega (arith, e, i)
    go n m l TooDeep e i = omega (arith, e, i)
    go n m l TooLong e i = omega (arith, e, i)
    go n m l BadUniform e i = between n m l (ap (λ x. 16 * n + x) (sym i) ∙ e)

-- ---- of a payload

pub halts_mask : (k : Stop) (s : List ℕ) (modes : ℕ) → Halts k s → mask modes s ≡ stop_value k
unfolding mask
halts_mask k s modes (inl i) = rw (lt-ltb length_limit (length s) i.1, i.0)
halts_mask k s modes (inr i) = mask_short modes s i.0 ∙ rw ((read_halts depth_limit Top).from k s i.1)

long_case : {X : Type 0} (s : List ℕ) → (length_limit < length s → X) → (length s ≤ length_limit → X) → X
long_case {X} s f g = go (ltb length_limit (length s)) refl
  where
    go : (x : Bool) → ltb length_limit (length s) ≡ x → X
    go true e = f (ltb-true length_limit (length s) e)
    go false e = g (ltb-false length_limit (length s) e)

-- the mask is the value of k, whatever the modes, exactly if the payload halts with k
pub stops_exactly : (s : List ℕ) → Bytes s → (k : Stop) (modes : ℕ) → (mask modes s ≡ stop_value k) ↔ Halts k s
stops_exactly s y k modes = (to, halts_mask k s modes)
  where
    of_read : length s ≤ length_limit → (o : Out (Named (Standing (Layout depth_limit)))) → read depth_limit Top s ≡ o → mask_of modes o ≡ stop_value k → Halts k s
    of_read l (fault n) e h = inr (l, (read_halts depth_limit Top).to s k y (e ∙ ap fault (stop_one n k h)))
    of_read l (got x fs r) e h = absurd (sum_no_stop modes fs r k h)

    to : mask modes s ≡ stop_value k → Halts k s
    to h = long_case s
        (λ l. inl (stop_one k TooLong (sym h ∙ halts_mask TooLong s modes (inl (refl, l))), l))
        (λ l. of_read l (read depth_limit Top s) refl (sym (mask_short modes s l) ∙ h))

-- 8 exactly if it is over the length limit
pub too_long_exactly : (s : List ℕ) → Bytes s → (modes : ℕ) → (mask modes s ≡ stop_value TooLong) ↔ (length_limit < length s)
too_long_exactly s y modes = (λ h. go ((stops_exactly s y TooLong modes).0 h), λ l. halts_mask TooLong s modes (inl (refl, l)))
  where
    go : Halts TooLong s → length_limit < length s
    go (inl i) = i.1
    go (inr i) = absurd (field_short depth_limit Top s i.1)

-- a payload halts with one fault at most
pub one_stop : (s : List ℕ) (k l : Stop) → Halts k s → Halts l s → k ≡ l
one_stop s k l i j = stop_one k l (sym (halts_mask k s bounds_only i) ∙ halts_mask l s bounds_only j)

-- it halts, or it is a spelling of a layout, and something after it; and not both
pub halts_or_spells : (s : List ℕ) → Bytes s
    → ((k : Stop) × Halts k s)
    ⊎ ((length s ≤ length_limit) × (x : Named (Standing (Layout depth_limit))) × (w left : List ℕ) × (s ≡ w ++ left) × Spells any_form depth_limit Top x w)
halts_or_spells s y = long_case s (λ l. inl (TooLong, inl (refl, l))) (λ l. go l (read depth_limit Top s) refl)
  where
    go : length s ≤ length_limit → (o : Out (Named (Standing (Layout depth_limit)))) → read depth_limit Top s ≡ o
        → ((k : Stop) × Halts k s)
        ⊎ ((length s ≤ length_limit) × (x : Named (Standing (Layout depth_limit))) × (w left : List ℕ) × (s ≡ w ++ left) × Spells any_form depth_limit Top x w)
    go l (fault k) e = inl (k, inr (l, (read_halts depth_limit Top).to s k y e))
    go l (got x fs r) e = let i = (read_any depth_limit Top).to s x fs r y e tt in inr (l, x, i.0, r, i.1, i.2)

pub halts_not_spells : (s : List ℕ) (k : Stop) (x : Named (Standing (Layout depth_limit))) (w left : List ℕ) → Halts k s → length s ≤ length_limit
    → s ≡ w ++ left → Spells any_form depth_limit Top x w → ⊥
halts_not_spells s k x w left i l e j =
    let a = (read_any depth_limit Top).from x w j left in
    let m : mask bounds_only s ≡ sum_of bounds_only a.0 flaws + padding_of bounds_only left =
    mask_short bounds_only s l ∙ (ap (λ s. mask_of bounds_only (read depth_limit Top s)) e ∙ ap (mask_of bounds_only) a.2) in
    sum_no_stop bounds_only a.0 left k (sym m ∙ halts_mask k s bounds_only i)
