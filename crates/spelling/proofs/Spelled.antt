-- The reader reads exactly the spellings of layouts (specs/Spells.antt): whatever it reads is one, and it reads each. Once for any VarUInts, once for
-- minimal ones and no flaw `long`.
use Prim.Native.Nat.{ℕ, ◌+◌, ◌≤◌}
use native.Mathlib.Omega.{arith}
use mathlib.Core.Path.{◌≡◌, refl, sym, ap, subst, ◌∙◌}
use mathlib.Core.Logic.{◌↔◌}
use mathlib.Core.Bool.{Bool, false}
use mathlib.Core.List.{List, [], ◌∷◌, ◌++◌}
use lib.ListN.{length, take, length-append}
use lib.Seq.{take_at}
use Rattle.number.specs.BigEndian.{Bytes}
use Rattle.format.specs.declared.Form.{Form}
use Rattle.format.specs.declared.Form.TheVariants.{Top}
use Rattle.format.specs.declared.Flaw.{Flaw}
use Rattle.format.specs.declared.Flaw.TheVariants.{Long}
use Rattle.format.specs.Parse.{got}
use Rattle.format.specs.Reader.{Standing, Named, Layout, read}
use Rattle.format.specs.Limits.{depth_limit, length_limit}
use Rattle.format.specs.Mask.{has, flaws, padding_of, mask_of, mask, bounds_only}
use Rattle.spelling.specs.Flawed.{sum_where, shown_flaw}
use Rattle.places.specs.Show.{ShownPayload}
use Rattle.spelling.specs.Spells.{Spells, any_form, minimal_form}
use Rattle.format.proofs.Masks.{mask_case, mask_short, bounds_case}
use Rattle.spelling.proofs.FlawsMet.{flaws_of_read, sum_where_law}
use Rattle.spelling.proofs.Grammar.{Front}
use Rattle.spelling.proofs.GrammarLayer.{read_spells}
use Rattle.spelling.proofs.SpelledNumbers.{Any, NoLong, any_clean, no_long_clean, any_number, minimal_number, any_some, minimal_some}

pub read_any : (d : ℕ) (g : Form) → Front Any (read d g) (Spells any_form d g)
read_any = read_spells any_clean any_number any_some

pub read_minimal : (d : ℕ) (g : Form) → Front NoLong (read d g) (Spells minimal_form d g)
read_minimal = read_spells no_long_clean minimal_number minimal_some

-- the bounds check passes a payload exactly if it is within the length limit and begins with a spelling of a layout, which may have as many levels as the
-- limit says
pub bounds_exactly_spellings : (s : List ℕ) → Bytes s
    → (mask bounds_only s ≡ 0) ↔ ((length s ≤ length_limit) × (x : Named (Standing (Layout depth_limit))) × (w left : List ℕ) × (s ≡ w ++ left)
    × Spells any_form depth_limit Top x w)
bounds_exactly_spellings s y = (
  (λ h. mask_case bounds_only s h λ l m. bounds_case (read depth_limit Top s) m λ x fs r e. let i = (read_any depth_limit Top).to s x fs r y e tt in
      (l, x, i.0, r, i.1, i.2)),
  (λ i. let j = (read_any depth_limit Top).from i.1 i.2 i.5 i.3 in
      let e : read depth_limit Top s ≡ got i.1 j.0 i.3 = subst (λ s. read depth_limit Top s ≡ got i.1 j.0 i.3) (sym i.4) j.2 in
      rw (mask_short bounds_only s i.0, e) (zero_mask i.1 j.0 i.3)),
)
  where
    zero_mask : {A : Type 0} (a : A) (fs : List Flaw) (r : List ℕ) → mask_of bounds_only (got a fs r) ≡ 0
    zero_mask a fs [] = refl
    zero_mask a fs (b ∷ r) = refl

-- no VarUInt that is not minimal was met exactly if the bytes are a spelling of the layout with minimal ones
pub long_exactly : (s : List ℕ) → Bytes s → (i : ShownPayload s)
    → (has Long i.flaws ≡ false) ↔ ((w : List ℕ) × (s ≡ w ++ i.left) × Spells minimal_form depth_limit Top ([], (i.kind, i.layout)) w)
long_exactly s b i = (
  (λ h. (read_minimal depth_limit Top).to s _ _ _ b i.was_read h),
  (λ x. let y : Named (Standing (Layout depth_limit)) = ([], (i.kind, i.layout)) in
      let j = (read_minimal depth_limit Top).from y x.0 x.2 i.left in
      let e : got y i.flaws i.left ≡ got y j.0 i.left = sym i.was_read ∙ (ap (read depth_limit Top) x.1 ∙ j.2) in
      let z : j.0 ≡ i.flaws = cc in
      subst (λ fs. has Long fs ≡ false) z j.1),
)

-- ---- the mask of every spelling, with no word of the reader

same_front : (w u r : List ℕ) → w ++ r ≡ u ++ r → w ≡ u
same_front w u r e =
    let l : length w + length r ≡ length u + length r = simp length-append at (ap length e) in
    let k : length u ≡ length w = omega (arith, l) in
    sym (take_at w r (length w) refl) ∙ (ap (take (length w)) e ∙ take_at u r (length w) k)

-- a payload is a spelling of one layout at most, and what is left behind it is told
pub one_layout : (d : ℕ) (x y : Named (Standing (Layout d))) (w u r q : List ℕ) → Spells any_form d Top x w → Spells any_form d Top y u → w ++ r ≡ u ++ q
    → (x ≡ y) × (r ≡ q)
one_layout d x y w u r q i j e =
    let a = (read_any d Top).from x w i r in
    let b = (read_any d Top).from y u j q in
    let z : got x a.0 r ≡ got y b.0 q = sym a.2 ∙ (ap (read d Top) e ∙ b.2) in
    (cc, cc)

-- its mask is the sum of the flaws that the layout has, of `long` if its VarUInts are not all minimal, and of what is left
pub mask_of_spelling : (x : Named (Standing (Layout depth_limit))) (w left : List ℕ) → Bytes (w ++ left) → length (w ++ left) ≤ length_limit
    → Spells any_form depth_limit Top x w
    → (l : Bool) × ((l ≡ false) ↔ Spells minimal_form depth_limit Top x w)
    × ((modes : ℕ) → mask modes (w ++ left) ≡ sum_where modes (shown_flaw depth_limit x.1 l) flaws + padding_of modes left)
mask_of_spelling x w left y k i =
    let a = (read_any depth_limit Top).from x w i left in (
      has Long a.0,
      (
        (λ h. let m = (read_minimal depth_limit Top).to (w ++ left) x a.0 left y a.2 h in subst (λ u. Spells minimal_form depth_limit Top x u)
            (sym (same_front w m.0 left m.1)) m.2),
        (λ h. let m = (read_minimal depth_limit Top).from x w h left in
            let e : got x a.0 left ≡ got x m.0 left = sym a.2 ∙ m.2 in
            let z : m.0 ≡ a.0 = cc in
            subst (λ fs. has Long fs ≡ false) z m.1),
      ),
      λ modes. rw (mask_short modes (w ++ left) k, a.2)
          (ap (λ n. n + padding_of modes left) (sum_where_law modes a.0 _ (flaws_of_read depth_limit (w ++ left) x a.0 left a.2) flaws)),
    )
