-- The mask of every payload, told without the reader, and by words that no other answer satisfies: it halts, and the mask is that fault's value; or it
-- begins with a spelling of a layout, and the mask is the sum of what document 01's table says of that, and of what is left.
use Prim.Native.Nat.{ℕ, ◌+◌, ◌≤◌}
use native.Mathlib.Omega.{arith}
use mathlib.Core.Path.{◌≡◌, refl, sym, ap, subst, ◌∙◌}
use mathlib.Core.Logic.{◌↔◌, ◌⊎◌, inl, inr}
use mathlib.Core.Bool.{Bool, true, false}
use mathlib.Core.List.{List, [], ◌∷◌, ◌++◌}
use lib.ListN.{length}
use Rattle.number.specs.BigEndian.{Bytes}
use Rattle.format.specs.declared.Form.TheVariants.{Top}
use Rattle.format.specs.declared.Stop.{Stop}
use Rattle.format.specs.Limits.{depth_limit, length_limit}
use Rattle.format.specs.declared.Flaw.{Flaw}
use Rattle.format.specs.declared.Flaw.TheVariants.{Twin, Blank, Long, Low, Wide, NotUtf8, NotUniform}
use Rattle.format.specs.Reader.{Standing, Named, Layout}
use Rattle.format.specs.Mask.{flaws, padding_of, mask}
use Rattle.spelling.specs.Flawed.{sum_where, shown_flaw}
use Rattle.spelling.specs.FlawTable.{HasFlaw, FlawsTold}
use Rattle.spelling.specs.Spells.{any_form, minimal_form, Spells}
use Rattle.spelling.specs.Halts.{Halts}
use Rattle.spelling.specs.MaskSaid.{MaskSaid}
use Rattle.spelling.proofs.Tells.{is}
use Rattle.spelling.proofs.FlawsExactly.{flawed_exactly}
use Rattle.spelling.proofs.Spelled.{mask_of_spelling}
use Rattle.spelling.proofs.Halted.{halts_mask, halts_or_spells}

told_exactly : (d : ℕ) (x : Standing (Layout d)) (l : Bool) (f : Flaw) → (f ≡ Long → ⊥) → (shown_flaw d x l f ≡ true) ↔ HasFlaw f d x
told_exactly d x l Twin h = flawed_exactly Twin d x
told_exactly d x l Blank h = flawed_exactly Blank d x
told_exactly d x l Long h = absurd (h refl)
told_exactly d x l Low h = flawed_exactly Low d x
told_exactly d x l Wide h = flawed_exactly Wide d x
told_exactly d x l NotUtf8 h = flawed_exactly NotUtf8 d x
told_exactly d x l NotUniform h = flawed_exactly NotUniform d x

-- of a spelling and something after it: the sum of the flaws with a yes
pub spelling_told : (x : Named (Standing (Layout depth_limit))) (w left : List ℕ) → Bytes (w ++ left) → length (w ++ left) ≤ length_limit
    → Spells any_form depth_limit Top x w → (t : FlawsTold x w) × ((modes : ℕ) → mask modes (w ++ left) ≡ sum_where modes t.so flaws + padding_of modes left)
spelling_told x w left y k i =
    let m = mask_of_spelling x w left y k i in
    (record { so = shown_flaw depth_limit x.1 m.0; minimal = m.1; others = told_exactly depth_limit x.1 m.0 }, m.2)

-- what document 01 says of the mask holds of `mask`
pub mask_told : (s : List ℕ) → Bytes s → MaskSaid s (λ modes. mask modes s)
mask_told s y = go (halts_or_spells s y)
  where
    go : ((k : Stop) × Halts k s)
        ⊎ ((length s ≤ length_limit) × (x : Named (Standing (Layout depth_limit))) × (w left : List ℕ) × (s ≡ w ++ left) × Spells any_form depth_limit Top x w)
        → MaskSaid s (λ modes. mask modes s)
    go (inl i) = inl (i.0, i.1, λ modes. halts_mask i.0 s modes i.1)
    go (inr i) =
        let t = spelling_told i.1 i.2 i.3 (subst Bytes i.4 y) (subst (λ s. length s ≤ length_limit) i.4 i.0) i.5 in
        inr (i.1, i.2, i.3, i.0, i.4, i.5, t.0, λ modes. ap (mask modes) i.4 ∙ t.1 modes)

-- ---- and of nothing else

yes_once : (a b : Bool) (P : Type 0) → (a ≡ true) ↔ P → (b ≡ true) ↔ P → a ≡ b
yes_once true b P i j = sym (j.1 (i.0 refl))
yes_once false true P i j = i.1 (j.0 refl)
yes_once false false P i j = refl

no_once : (a b : Bool) (P : Type 0) → (a ≡ false) ↔ P → (b ≡ false) ↔ P → a ≡ b
no_once false b P i j = sym (j.1 (i.0 refl))
no_once true false P i j = i.1 (j.0 refl)
no_once true true P i j = refl

not_long : (f : Flaw) → is f Long ≡ false → f ≡ Long → ⊥
not_long f h e = let z : false ≡ true = sym h ∙ ap (λ g. is g Long) e in let z' : ◌≡◌ {A = ℕ} 0 1 = cc in omega arith

module _ (x : Named (Standing (Layout depth_limit))) (w : List ℕ) (t u : FlawsTold x w) where
  other_once : (f : Flaw) → is f Long ≡ false → t.so f ≡ u.so f
  other_once f h = yes_once (t.so f) (u.so f) (HasFlaw f depth_limit x.1) (t.others f (not_long f h)) (u.others f (not_long f h))

  pub told_once : (f : Flaw) → t.so f ≡ u.so f
  told_once Twin = other_once Twin refl
  told_once Blank = other_once Blank refl
  told_once Long = no_once (t.so Long) (u.so Long) (Spells minimal_form depth_limit Top x w) t.minimal u.minimal
  told_once Low = other_once Low refl
  told_once Wide = other_once Wide refl
  told_once NotUtf8 = other_once NotUtf8 refl
  told_once NotUniform = other_once NotUniform refl

sum_same : (modes : ℕ) (a b : Flaw → Bool) → ((f : Flaw) → a f ≡ b f) → (fs : List Flaw) → sum_where modes a fs ≡ sum_where modes b fs
sum_same modes a b h [] = refl
sum_same modes a b h (f ∷ fs) = rw (h f, sum_same modes a b h fs)

-- whatever it is said of is the mask
pub mask_only : (s : List ℕ) → Bytes s → (m : ℕ → ℕ) → MaskSaid s m → (modes : ℕ) → m modes ≡ mask modes s
mask_only s y m (inl i) modes = i.2 modes ∙ sym (halts_mask i.0 s modes i.1)
mask_only s y m (inr i) modes =
    let t = spelling_told i.0 i.1 i.2 (subst Bytes i.4 y) (subst (λ s. length s ≤ length_limit) i.4 i.3) i.5 in
    let e : mask modes s ≡ sum_where modes t.0.so flaws + padding_of modes i.2 = ap (mask modes) i.4 ∙ t.1 modes in
    i.7 modes ∙ (ap (λ n. n + padding_of modes i.2) (sum_same modes i.6.so t.0.so (told_once i.0 i.1 i.6 t.0) flaws) ∙ sym e)
