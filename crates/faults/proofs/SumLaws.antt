-- The sum that the code keeps has the value of each flaw that was met and is asked for, once; and each flaw is told from the sum.
use Prim.Native.Nat.{ℕ, zero, suc, ◌+◌, ◌/◌, ◌%◌, ◌≤◌}
use native.Mathlib.Omega.{arith}
use mathlib.Core.Path.{◌≡◌, refl, sym, ap, ◌∙◌}
use mathlib.Core.Bool.{Bool, true, false, not, ◌&&◌, ◌||◌, cond}
use mathlib.Core.List.{List, [], ◌∷◌, map}
use lib.ListN.{length}
use lib.Bits.{bit_or}
use lib.Dec.{eqb}
use borrow.Author.Tests.{eqb-true}
use Rattle.number.proofs.Clash.{clash}
use Rattle.format.specs.declared.Flaw.{Flaw}
use Rattle.format.specs.declared.Flaw.TheVariants.{Twin, Blank, Long, Low, Wide, NotUtf8, NotUniform}
use Rattle.format.specs.Kinds.{all}
use Rattle.format.specs.Mask.{flaw_value, mode_of, flaws, has}
use Rattle.faults.specs.declared.Modes.{Modes}
use Rattle.faults.specs.declared.Faults.{Faults}
use Rattle.faults.specs.Noted.{nothing, marked, asks, noted, is_noted}

both : (x y : Bool) → (x && y) ≡ true → (x ≡ true) × (y ≡ true)
both true y e = (refl, e)
both false y e = clash cc

-- ---- a test over the table of flaws, and over every choice of some of them, computed once

every_flaw : (q : Flaw → Bool) → all q flaws ≡ true → (f : Flaw) → q f ≡ true
every_flaw q e f =
    let twin = both (q Twin) _ e in
    let blank = both (q Blank) _ twin.1 in
    let long = both (q Long) _ blank.1 in
    let low = both (q Low) _ long.1 in
    let wide = both (q Wide) _ low.1 in
    let text = both (q NotUtf8) _ wide.1 in
    let uniform = both (q NotUniform) _ text.1 in
    at twin.0 blank.0 long.0 low.0 wide.0 text.0 uniform.0 f
  where
    at : q Twin ≡ true → q Blank ≡ true → q Long ≡ true → q Low ≡ true → q Wide ≡ true → q NotUtf8 ≡ true → q NotUniform ≡ true → (f : Flaw) → q f ≡ true
    at a b c d e g h Twin = a
    at a b c d e g h Blank = b
    at a b c d e g h Long = c
    at a b c d e g h Low = d
    at a b c d e g h Wide = e
    at a b c d e g h NotUtf8 = g
    at a b c d e g h NotUniform = h

unfoldable every : ℕ → (List Bool → Bool) → Bool
every zero p = p []
every (suc n) p = every n (λ bs. p (true ∷ bs)) && every n (λ bs. p (false ∷ bs))

every_at : (n : ℕ) (p : List Bool → Bool) → every n p ≡ true → (bs : List Bool) → length bs ≡ n → p bs ≡ true
unfolding every
every_at zero p e [] l = e
every_at zero p e (b ∷ bs) l = absurd (omega arith)
every_at (suc n) p e [] l = absurd (omega arith)
every_at (suc n) p e (true ∷ bs) l =
    every_at n (λ bs. p (true ∷ bs)) (both (every n (λ bs. p (true ∷ bs))) (every n (λ bs. p (false ∷ bs))) e).0 bs (omega arith)
every_at (suc n) p e (false ∷ bs) l =
    every_at n (λ bs. p (false ∷ bs)) (both (every n (λ bs. p (true ∷ bs))) (every n (λ bs. p (false ∷ bs))) e).1 bs (omega arith)

-- ---- some flaws, as a choice for each of the table

values : List ℕ
values = map flaw_value flaws

abbrev sum_bits : List ℕ → List Bool → ℕ
sum_bits [] bs = 0
sum_bits (v ∷ vs) [] = 0
sum_bits (v ∷ vs) (b ∷ bs) = cond b v 0 + sum_bits vs bs

-- the flaw with the value w beside them
abbrev with_bit : List ℕ → ℕ → List Bool → List Bool
with_bit [] w bs = []
with_bit (v ∷ vs) w [] = []
with_bit (v ∷ vs) w (b ∷ bs) = (eqb v w || b) ∷ with_bit vs w bs

-- whether the flaw with the value w is one of them
abbrev bit_at : List ℕ → ℕ → List Bool → Bool
bit_at [] w bs = false
bit_at (v ∷ vs) w [] = false
bit_at (v ∷ vs) w (b ∷ bs) = cond (eqb v w) b (bit_at vs w bs)

abbrev alike : Bool → Bool → Bool
alike true y = y
alike false y = not y

alike_true : (x y : Bool) → alike x y ≡ true → x ≡ y
alike_true true y e = sym e
alike_true false true e = e
alike_true false false e = refl

-- ---- the sum of some flaws

abbrev pub sum_by : (Flaw → Bool) → List Flaw → ℕ
sum_by p [] = 0
sum_by p (f ∷ fs) = cond (p f) (flaw_value f) 0 + sum_by p fs

sum_same : (p q : Flaw → Bool) → ((f : Flaw) → p f ≡ q f) → (fs : List Flaw) → sum_by p fs ≡ sum_by q fs
sum_same p q e [] = refl
sum_same p q e (f ∷ fs) = rw (e f, sum_same p q e fs)

sum_bits_law : (p : Flaw → Bool) (fs : List Flaw) → sum_bits (map flaw_value fs) (map p fs) ≡ sum_by p fs
sum_bits_law p [] = refl
sum_bits_law p (f ∷ fs) = rw (sum_bits_law p fs)

with_bit_law : (p : Flaw → Bool) (w : ℕ) (fs : List Flaw) → with_bit (map flaw_value fs) w (map p fs) ≡ map (λ f. eqb (flaw_value f) w || p f) fs
with_bit_law p w [] = refl
with_bit_law p w (f ∷ fs) = rw (with_bit_law p w fs)

-- a test of every choice of flaws, for each flaw of the table
module _ (test : ℕ → List Bool → Bool) (e : all (λ h. every 7 (test (flaw_value h))) flaws ≡ true) where
  tested : (p : Flaw → Bool) (h : Flaw) → test (flaw_value h) (map p flaws) ≡ true
  tested p h = every_at 7 (test (flaw_value h)) (every_flaw (λ h. every 7 (test (flaw_value h))) e h) (map p flaws) refl

-- one flaw more
sum_or : (p : Flaw → Bool) (h : Flaw) → bit_or (sum_by p flaws) (flaw_value h) ≡ sum_by (λ f. eqb (flaw_value f) (flaw_value h) || p f) flaws
unfolding every values
sum_or p h =
    ap (λ x. bit_or x (flaw_value h)) (sym (sum_bits_law p flaws))
    ∙ eqb-true _ _ (tested (λ w bs. eqb (bit_or (sum_bits values bs) w) (sum_bits values (with_bit values w bs))) refl p h)
    ∙ ap (sum_bits values) (with_bit_law p (flaw_value h) flaws)
    ∙ sum_bits_law (λ f. eqb (flaw_value f) (flaw_value h) || p f) flaws

-- a flaw is told from the sum
sum_told : (p : Flaw → Bool) (h : Flaw) → eqb (sum_by p flaws / flaw_value h % 2) 1 ≡ p h
unfolding every values
sum_told p h =
    ap (λ x. eqb (x / flaw_value h % 2) 1) (sym (sum_bits_law p flaws))
    ∙ alike_true _ _ (tested (λ w bs. alike (eqb (sum_bits values bs / w % 2) 1) (bit_at values w bs)) refl p h)
    ∙ own h
  where
    own : (h : Flaw) → bit_at (map flaw_value flaws) (flaw_value h) (map p flaws) ≡ p h
    own Twin = refl
    own Blank = refl
    own Long = refl
    own Low = refl
    own Wide = refl
    own NotUtf8 = refl
    own NotUniform = refl

-- ---- what is asked goes by the value

asks_same : (m : Modes) (f h : Flaw) → eqb (flaw_value f) (flaw_value h) ≡ true → asks m f ≡ asks m h
asks_same m f h e = ap (λ b. cond (eqb b 1) m.names m.format) (eqb-true (mode_of f) (mode_of h)
    (at (eqb (flaw_value f) (flaw_value h)) (eqb (mode_of f) (mode_of h)) e (every_flaw (alone f) (every_flaw (λ f. all (alone f) flaws) refl f) h)))
  where
    alone : Flaw → Flaw → Bool
    alone f h = not (eqb (flaw_value f) (flaw_value h)) || eqb (mode_of f) (mode_of h)

    at : (x y : Bool) → x ≡ true → (not x || y) ≡ true → y ≡ true
    at true y e i = i
    at false y e i = clash cc

-- a flaw met before others is one of those met
met_first : (m : Modes) (p : Flaw → Bool) (h : Flaw) (fs : List Flaw) (f : Flaw) (b : Bool) → asks m h ≡ b
    → ((asks m f && has f fs) || cond b (eqb (flaw_value f) (flaw_value h) || p f) (p f)) ≡ ((asks m f && has f (h ∷ fs)) || p f)
met_first m p h fs f b i = at (eqb (flaw_value f) (flaw_value h)) refl
  where
    swap : (x y z : Bool) → ((x && y) || cond x true z) ≡ ((x && true) || z)
    swap true true z = refl
    swap true false z = refl
    swap false y z = refl

    keep : (x y z : Bool) → (x || cond y z z) ≡ (x || z)
    keep x true z = refl
    keep x false z = refl

    at : (e : Bool) → eqb (flaw_value f) (flaw_value h) ≡ e → ((asks m f && has f fs) || cond b (e || p f) (p f)) ≡ ((asks m f && (e || has f fs)) || p f)
    at true e = rw (asks_same m f h e ∙ i) (swap b (has f fs) (p f))
    at false e = keep (asks m f && has f fs) b (p f)

-- ---- the flaws noted

sum_marked : (g : Faults) (p : Flaw → Bool) (h : Flaw) (b : Bool) → g.sum ≡ sum_by p flaws
    → (marked g b (flaw_value h)).sum ≡ sum_by (λ f. cond b (eqb (flaw_value f) (flaw_value h) || p f) (p f)) flaws
sum_marked g p h true e = ap (λ x. bit_or x (flaw_value h)) e ∙ sum_or p h
sum_marked g p h false e = e

noted_from : (m : Modes) (g : Faults) (p : Flaw → Bool) (fs : List Flaw) → g.sum ≡ sum_by p flaws
    → (noted m g fs).sum ≡ sum_by (λ f. (asks m f && has f fs) || p f) flaws
unfolding noted
noted_from m g p [] e = e ∙ sum_same p (λ f. (asks m f && false) || p f) (λ f. at (asks m f) (p f)) flaws
  where
    at : (x y : Bool) → y ≡ ((x && false) || y)
    at true y = refl
    at false y = refl
noted_from m g p (h ∷ fs) e =
    noted_from m (marked g (asks m h) (flaw_value h)) (λ f. cond (asks m h) (eqb (flaw_value f) (flaw_value h) || p f) (p f)) fs (sum_marked g p h (asks m h) e)
    ∙ sum_same (λ f. (asks m f && has f fs) || cond (asks m h) (eqb (flaw_value f) (flaw_value h) || p f) (p f)) (λ f. (asks m f && has f (h ∷ fs)) || p f)
    (λ f. met_first m p h fs f (asks m h) refl) flaws

-- each flaw that was met and is asked for, once
pub noted_sum : (m : Modes) (fs : List Flaw) → (noted m nothing fs).sum ≡ sum_by (λ f. asks m f && has f fs) flaws
noted_sum m fs = noted_from m nothing (λ f. false) fs refl
    ∙ sum_same (λ f. (asks m f && has f fs) || false) (λ f. asks m f && has f fs) (λ f. at (asks m f && has f fs)) flaws
  where
    at : (x : Bool) → (x || false) ≡ x
    at true = refl
    at false = refl

pub noted_told : (m : Modes) (fs : List Flaw) (f : Flaw) → is_noted f (noted m nothing fs) ≡ (asks m f && has f fs)
noted_told m fs f = ap (λ x. eqb (x / flaw_value f % 2) 1) (noted_sum m fs) ∙ sum_told (λ f. asks m f && has f fs) f

pub sum_fits : (p : Flaw → Bool) → sum_by p flaws ≤ 2032
sum_fits p = omega (arith, at (p Twin) 16, at (p Blank) 32, at (p Long) 64, at (p Low) 128, at (p Wide) 256, at (p NotUtf8) 512, at (p NotUniform) 1024)
  where
    at : (b : Bool) (v : ℕ) → cond b v 0 ≤ v
    at true v = omega arith
    at false v = omega arith
