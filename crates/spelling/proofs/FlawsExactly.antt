-- The tests of specs/Flawed.antt come to what document 01's table says (specs/FlawTable.antt), flaw by flaw; and so a flaw is met exactly if some field of
-- the layout has it.
use Prim.Native.Nat.{ℕ, ◌^◌, ◌≤◌}
use mathlib.Core.Path.{◌≡◌, refl, sym, ap, subst, ◌∙◌}
use mathlib.Core.Logic.{◌↔◌, ◌⊎◌, inl, inr}
use mathlib.Core.Bool.{Bool, true, false, not, ◌&&◌, ◌||◌, or-true}
use mathlib.Core.List.{List, [], ◌∷◌, ◌++◌}
use lib.Dec.{ltb}
use lib.IntN.{pos, negsuc}
use borrow.Author.Tests.{ltb-false, le-ltb, not-true}
use Rattle.number.proofs.Clash.{clash}
use Rattle.number.specs.BigEndian.{All}
use Rattle.text.specs.Utf8.{is_text}
use Rattle.text.specs.Equal.{equal}
use Rattle.text.proofs.Laws.{equal_refl, equal_is}
use Rattle.float.specs.Rule.{holds}
use Rattle.format.specs.declared.Kind.{Kind}
use Rattle.format.specs.declared.Kind.TheVariants.{Object, Array, Float64}
use Rattle.format.specs.Kinds.{same, all, any, is_bare, is_uniform, is_uniform_array}
use Rattle.format.specs.declared.Flaw.{Flaw}
use Rattle.format.specs.declared.Flaw.TheVariants.{Twin, Blank, Long, Low, Wide, NotUtf8, NotUniform}
use Rattle.format.specs.Names.{is_empty, twins}
use Rattle.format.specs.Limits.{depth_limit}
use Rattle.format.specs.Tree.{Float, Node}
use Rattle.format.specs.Reader.{Standing, Layout}
use Rattle.places.specs.Values.{Sort, whole, real, time, other, float_bits}
use Rattle.format.specs.Mask.{has}
use Rattle.places.specs.Show.{ShownPayload}
use Rattle.spelling.specs.Flawed.{Part, parts, inside, names_of, texts_of, number_of, is_low, is_held, flawed_part, flawed}
use Rattle.spelling.specs.Spells.{Bare}
use Rattle.spelling.specs.FlawTable.{In, Twice, OneId, FlawIn, HasFlaw}
use Rattle.format.proofs.Lists.{map_same, and_true}
use Rattle.format.proofs.KindLaws.{same_eq, all_same, same_all}
use Rattle.spelling.proofs.BareKinds.{not_bare_exactly}
use Rattle.spelling.proofs.AnyLaws.{any_in, in_any}
use Rattle.spelling.proofs.Tells.{is}
use Rattle.spelling.proofs.FlawsMet.{met_is_flawed}

-- a test that fails
fails : {X : Type 0} → false ≡ true → X
fails h = clash cc

either : (a b : Bool) → (a || b) ≡ true → (a ≡ true) ⊎ (b ≡ true)
either true b h = inl refl
either false b h = inr h

-- ---- names

twins_to : (ns : List (List ℕ)) → twins ns ≡ true → Twice ns
unfolding twins
twins_to [] h = fails h
twins_to (n ∷ ns) h = go (any (equal n) ns) refl (twins_to ns) h
  where
    go : (x : Bool) → any (equal n) ns ≡ x → (twins ns ≡ true → Twice ns) → (x || twins ns) ≡ true → Twice (n ∷ ns)
    go true e ih h =
        let i = any_in (equal n) ns e in
        (n, [], i.1.0, i.1.1, ap (λ l. n ∷ l) (i.1.2 ∙ ap (λ m. i.1.0 ++ (m ∷ i.1.1)) (sym (equal_is n i.0 i.2))))
    go false e ih h = let i = ih h in (i.0, n ∷ i.1, i.2, i.3, ap (λ l. n ∷ l) i.4)

twins_from : (n : List ℕ) (a b c : List (List ℕ)) → twins (a ++ (n ∷ (b ++ (n ∷ c)))) ≡ true
unfolding twins
twins_from n [] b c = rw (in_any (equal n) (b ++ (n ∷ c)) n (b, c, refl) (equal_refl n))
twins_from n (m ∷ a) b c = rw (twins_from n a b c) (or-true (any (equal m) (a ++ (n ∷ (b ++ (n ∷ c))))))

pub twins_exactly : (ns : List (List ℕ)) → (twins ns ≡ true) ↔ Twice ns
twins_exactly ns = (twins_to ns, λ i. ap twins i.4 ∙ twins_from i.0 i.1 i.2 i.3)

empty_is : (t : List ℕ) → is_empty t ≡ true → t ≡ []
unfolding is_empty
empty_is [] h = refl
empty_is (b ∷ t) h = fails h

blank_exactly : (ns : List (List ℕ)) → (any is_empty ns ≡ true) ↔ In [] ns
unfolding is_empty
blank_exactly ns = ((λ h. let i = any_in is_empty ns h in subst (λ t. In t ns) (empty_is i.0 i.2) i.1), λ i. in_any is_empty ns [] i refl)

-- ---- numbers

low_to : (x : Sort) → is_low x ≡ true → (m : ℕ) × (x ≡ whole (negsuc m)) × (2 ^ 63 ≤ m)
low_to (whole (pos n)) h = fails h
low_to (whole (negsuc m)) h = (m, refl, ltb-false m (2 ^ 63) (not-true (ltb m (2 ^ 63)) h))
low_to (real x) h = fails h
low_to (time z) h = fails h
low_to other h = fails h

low_exactly : (x : Sort) → (is_low x ≡ true) ↔ ((m : ℕ) × (x ≡ whole (negsuc m)) × (2 ^ 63 ≤ m))
low_exactly x = (low_to x, λ i. rw (i.1, le-ltb i.0 (2 ^ 63) i.2))

held_to : (x : Sort) → is_held x ≡ true → (y : Float) × (x ≡ real y) × (holds (float_bits y) ≡ true)
held_to (whole z) h = fails h
held_to (real y) h = (y, refl, h)
held_to (time z) h = fails h
held_to other h = fails h

wide_exactly : (k : Kind) (x : Sort) → ((same k Float64 && is_held x) ≡ true) ↔ ((k ≡ Float64) × (y : Float) × (x ≡ real y) × (holds (float_bits y) ≡ true))
wide_exactly k x = (
  (λ h. let i = and_true (same k Float64) (is_held x) h in let j = held_to x i.1 in (same_eq k Float64 i.0, j.0, j.1, j.2)),
  λ i. rw (i.0, i.2, i.3),
)

-- ---- texts

text_exactly : (ts : List (List ℕ)) → (any (λ t. not (is_text t)) ts ≡ true) ↔ ((t : List ℕ) × In t ts × (is_text t ≡ false))
text_exactly ts = (
  (λ h. let i = any_in (λ t. not (is_text t)) ts h in (i.0, i.1, not-true (is_text i.0) i.2)),
  λ i. in_any (λ t. not (is_text t)) ts i.0 i.1
      (rw i.2),
)

-- ---- IDs

all_to : (k : Kind) (ks : List Kind) → all (same k) ks ≡ true → All (λ l. l ≡ k) ks
all_to k ks h = all_same (λ l. l) k ks (subst (λ l. all (same k) l ≡ true) (sym (map_same (λ l. l) (λ l. refl) ks)) h)

all_from : (k : Kind) (ks : List Kind) → All (λ l. l ≡ k) ks → all (same k) ks ≡ true
all_from k ks h = subst (λ l. all (same k) l ≡ true) (map_same (λ l. l) (λ l. refl) ks) (same_all (λ l. l) k ks h)

pub uniform_exactly : (ks : List Kind) → (is_uniform ks ≡ true) ↔ ((j : Kind) × OneId j ks)
unfolding is_uniform
uniform_exactly ks = (to ks, λ i. rw i.1.1 (all_from i.0 i.1.0 i.1.2))
  where
    to : (ks : List Kind) → is_uniform ks ≡ true → (j : Kind) × OneId j ks
    to [] h = fails h
    to (k ∷ ks) h = (k, (ks, refl, all_to k ks h))

pub uniform_array_exactly : (ks : List Kind) → (is_uniform_array ks ≡ true) ↔ ((j : Kind) × (Bare j → ⊥) × OneId j ks)
unfolding is_uniform_array
uniform_array_exactly ks = (to ks, λ i. rw (i.2.1, (not_bare_exactly i.0).1 i.1) (all_from i.0 i.2.0 i.2.2))
  where
    to : (ks : List Kind) → is_uniform_array ks ≡ true → (j : Kind) × (Bare j → ⊥) × OneId j ks
    to [] h = fails h
    to (k ∷ ks) h =
        let i = and_true (not (is_bare k)) (all (same k) ks) h in
        (k, (not_bare_exactly k).0 (not-true (is_bare k) i.0), (ks, refl, all_to k ks i.1))

not_uniform_exactly : (k : Kind) (ks : List Kind)
    → (((same k Object && is_uniform ks) || (same k Array && is_uniform_array ks)) ≡ true) ↔ (((k ≡ Object) × (j : Kind) × OneId j ks)
    ⊎ ((k ≡ Array) × (j : Kind) × (Bare j → ⊥) × OneId j ks))
not_uniform_exactly k ks = ((λ h. to (either (same k Object && is_uniform ks) (same k Array && is_uniform_array ks) h)), from)
  where
    to : ((same k Object && is_uniform ks) ≡ true) ⊎ ((same k Array && is_uniform_array ks) ≡ true)
        → ((k ≡ Object) × (j : Kind) × OneId j ks) ⊎ ((k ≡ Array) × (j : Kind) × (Bare j → ⊥) × OneId j ks)
    to (inl h) = let i = and_true (same k Object) (is_uniform ks) h in let u = (uniform_exactly ks).0 i.1 in inl (same_eq k Object i.0, u.0, u.1)
    to (inr h) =
        let i = and_true (same k Array) (is_uniform_array ks) h in let u = (uniform_array_exactly ks).0 i.1 in inr (same_eq k Array i.0, u.0, u.1, u.2)

    from : ((k ≡ Object) × (j : Kind) × OneId j ks) ⊎ ((k ≡ Array) × (j : Kind) × (Bare j → ⊥) × OneId j ks)
        → ((same k Object && is_uniform ks) || (same k Array && is_uniform_array ks)) ≡ true
    from (inl i) = rw (i.0, (uniform_exactly ks).1 (i.1, i.2))
    from (inr i) = rw (i.0, (uniform_array_exactly ks).1 (i.1, i.2, i.3))

-- ---- the table

pub part_exactly : (f : Flaw) (k : Kind) (n : Node Kind) → (flawed_part f k n ≡ true) ↔ FlawIn f k n
part_exactly Twin k n = twins_exactly (names_of n)
part_exactly Blank k n = blank_exactly (names_of n)
part_exactly Long k n = ((λ h. fails h), λ i. absurd i)
part_exactly Low k n = low_exactly (number_of n)
part_exactly Wide k n = wide_exactly k (number_of n)
part_exactly NotUtf8 k n = text_exactly (texts_of n)
part_exactly NotUniform k n = not_uniform_exactly k (inside n)

-- the layout's tests
pub flawed_exactly : (f : Flaw) (d : ℕ) (x : Standing (Layout d)) → (flawed f d x ≡ true) ↔ HasFlaw f d x
flawed_exactly f d x =
    let t : Part → Bool = λ p. flawed_part f p.0 p.1 in (
      (λ h. let i = any_in t (parts d x) h in (i.0, i.1, (part_exactly f i.0.0 i.0.1).0 i.2)),
      λ i. in_any t (parts d x) i.0 i.1
          ((part_exactly f i.0.0 i.0.1).1 i.2),
    )

not_long : (f : Flaw) → (f ≡ Long → ⊥) → is f Long ≡ false
not_long Twin h = refl
not_long Blank h = refl
not_long Long h = absurd (h refl)
not_long Low h = refl
not_long Wide h = refl
not_long NotUtf8 h = refl
not_long NotUniform h = refl

-- a flaw other than `long` was met exactly if some field of the layout has it
pub met_exactly : (s : List ℕ) (i : ShownPayload s) (f : Flaw) → (f ≡ Long → ⊥) → (has f i.flaws ≡ true) ↔ HasFlaw f depth_limit (i.kind, i.layout)
met_exactly s i f h =
    let e = met_is_flawed f (not_long f h) depth_limit s _ _ _ i.was_read in
    let j = flawed_exactly f depth_limit (i.kind, i.layout) in
    ((λ m. j.0 (sym e ∙ m)), λ x. e ∙ j.1 x)
