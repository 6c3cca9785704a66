-- One field's tests (specs/Flawed.antt) of a leaf, an array and an object, by which flaw it is.
use Prim.Native.Nat.{ℕ, ◌^◌}
use mathlib.Core.Path.{◌≡◌, refl, sym, ap}
use mathlib.Core.Bool.{Bool, true, false, not, ◌&&◌, ◌||◌, cond, and-false, or-false}
use mathlib.Core.List.{List, [], ◌∷◌, map}
use lib.Dec.{ltb}
use lib.IntN.{negsuc}
use Rattle.text.specs.Utf8.{is_text}
use Rattle.float.specs.Rule.{holds}
use Rattle.float.specs.Width.{is_nan64}
use Rattle.format.specs.declared.Kind.{Kind}
use Rattle.format.specs.declared.Kind.TheVariants.{Object, Array, IntegerNegative, Float64}
use Rattle.format.specs.Kinds.{same, any, is_uniform, is_uniform_array}
use Rattle.format.specs.declared.Flaw.{Flaw}
use Rattle.format.specs.declared.Flaw.TheVariants.{Twin, Blank, Long, Low, Wide, NotUtf8, NotUniform}
use Rattle.format.specs.Names.{is_empty, twins}
use Rattle.format.specs.Tree.{Leaf, integer, float, atom, array, object}
use Rattle.format.specs.Payload.{float64}
use Rattle.format.specs.Reader.{Named, names_in}
use Rattle.places.specs.Values.{float_bits, sort_of}
use Rattle.spelling.specs.Flawed.{leaf_texts, is_low, is_held, flawed_part}
use Rattle.spelling.proofs.AnyLaws.{any_map, any_none}
use Rattle.spelling.proofs.Tells.{is}

-- one field's tests, by which flaw it is
pub leaf_none : (f : Flaw) (k : Kind) (v : Leaf) → leaf_texts v ≡ [] → is_low (sort_of v) ≡ false → (same k Float64 && is_held (sort_of v)) ≡ false
    → flawed_part f k (atom v) ≡ false
unfolding is_uniform is_uniform_array twins
leaf_none Twin k v i j l = refl
leaf_none Blank k v i j l = refl
leaf_none Long k v i j l = refl
leaf_none Low k v i j l = j
leaf_none Wide k v i j l = l
leaf_none NotUtf8 k v i j l = rw i
leaf_none NotUniform k v i j l = rw (and-false (same k Object), and-false (same k Array))

pub leaf_text : (f : Flaw) (k : Kind) (v : Leaf) (t : List ℕ) → leaf_texts v ≡ t ∷ [] → is_low (sort_of v) ≡ false → (same k Float64 && is_held (sort_of v)) ≡ false
    → flawed_part f k (atom v) ≡ (is f NotUtf8 && not (is_text t))
unfolding is_uniform is_uniform_array twins
leaf_text Twin k v t i j l = refl
leaf_text Blank k v t i j l = refl
leaf_text Long k v t i j l = refl
leaf_text Low k v t i j l = j
leaf_text Wide k v t i j l = l
leaf_text NotUtf8 k v t i j l = rw i (or-false (not (is_text t)))
leaf_text NotUniform k v t i j l = rw (and-false (same k Object), and-false (same k Array))

pub leaf_low : (f : Flaw) (m : ℕ) → flawed_part f IntegerNegative (atom (integer (negsuc m))) ≡ (is f Low && not (ltb m (2 ^ 63)))
unfolding is_uniform is_uniform_array twins
leaf_low Twin m = refl
leaf_low Blank m = refl
leaf_low Long m = refl
leaf_low Low m = refl
leaf_low Wide m = refl
leaf_low NotUtf8 m = refl
leaf_low NotUniform m = refl

bits_back : (b : ℕ) → float_bits (float64 b) ≡ b
bits_back b = go (is_nan64 b)
  where
    go : (x : Bool) → float_bits (cond x (Rattle.format.specs.Tree.nan64 b) (Rattle.format.specs.Tree.number b)) ≡ b
    go true = refl
    go false = refl

pub leaf_wide : (f : Flaw) (b : ℕ) → flawed_part f Float64 (atom (float (float64 b))) ≡ (is f Wide && holds b)
unfolding is_uniform is_uniform_array twins
leaf_wide Twin b = refl
leaf_wide Blank b = refl
leaf_wide Long b = refl
leaf_wide Low b = refl
leaf_wide Wide b = ap holds (bits_back b)
leaf_wide NotUtf8 b = refl
leaf_wide NotUniform b = refl

pub array_is : (f : Flaw) (k : Kind) (ks : List Kind) → same k Object ≡ false
    → flawed_part f k (array ks) ≡ (is f NotUniform && (same k Array && is_uniform_array ks))
unfolding twins
array_is Twin k ks h = refl
array_is Blank k ks h = refl
array_is Long k ks h = refl
array_is Low k ks h = refl
array_is Wide k ks h = and-false (same k Float64)
array_is NotUtf8 k ks h = refl
array_is NotUniform k ks h = rw h

-- a name's tests
abbrev pub name_flawed : Flaw → List ℕ → Bool
name_flawed f n = (is f NotUtf8 && not (is_text n)) || (is f Blank && is_empty n)

pub object_is : (f : Flaw) (k : Kind) (xs : List (Named Kind)) → same k Array ≡ false
    → flawed_part f k (object xs) ≡ (any (λ x. name_flawed f x.0) xs || (is f NotUniform && (same k Object && is_uniform (map (λ x. x.1) xs))) ||
    (is f Twin && twins (names_in xs)))
object_is Twin k xs h = rw (any_none (λ (x : Named Kind). false) (λ x. refl) xs)
object_is Blank k xs h =
    rw (or-false (any (λ (x : Named Kind). is_empty x.0) xs), or-false (any (λ (x : Named Kind). is_empty x.0) xs))
    (sym (any_map (λ x. is_empty x.0) is_empty (λ x. x.0) (λ x. refl) xs))
object_is Long k xs h = rw (any_none (λ (x : Named Kind). false) (λ x. refl) xs)
object_is Low k xs h = rw (any_none (λ (x : Named Kind). false) (λ x. refl) xs)
object_is Wide k xs h = rw (any_none (λ (x : Named Kind). false) (λ x. refl) xs, and-false (same k Float64))
object_is NotUtf8 k xs h =
    let e : any (λ (x : Named Kind). name_flawed NotUtf8 x.0) xs ≡ any (λ t. not (is_text t)) (names_in xs) = any_map (λ x. name_flawed NotUtf8 x.0)
    (λ t. not (is_text t)) (λ x. x.0) (λ x. or-false (not (is_text x.0))) xs in
    rw (e, or-false (any (λ t. not (is_text t)) (names_in xs)), or-false (any (λ t. not (is_text t)) (names_in xs)))
object_is NotUniform k xs h = rw (any_none (λ (x : Named Kind). false) (λ x. refl) xs, h)
