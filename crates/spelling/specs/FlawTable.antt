-- The table of the faults that do not stop (document 01, "The mask"), read of a field by itself (Flawed.antt, `Part`) in 01's words, as lists and not as
-- tests. That the tests of Flawed.antt come to this is proofs/FlawsExactly.antt. `long` is about bytes that a layout does not have.
use Rattle.std.specs.Prelude.{ℕ, ◌^◌, ◌≤◌, ◌≡◌, ◌↔◌, ◌⊎◌, Bool, true, false, List, [], ◌∷◌, ◌++◌, negsuc}
use Rattle.number.specs.BigEndian.{All}
use Rattle.text.specs.Utf8.{is_text}
use Rattle.float.specs.Rule.{holds}
use Rattle.format.specs.declared.Kind.{Kind}
use Rattle.format.specs.declared.Kind.TheVariants as K
use Rattle.format.specs.declared.Form.TheVariants.{Top}
use Rattle.format.specs.declared.Flaw.{Flaw}
use Rattle.format.specs.declared.Flaw.TheVariants.{Twin, Blank, Long, Low, Wide, NotUtf8, NotUniform}
use Rattle.format.specs.Tree.{Float, Node}
use Rattle.format.specs.Limits.{depth_limit}
use Rattle.format.specs.Reader.{Standing, Named, Layout}
use Rattle.places.specs.Values.{whole, real, float_bits}
use Rattle.spelling.specs.Flawed.{Part, parts, inside, names_of, texts_of, number_of}
use Rattle.spelling.specs.Spells.{minimal_form, Bare, Spells}

-- one of them; two of them, at two places, equal
abbrev pub In : {A : Type 0} → A → List A → Type 0
In {A} x xs = (a b : List A) × (xs ≡ a ++ (x ∷ b))

abbrev pub Twice : {A : Type 0} → List A → Type 0
Twice {A} xs = (x : A) × (a b c : List A) × (xs ≡ a ++ (x ∷ (b ++ (x ∷ c))))

-- one or more, all of one ID: the first's, j
abbrev pub OneId : Kind → List Kind → Type 0
OneId j ks = (js : List Kind) × (ks ≡ j ∷ js) × All (λ l. l ≡ j) js

-- `negsuc m` is minus (m plus 1)
abbrev pub FlawIn : Flaw → Kind → Node Kind → Type 0
FlawIn Twin k n = Twice (names_of n)
FlawIn Blank k n = In [] (names_of n)
FlawIn Long k n = ⊥
FlawIn Low k n = (m : ℕ) × (number_of n ≡ whole (negsuc m)) × (2 ^ 63 ≤ m)
FlawIn Wide k n = (k ≡ K.Float64) × (x : Float) × (number_of n ≡ real x) × (holds (float_bits x) ≡ true)
FlawIn NotUtf8 k n = (t : List ℕ) × In t (texts_of n) × (is_text t ≡ false)
FlawIn NotUniform k n = ((k ≡ K.Object) × (j : Kind) × OneId j (inside n)) ⊎ ((k ≡ K.Array) × (j : Kind) × (Bare j → ⊥) × OneId j (inside n))

-- some field of the layout has it
abbrev pub HasFlaw : Flaw → (d : ℕ) → Standing (Layout d) → Type 0
HasFlaw f d x = (p : Part) × In p (parts d x) × FlawIn f p.0 p.1

-- of a payload that begins with w, a spelling of x: for each flaw a yes or no. 64 has a no exactly if w is a spelling of x with minimal VarUInts; any other
-- has a yes exactly if the layout has it
pub record FlawsTold (x : Named (Standing (Layout depth_limit))) (w : List ℕ) : Type 0 where
  pub so : Flaw → Bool
  pub minimal : (so Long ≡ false) ↔ Spells minimal_form depth_limit Top x w
  pub others : (f : Flaw) → (f ≡ Long → ⊥) → (so f ≡ true) ↔ HasFlaw f depth_limit x.1
