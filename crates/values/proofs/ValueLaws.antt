-- Values: what the code knows at each return, by the ID, by how the place opened, and by the value that it holds.
use Rattle.std.specs.Prelude.{Option, None, Some, Result, Err, Ok}
use Prim.Native.Nat.{ℕ, ◌≤◌}
use mathlib.Core.Path.{◌≡◌, refl, sym, ap, ◌∙◌}
use mathlib.Core.Logic.{◌⊎◌, inl, inr}
use mathlib.Core.Bool.{Bool, true, false}
use mathlib.Core.List.{List}
use lib.ListN.{length}
use lib.Seq.{slice}
use lib.IntN.{ℤ, pos, negsuc}
use borrow.Author.Tests.{ne_eqb}
use Rattle.number.specs.VarUInt.{var_uint}
use Rattle.number.specs.Fixed.{fixed32, fixed64}
use Rattle.number.specs.Signed.{from_twos}
use Rattle.number.specs.declared.VarUInt.{VarUInt}
use Rattle.number.specs.declared.Cut.{Cut}
use Rattle.float.specs.Width.{widen}
use Rattle.format.specs.declared.Stop.{Stop}
use Rattle.places.specs.declared.Place.{Place}
use Rattle.format.specs.Parse.{Out, fault, got}
use Rattle.format.specs.Tree.{Float}
use Rattle.format.specs.Tree as trees
use Rattle.format.specs.Payload.{Head, value, fields_in, items_in}
use Rattle.places.specs.Places.{check}
use Rattle.places.specs.Values.{Sort, real, other, sort_of, answer_by, float_bits, double_of, double, signed_of, signed, unsigned_of, unsigned, ticks_of, ticks}
use Rattle.places.specs.Values as sorts
use Rattle.places.specs.declared.PlaceError.TheVariants as P
use Rattle.places.specs.declared.ValueError.{ValueError}
use Rattle.places.specs.declared.ValueError.TheVariants as V
use Rattle.front.specs.Between.{between}
use Rattle.open.specs.Opening.{opened_by}
use Rattle.open.specs.declared.Opened.TheVariants as O
use Rattle.open.specs.declared.Opened.{Opened}
use Rattle.values.specs.Code.{value_by, value_of, integer_of, integer_by, integer_in, float32_in, float64_in, time_in, value_in}
use Rattle.values.specs.declared.Value.TheVariants as Va
use Rattle.values.specs.declared.Value.{Value}
use Rattle.places.proofs.PassedPlaces.{check_passed}
use Rattle.open.proofs.OpenLaws.{slice_is, stands_leaf}
use Rattle.values.proofs.LeafLaws.{leaf_value}
use Rattle.std.specs.Result.{result_ok}

-- ---- by the ID

-- by the number that was read, if it was
abbrev integer_ok : Bool → Option VarUInt → Option Value
integer_ok t None = None
integer_ok t (Some v) = integer_by t v.value

integer_is : (t : Bool) (x : Result VarUInt Cut) → integer_ok t (result_ok x) ≡ integer_in t x
integer_is t (Ok v) = refl
integer_is t (Err c) = refl

module _ (n : ℕ) (s : List ℕ) where
  module _ (x : Result VarUInt Cut) (i : x ≡ var_uint s) (y : Option VarUInt) (j : y ≡ result_ok x) where
    integer : (t : Bool) (z : Option VarUInt) → y ≡ z → integer_ok t z ≡ integer_in t (var_uint s)
    integer t z k = ap (integer_ok t) (sym k ∙ j ∙ ap result_ok i) ∙ integer_is t (var_uint s)

    pub positive_none : n ≡ 0x08 → y ≡ None → None ≡ value_in n s
    positive_none e k = rw e (integer false None k)

    pub positive_some : n ≡ 0x08 → (v : VarUInt) → y ≡ Some v → Some (Va.Positive v.value) ≡ value_in n s
    positive_some e v k = rw e (integer false (Some v) k)

    pub negative_none : n ≡ 0x09 → y ≡ None → None ≡ value_in n s
    negative_none e k = rw e (integer true None k)

    pub negative_some : n ≡ 0x09 → (v : VarUInt) → y ≡ Some v → Some (Va.Negative v.value) ≡ value_in n s
    negative_some e v k = rw e (integer true (Some v) k)

  module _ (y : Option ℕ) (i : y ≡ fixed32 s) (e : n ≡ 0x0a) where
    pub float32_none : y ≡ None → None ≡ value_in n s
    float32_none k = rw e (ap float32_in (sym k ∙ i))

    pub float32_some : (b : ℕ) → y ≡ Some b → (w : ℕ) → w ≡ widen b → Some (Va.Real w) ≡ value_in n s
    float32_some b k w h = rw (e, h) (ap float32_in (sym k ∙ i))

  module _ (y : Option ℕ) (i : y ≡ fixed64 s) where
    pub float64_none : n ≡ 0x0b → y ≡ None → None ≡ value_in n s
    float64_none e k = rw e (ap float64_in (sym k ∙ i))

    pub float64_some : n ≡ 0x0b → (b : ℕ) → y ≡ Some b → Some (Va.Real b) ≡ value_in n s
    float64_some e b k = rw e (ap float64_in (sym k ∙ i))

    time : (z : Option ℕ) → y ≡ z → (n ≡ 0x12) ⊎ (n ≡ 0x13) → time_in z ≡ value_in n s
    time z k (inl e) = rw e (ap time_in (sym k ∙ i))
    time z k (inr e) = rw e (ap time_in (sym k ∙ i))

    pub date_none : n ≡ 0x12 → y ≡ None → None ≡ value_in n s
    date_none e k = time None k (inl e)

    pub span_none : n ≡ 0x13 → y ≡ None → None ≡ value_in n s
    span_none e k = time None k (inr e)

    pub date_some : n ≡ 0x12 → (b : ℕ) → y ≡ Some b → (z : ℤ) → z ≡ from_twos b → Some (Va.Time z) ≡ value_in n s
    date_some e b k z h = rw h (time (Some b) k (inl e))

    pub span_some : n ≡ 0x13 → (b : ℕ) → y ≡ Some b → (z : ℤ) → z ≡ from_twos b → Some (Va.Time z) ≡ value_in n s
    span_some e b k z h = rw h (time (Some b) k (inr e))

  pub no_value : (n ≡ 0x08 → ⊥) → (n ≡ 0x09 → ⊥) → (n ≡ 0x0a → ⊥) → (n ≡ 0x0b → ⊥) → (n ≡ 0x12 → ⊥) → (n ≡ 0x13 → ⊥) → None ≡ value_in n s
  no_value a b c d e f = rw (ne_eqb n 0x08 a, ne_eqb n 0x09 b, ne_eqb n 0x0a c, ne_eqb n 0x0b d, ne_eqb n 0x12 e, ne_eqb n 0x13 f)

pub ruleset leaf_laws = (
  positive_none,
  positive_some,
  negative_none,
  negative_some,
  float32_none,
  float32_some,
  float64_none,
  float64_some,
  date_none,
  span_none,
  date_some,
  span_some,
  no_value,
)

-- ---- at a place

-- by how it opened
abbrev valued : List ℕ → Place → Result Opened Stop → Result (Option Value) Stop
valued s p (Err k) = Err k
valued s p (Ok O.Leaf) = Ok (value_in p.kind (between p.start p.end s))
valued s p (Ok (O.Fields f b)) = Ok None
valued s p (Ok (O.Items f b)) = Ok None

module _ (s : List ℕ) (p : Place) (x : Result Opened Stop) (i : x ≡ opened_by p.end (check s p)) where
  value_is : (y : Result Opened Stop) → x ≡ y → valued s p y ≡ value_of (check s p)
  value_is y z = ap (valued s p) (sym z ∙ i) ∙ at (check s p) refl
    where
      at : (o : Out Head) → check s p ≡ o → valued s p (opened_by p.end o) ≡ value_of o
      at (fault k) e = refl
      at (got (value v) fs r) e =
          let i = check_passed s p e in
          ap Ok (rw (← slice_is p.start p.end s, i.coded) (leaf_value i.kind (slice p.start p.end s) i.header))
      at (got (fields_in f b) fs r) e = refl
      at (got (items_in f n b) fs r) e = refl

  pub place_stop : (k : Stop) → x ≡ Err k → Err k ≡ value_of (check s p)
  place_stop k z = value_is (Err k) z

  module _ (o : Opened) (z : x ≡ Ok o) where
    pub place_leaf : o ≡ O.Leaf → (v : Option Value) → v ≡ value_in p.kind (between p.start p.end s) → Ok v ≡ value_of (check s p)
    place_leaf e v h = ap Ok h ∙ value_is (Ok O.Leaf) (z ∙ ap Ok e)

    pub leaf_order : o ≡ O.Leaf → p.start ≤ p.end
    leaf_order e = (stands_leaf s p x i (z ∙ ap Ok e)).order

    pub leaf_inside : o ≡ O.Leaf → p.end ≤ length s
    leaf_inside e = (stands_leaf s p x i (z ∙ ap Ok e)).inside

    pub place_container : (o ≡ O.Leaf → ⊥) → Ok None ≡ value_of (check s p)
    place_container e = at o refl
      where
        at : (q : Opened) → o ≡ q → Ok None ≡ value_of (check s p)
        at O.Leaf w = absurd (e w)
        at (O.Fields f b) w = value_is (Ok (O.Fields f b)) (z ∙ ap Ok w)
        at (O.Items f b) w = value_is (Ok (O.Items f b)) (z ∙ ap Ok w)

pub ruleset place_laws = (place_stop, place_leaf, leaf_order, leaf_inside, place_container)

-- ---- the calls, by the value

-- an answer that goes by the value
abbrev answering : {A : Type 0} → (Stop → A) → (Sort → A) → Result (Option Value) Stop → A
answering f g (Err k) = f k
answering f g (Ok (Some (Va.Positive m))) = g (sorts.whole (pos m))
answering f g (Ok (Some (Va.Negative m))) = g (sorts.whole (negsuc m))
answering f g (Ok (Some (Va.Real b))) = g (real (trees.number b))
answering f g (Ok (Some (Va.Time z))) = g (sorts.time z)
answering f g (Ok None) = g other

-- a float counts by its bits alone
abbrev ByBits : {A : Type 0} → (Sort → A) → Type 0
ByBits g = (x : Float) → g (real x) ≡ g (real (trees.number (float_bits x)))

answering_is : {A : Type 0} (f : Stop → A) (g : Sort → A) → ByBits g → (o : Out Head) → answering f g (value_of o) ≡ answer_by f g o
answering_is f g h (fault k) = refl
answering_is f g h (got (value v) fs r) = at (sort_of v)
  where
    at : (t : Sort) → answering f g (Ok (value_by t)) ≡ g t
    at (sorts.whole (pos m)) = refl
    at (sorts.whole (negsuc m)) = refl
    at (real x) = sym (h x)
    at (sorts.time z) = refl
    at other = refl
answering_is f g h (got (fields_in o b) fs r) = refl
answering_is f g h (got (items_in o n b) fs r) = refl

module _ (s : List ℕ) (p : Place) (x : Result (Option Value) Stop) (i : x ≡ value_of (check s p)) where
  answered : {A : Type 0} (f : Stop → A) (g : Sort → A) → ByBits g → (y : Result (Option Value) Stop) → x ≡ y → answering f g y ≡ answer_by f g (check s p)
  answered f g h y z = ap (answering f g) (sym z ∙ i) ∙ answering_is f g h (check s p)

  double_is : (y : Result (Option Value) Stop) → x ≡ y → answering (λ k. Err (V.Fault k)) double_of y ≡ double s p
  unfolding double
  double_is = answered (λ k. Err (V.Fault k)) double_of bits
    where
      bits : ByBits double_of
      bits (trees.number b) = refl
      bits (trees.nan32 b) = refl
      bits (trees.nan64 b) = refl

  signed_is : (y : Result (Option Value) Stop) → x ≡ y → answering (λ k. Err (V.Fault k)) signed_of y ≡ signed s p
  unfolding signed
  signed_is = answered (λ k. Err (V.Fault k)) signed_of (λ x. refl)

  unsigned_is : (y : Result (Option Value) Stop) → x ≡ y → answering (λ k. Err (V.Fault k)) unsigned_of y ≡ unsigned s p
  unfolding unsigned
  unsigned_is = answered (λ k. Err (V.Fault k)) unsigned_of (λ x. refl)

  ticks_is : (y : Result (Option Value) Stop) → x ≡ y → answering (λ k. Err (P.Fault k)) ticks_of y ≡ ticks s p
  unfolding ticks
  ticks_is = answered (λ k. Err (P.Fault k)) ticks_of (λ x. refl)

  module _ (k : Stop) (z : x ≡ Err k) where
    pub double_fault : Err (V.Fault k) ≡ double s p
    double_fault = double_is (Err k) z

    pub signed_fault : Err (V.Fault k) ≡ signed s p
    signed_fault = signed_is (Err k) z

    pub unsigned_fault : Err (V.Fault k) ≡ unsigned s p
    unsigned_fault = unsigned_is (Err k) z

    pub ticks_fault : Err (P.Fault k) ≡ ticks s p
    ticks_fault = ticks_is (Err k) z

  module _ (y : Option Value) (z : x ≡ Ok y) where
    pub double_none : y ≡ None → Err V.WrongKind ≡ double s p
    double_none e = double_is (Ok None) (z ∙ ap Ok e)

    pub signed_none : y ≡ None → Err V.WrongKind ≡ signed s p
    signed_none e = signed_is (Ok None) (z ∙ ap Ok e)

    pub unsigned_none : y ≡ None → Err V.WrongKind ≡ unsigned s p
    unsigned_none e = unsigned_is (Ok None) (z ∙ ap Ok e)

    pub ticks_none : y ≡ None → Err P.WrongKind ≡ ticks s p
    ticks_none e = ticks_is (Ok None) (z ∙ ap Ok e)

    module _ (v : Value) (e : y ≡ Some v) where
      at : (w : Value) → v ≡ w → x ≡ Ok (Some w)
      at w h = z ∙ ap Ok e ∙ ap (λ v. Ok (Some v)) h

      pub double_positive : (m : ℕ) → v ≡ Va.Positive m → (r : Result ℕ ValueError) → r ≡ double_of (sorts.whole (integer_of false m)) → r ≡ double s p
      double_positive m h r j = j ∙ double_is _ (at (Va.Positive m) h)

      pub double_negative : (m : ℕ) → v ≡ Va.Negative m → (r : Result ℕ ValueError) → r ≡ double_of (sorts.whole (integer_of true m)) → r ≡ double s p
      double_negative m h r j = j ∙ double_is _ (at (Va.Negative m) h)

      pub double_real : (b : ℕ) → v ≡ Va.Real b → Ok b ≡ double s p
      double_real b h = double_is _ (at (Va.Real b) h)

      pub double_time : (t : ℤ) → v ≡ Va.Time t → Err V.WrongKind ≡ double s p
      double_time t h = double_is _ (at (Va.Time t) h)

      pub signed_positive : (m : ℕ) → v ≡ Va.Positive m → (r : Result ℤ ValueError) → r ≡ signed_of (sorts.whole (integer_of false m)) → r ≡ signed s p
      signed_positive m h r j = j ∙ signed_is _ (at (Va.Positive m) h)

      pub signed_negative : (m : ℕ) → v ≡ Va.Negative m → (r : Result ℤ ValueError) → r ≡ signed_of (sorts.whole (integer_of true m)) → r ≡ signed s p
      signed_negative m h r j = j ∙ signed_is _ (at (Va.Negative m) h)

      pub signed_real : (b : ℕ) → v ≡ Va.Real b → Err V.WrongKind ≡ signed s p
      signed_real b h = signed_is _ (at (Va.Real b) h)

      pub signed_time : (t : ℤ) → v ≡ Va.Time t → Err V.WrongKind ≡ signed s p
      signed_time t h = signed_is _ (at (Va.Time t) h)

      pub unsigned_positive : (m : ℕ) → v ≡ Va.Positive m → Ok m ≡ unsigned s p
      unsigned_positive m h = unsigned_is _ (at (Va.Positive m) h)

      pub unsigned_negative : (m : ℕ) → v ≡ Va.Negative m → Err V.OutOfRange ≡ unsigned s p
      unsigned_negative m h = unsigned_is _ (at (Va.Negative m) h)

      pub unsigned_real : (b : ℕ) → v ≡ Va.Real b → Err V.WrongKind ≡ unsigned s p
      unsigned_real b h = unsigned_is _ (at (Va.Real b) h)

      pub unsigned_time : (t : ℤ) → v ≡ Va.Time t → Err V.WrongKind ≡ unsigned s p
      unsigned_time t h = unsigned_is _ (at (Va.Time t) h)

      pub ticks_time : (t : ℤ) → v ≡ Va.Time t → Ok t ≡ ticks s p
      ticks_time t h = ticks_is _ (at (Va.Time t) h)

      pub ticks_other : ((t : ℤ) → v ≡ Va.Time t → ⊥) → Err P.WrongKind ≡ ticks s p
      ticks_other a = on v refl
        where
          on : (w : Value) → v ≡ w → Err P.WrongKind ≡ ticks s p
          on (Va.Positive m) h = ticks_is _ (at (Va.Positive m) h)
          on (Va.Negative m) h = ticks_is _ (at (Va.Negative m) h)
          on (Va.Real b) h = ticks_is _ (at (Va.Real b) h)
          on (Va.Time t) h = absurd (a t h)

pub ruleset double_laws = (double_fault, double_none, double_positive, double_negative, double_real, double_time)

pub ruleset signed_laws = (signed_fault, signed_none, signed_positive, signed_negative, signed_real, signed_time)

pub ruleset unsigned_laws = (unsigned_fault, unsigned_none, unsigned_positive, unsigned_negative, unsigned_real, unsigned_time)

pub ruleset ticks_laws = (ticks_fault, ticks_none, ticks_time, ticks_other)
