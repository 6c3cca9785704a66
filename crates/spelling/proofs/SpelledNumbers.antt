-- VarUInts in any form, and in the minimal one: read with any flaws, or with no `long`.
use Prim.Native.Nat.{ℕ, zero, suc, ◌^◌, ◌≤◌, ◌<◌}
use native.Mathlib.Omega.{arith}
use mathlib.Core.Path.{◌≡◌, refl, sym, ap, subst, ◌∙◌}
use mathlib.Core.Logic.{◌↔◌}
use mathlib.Core.Bool.{Bool, true, false, not, ◌||◌, cond}
use mathlib.Core.List.{List, [], ◌∷◌, ◌++◌}
use lib.ListN.{length, take, drop, get_or, take-append-drop}
use lib.Seq.{take_at, drop_at, length-take-le, take-length, drop-length}
use lib.Dec.{ltb, leb}
use borrow.Author.Tests.{lt-ltb, leb-true, leb-false}
use Rattle.number.proofs.AnswerLaws.{whole_same}
use Rattle.number.proofs.Clash.{clash}
use Rattle.number.specs.BigEndian.{Bytes}
use Rattle.number.specs.VarUInt.{reached, bounds, bound, var_uint, form, encoded, whole}
use Rattle.number.proofs.NumberThenLaws.{number_all}
use Rattle.number.proofs.VarUIntLaws.{limit, limit_whole, needed_at, form_reads, form_length, measured, encoded_at, encoded_bytes, var_rt, var_form, var_range}
use Rattle.number.proofs.VarUIntLaws.{var_local, var_inv}
use Rattle.format.specs.declared.Flaw.{Flaw}
use Rattle.format.specs.declared.Flaw.TheVariants.{Twin, Blank, Long, Low, Wide, NotUtf8, NotUniform}
use Rattle.format.specs.Parse.{got, raise, read_var_uint}
use Rattle.format.specs.Mask.{has}
use Rattle.spelling.specs.Spells.{any_form, minimal_form}
use Rattle.format.proofs.Back.{never, number_rt}
use Rattle.format.proofs.Lists.{append_nil, bytes_left}
use Rattle.format.proofs.Local.{raise_got}
use Rattle.spelling.proofs.Tells.{is}
use Rattle.spelling.proofs.AnyLaws.{any_append}
use Rattle.spelling.proofs.Grammar.{Clean, Front, front_as}

abbrev pub Any : List Flaw → Type 0
Any fs = Unit {0}

abbrev pub NoLong : List Flaw → Type 0
NoLong fs = has Long fs ≡ false

or_left : (a b : Bool) → (a || b) ≡ false → a ≡ false
or_left true b h = h
or_left false b h = refl

or_right : (a b : Bool) → (a || b) ≡ false → b ≡ false
or_right true b h = clash cc
or_right false b h = h

pub any_clean : Clean Any
any_clean = record { none = tt; both = λ fs gs a b. tt; left = λ fs gs a. tt; right = λ fs gs a. tt; other = λ f h. tt }

is_comm : (f : Flaw) → is f Long ≡ false → is Long f ≡ false
is_comm Twin h = refl
is_comm Blank h = refl
is_comm Long h = h
is_comm Low h = refl
is_comm Wide h = refl
is_comm NotUtf8 h = refl
is_comm NotUniform h = refl

pub no_long_clean : Clean NoLong
no_long_clean = record {
  none = refl;
  both = λ fs gs a b. any_append (is Long) fs gs ∙ rw (a, b);
  left = λ fs gs a. or_left (has Long fs) (has Long gs) (sym (any_append (is Long) fs gs) ∙ a);
  right = λ fs gs a. or_right (has Long fs) (has Long gs) (sym (any_append (is Long) fs gs) ∙ a);
  other = λ f h. rw (is_comm f h);
}

-- what a VarUInt that stands alone is read as, with anything behind it
number_from : (w : List ℕ) (v : ℕ) (m : Bool) → var_uint w ≡ whole v (length w) m → (r : List ℕ) → read_var_uint (w ++ r) ≡ raise (not m) Long (got v [] r)
unfolding read_var_uint
number_from w v m e r =
    let l : var_uint (w ++ r) ≡ whole v (length w) m = subst (λ u. var_uint (u ++ r) ≡ whole v (length w) m) (take-length w) (var_local w v (length w) m e r) in
    rw (l, drop_at w r (length w) refl)

number_to : {X : Type 0} (s : List ℕ) (v : ℕ) (fs : List Flaw) (r : List ℕ) → read_var_uint s ≡ got v fs r
    → ((w : List ℕ) (m : Bool) → s ≡ w ++ r → var_uint w ≡ whole v (length w) m → raise (not m) Long (got v [] r) ≡ got v fs r → X) → X
unfolding read_var_uint
number_to {X} s v fs r h k = number_all (λ o. o ≡ got v fs r → X) _ _ s never go h
  where
    go : (u n : ℕ) (m : Bool) → var_uint s ≡ whole u n m → raise (not m) Long (got u [] (drop n s)) ≡ got v fs r → X
    go u n m e h = raise_got (not m) Long (got u [] (drop n s)) h λ gs i.
        let y : drop n s ≡ r = cc in
        let x : u ≡ v = cc in
        let l : length (take n s) ≡ n = length-take-le n s (var_range s u n m e).2 in
        let a : var_uint (take n s) ≡ whole u n m = subst (λ z. var_uint z ≡ whole u n m) (append_nil (take n s)) (var_local s u n m e []) in
        k (take n s) m (rw (← y) (sym (take-append-drop n s))) (rw (← x, l) a)
        (subst (λ z. raise (not m) Long (got z [] r) ≡ got v fs r) x (subst (λ z. raise (not m) Long (got u [] z) ≡ got v fs r) y h))

-- ---- no shorter form is the encoded one

abbrev Encoded : ℕ → List ℕ → Type 0
Encoded v u = (v < 2 ^ 64) × (u ≡ encoded v)

reached_below : (ts : List ℕ) (v n d : ℕ) → v < get_or ts n d → reached ts v ≤ n
reached_below [] v n d h = omega arith
reached_below (t ∷ ts) v zero d h = rw (lt-ltb v t h) (omega arith)
reached_below (t ∷ ts) v (suc n) d h = go (ltb v t) (reached_below ts v n d h)
  where
    go : (x : Bool) → reached ts v ≤ n → cond x 0 (suc (reached ts v)) ≤ suc n
    go true l = omega arith
    go false l = omega arith

default_any : (l : List ℕ) (m a b : ℕ) → m < length l → get_or l m a ≡ get_or l m b
default_any [] m a b h = absurd (omega arith)
default_any (x ∷ l) zero a b h = refl
default_any (x ∷ l) (suc m) a b h = default_any l m a b (omega arith)

encoded_any : (v : ℕ) → v < 2 ^ 64 → any_form v (encoded v)
encoded_any v h =
    let e : var_uint (encoded v) ≡ whole v (length (encoded v)) true = rw append_nil at (var_rt v [] h) in
    let f = var_form (encoded v) v (length (encoded v)) true (encoded_bytes v h) e in
    (f.0, f.1, f.2, sym (take-length (encoded v)) ∙ f.3)

encoded_minimal : (v : ℕ) (u : List ℕ) → Encoded v u → minimal_form v u
encoded_minimal v u i = (
  rw i.1 (encoded_any v i.0),
  λ t j. rw (i.1, ← measured (reached bounds v) v refl, j.3, form_length j.0 v)
      (omega (arith, reached_below bounds v j.0 (2 ^ 64) j.2)),
)

minimal_encoded : (v : ℕ) (u : List ℕ) → minimal_form v u → Encoded v u
minimal_encoded v u i = (omega (arith, limit_whole f.0 f.1, f.2), go f.0 f.1 f.2 f.3 (leb (bound f.0) v) refl)
  where
    f : any_form v u
    f = i.0

    shorter : (n : ℕ) → n ≤ 8 → u ≡ form n v → v < bound n → ⊥
    shorter zero l e h = omega arith
    shorter (suc m) l e h =
        omega (
          arith,
          i.1 (form m v) (m, omega arith, rw (← default_any bounds m 0 (2 ^ 64) (omega arith)) h, refl),
          ap length e,
          form_length
              (suc m) v,
          form_length m v,
        )

    go : (n : ℕ) → n ≤ 8 → v < limit n → u ≡ form n v → (x : Bool) → leb (bound n) v ≡ x → u ≡ encoded v
    go n l h e true k = e ∙ sym (encoded_at n v (needed_at n v l (leb-true (bound n) v k) h))
    go n l h e false k = absurd (shorter n l e (leb-false (bound n) v k))

-- what is read is minimal exactly if no shorter form holds the value
pub minimal_exactly : (s : List ℕ) (v n : ℕ) (m : Bool) → Bytes s → var_uint s ≡ whole v n m → (m ≡ true) ↔ minimal_form v (take n s)
minimal_exactly s v n m y e = (
  (λ h.
      let i = var_inv s v n y (rw h at e) in
      encoded_minimal v (take n s) (i.0, ap (take n) i.2 ∙ take_at (encoded v) (drop n s) n (sym i.1))),
  λ k.
      let i = minimal_encoded v (take n s) k in
      let j : encoded v ++ drop n s ≡ s = ap (λ u. u ++ drop n s) (sym i.1) ∙ take-append-drop n s in
      let r : var_uint s ≡ whole v (length (encoded v)) true = rw j at (var_rt v (drop n s) i.0) in
      (whole_same v n m v (length (encoded v)) true (sym e ∙ r)).2,
)

pub any_number : Front Any read_var_uint any_form
any_number = record {
  to = λ s v fs r y e c. number_to s v fs r e λ w m i j k. let f = var_form w v (length w) m (bytes_left _ w r y i) j in
      (w, i, (f.0, f.1, f.2, sym (take-length w) ∙ f.3));
  from =
      λ v w x r. go v w (leb (bound x.0) v) (rw (x.3, form_length x.0 v) (rw (append_nil (form x.0 v)) at (form_reads x.0 v [] x.1 x.2))) r;
}
  where
    go : (v : ℕ) (w : List ℕ) (m : Bool) → var_uint w ≡ whole v (length w) m → (r : List ℕ) → (fs : List Flaw) × Any fs × (read_var_uint (w ++ r) ≡ got v fs r)
    go v w true e r = ([], tt, number_from w v true e r)
    go v w false e r = (Long ∷ [], tt, number_from w v false e r)

encoded_number : Front NoLong read_var_uint Encoded
encoded_number = record {
  to = λ s v fs r y e c. number_to s v fs r e λ w m i j k. (w, i, go v w fs r m (bytes_left _ w r y i) j k c);
  from = λ v w x r. ([], refl, rw x.1 (number_rt v r x.0));
}
  where
    go : (v : ℕ) (w : List ℕ) (fs : List Flaw) (r : List ℕ) (m : Bool) → Bytes w → var_uint w ≡ whole v (length w) m
        → raise (not m) Long (got v [] r) ≡ got v fs r → has Long fs ≡ false → Encoded v w
    go v w fs r true y e k c = let i = var_inv w v (length w) y e in (i.0, i.2 ∙ (ap (λ z. encoded v ++ z) (drop-length w) ∙ append_nil (encoded v)))
    go v w fs r false y e k c = clash cc

pub minimal_number : Front NoLong read_var_uint minimal_form
minimal_number = front_as no_long_clean read_var_uint Encoded minimal_form (λ v w y x. encoded_minimal v w x) (λ v w x. minimal_encoded v w x) encoded_number

-- each has a byte
pub any_some : (v : ℕ) (u : List ℕ) → any_form v u → 1 ≤ length u
any_some v u i = rw (i.3, form_length i.0 v) (omega arith)

pub minimal_some : (v : ℕ) (u : List ℕ) → minimal_form v u → 1 ≤ length u
minimal_some v u i = any_some v u i.0
