-- Reading from the front reads back what was written, and, where it meets no flaw, only that: for a VarUInt, for bytes of a fixed or written size,
-- for a run of equal things.
use Prim.Native.Nat.{ℕ, zero, suc, ◌+◌, ◌^◌, ◌≤◌, ◌<◌}
use native.Mathlib.Omega.{arith}
use mathlib.Core.Path.{◌≡◌, refl, sym, ap}
use mathlib.Core.Bool.{Bool, true, false, cond, not}
use mathlib.Core.List.{List, [], ◌∷◌, ◌++◌, map, append_assoc}
use lib.ListN.{length, take, drop, length-append, length-take, take-append-drop}
use lib.Seq.{take_at, drop_at, drop-append_seam}
use lib.Dec.{ltb}
use borrow.Author.Tests.{ltb-false, le-ltb}
use Rattle.number.proofs.Clash.{clash}
use Rattle.number.specs.BigEndian.{All, Bytes}
use Rattle.number.specs.VarUInt.{var_uint, encoded, whole as whole_number}
use Rattle.number.proofs.NumberThenLaws.{number_all}
use Rattle.number.proofs.VarUIntLaws.{var_rt, var_inv}
use Rattle.format.specs.declared.Stop.{Stop}
use Rattle.format.specs.declared.Stop.TheVariants.{Early}
use Rattle.format.specs.declared.Flaw.{Flaw}
use Rattle.format.specs.declared.Flaw.TheVariants.{Long}
use Rattle.format.specs.Parse.{Out, fault, got, with_flaws, bind, raise, make, whole, read_var_uint, fixed, sized, many, fill}
use Rattle.format.specs.Encoding.{with_size, concat}
use Rattle.format.proofs.Lists.{bytes_right, bytes_left}

-- ---- what was read with no flaw

pub never : {A X : Type 0} {k : Stop} {a : A} {fs : List Flaw} {r : List ℕ} → fault k ≡ got a fs r → X
never h = clash cc

pub flawed : {A X : Type 0} {a b : A} {f : Flaw} {fs : List Flaw} {q r : List ℕ} → got a (f ∷ fs) q ≡ got b [] r → X
flawed h = clash cc

pub bind_case : {A B X : Type 0} (o : Out A) (g : A → List ℕ → Out B) {b : B} {r : List ℕ} → bind o g ≡ got b [] r
    → ((a : A) (q : List ℕ) → o ≡ got a [] q → g a q ≡ got b [] r → X) → X
bind_case (fault k) g h c = never h
bind_case (got a [] q) g h c = c a q refl h
bind_case (got a (f ∷ fs) q) g {b} {r} h c = go (g a q) h
  where
    go : {X : Type 0} (o : Out _) → with_flaws (f ∷ fs) o ≡ got b [] r → X
    go (fault k) e = never e
    go (got c gs t) e = flawed e

pub make_case : {A B X : Type 0} (f : A → B) (o : Out A) {b : B} {r : List ℕ} → make f o ≡ got b [] r → ((a : A) → o ≡ got a [] r → b ≡ f a → X) → X
make_case f o h c = bind_case o _ h λ a q e k. c a (let z : q ≡ _ = cc in rw z at e) (cc)

pub raise_off : {A : Type 0} (x : Bool) (f : Flaw) (o : Out A) {b : A} {r : List ℕ} → raise x f o ≡ got b [] r → (x ≡ false) × (o ≡ got b [] r)
raise_off false f o h = (refl, h)
raise_off true f (fault k) h = never h
raise_off true f (got a gs q) h = flawed h

pub whole_case : {A : Type 0} (o : Out A) (q : List ℕ) {a : A} {r : List ℕ} → whole o q ≡ got a [] r → (o ≡ got a [] []) × (q ≡ r)
whole_case (fault k) q h = never h
whole_case (got c fs []) q h = (cc, cc)
whole_case (got c fs (x ∷ xs)) q h = never h

-- ---- a VarUInt

pub number_rt : (v : ℕ) (r : List ℕ) → v < 2 ^ 64 → read_var_uint (encoded v ++ r) ≡ got v [] r
unfolding read_var_uint
number_rt v r h = rw (var_rt v r h, drop-append_seam (encoded v) r)

pub number_case : {X : Type 0} (s : List ℕ) {v : ℕ} {r : List ℕ} → Bytes s → read_var_uint s ≡ got v [] r → (s ≡ encoded v ++ r → v < 2 ^ 64 → Bytes r → X) → X
unfolding read_var_uint
number_case {X} s {v} {r} w h c = number_all (λ o. o ≡ got v [] r → X) _ _ s never go h
  where
    go : (u n : ℕ) (x : Bool) → var_uint s ≡ whole_number u n x → raise (not x) Long (got u [] (drop n s)) ≡ got v [] r → X
    go u n false e h = flawed h
    go u n true e h =
        let i = var_inv s u n w e in
        let y : u ≡ v = cc in
        let z : s ≡ encoded v ++ r = cc in
        c z (rw y at i.0) (bytes_right s (encoded v) r w z)

-- ---- n bytes

pub fixed_rt : (n : ℕ) (b r : List ℕ) → length b ≡ n → fixed n (b ++ r) ≡ got b [] r
unfolding fixed
fixed_rt n b r e = rw (le-ltb (length (b ++ r)) n (rw (length-append b r) (omega arith)), take_at b r n e, drop_at b r n e)

pub fixed_case : {X : Type 0} (n : ℕ) (s : List ℕ) {b r : List ℕ} → Bytes s → fixed n s ≡ got b [] r → (s ≡ b ++ r → length b ≡ n → Bytes b → X) → X
unfolding fixed
fixed_case {X} n s {b} {r} w h c = go (ltb (length s) n) refl h
  where
    go : (x : Bool) → ltb (length s) n ≡ x → cond x (fault Early) (got (take n s) [] (drop n s)) ≡ got b [] r → X
    go true e h = never h
    go false e h =
        let z : s ≡ b ++ r = cc (take-append-drop n s) in
        let y : take n s ≡ b = cc in
        let m : length (take n s) ≡ n = rw (length-take n s) (omega (arith, ltb-false)) in
        c z (rw y at m) (bytes_left s b r w z)

-- ---- a size, and as many bytes

pub sized_rt : {A : Type 0} (p : List ℕ → Out A) (b : List ℕ) (a : A) (r : List ℕ) → length b < 2 ^ 64 → p b ≡ got a [] []
    → sized p (with_size b ++ r) ≡ got a [] r
sized_rt p b a r l h =
    rw (
      append_assoc (encoded (length b)) b r,
      number_rt (length b) (b ++ r) l,
      le-ltb (length (b ++ r)) (length b) (rw (length-append b r) (omega arith)),
      take_at b r (length b) refl,
      drop_at b r (length b) refl,
      h,
    )

pub sized_case : {A X : Type 0} (p : List ℕ → Out A) {s : List ℕ} {a : A} {r : List ℕ} → Bytes s → sized p s ≡ got a [] r
    → ((b : List ℕ) → p b ≡ got a [] [] → s ≡ with_size b ++ r → Bytes b → length b < 2 ^ 64 → X) → X
sized_case {X} p {s} {a} {r} w h c = bind_case (read_var_uint s) _ h λ n q e k. number_case s w e λ es l wq. go n q es l wq (ltb (length q) n) refl k
  where
    go : (n : ℕ) (q : List ℕ) → s ≡ encoded n ++ q → n < 2 ^ 64 → Bytes q → (x : Bool) → ltb (length q) n ≡ x
        → cond x (fault Early) (whole (p (take n q)) (drop n q)) ≡ got a [] r → X
    go n q es l wq true e k = never k
    go n q es l wq false e k =
        let u = whole_case (p (take n q)) (drop n q) k in
        let m : length (take n q) ≡ n = rw (length-take n q) (omega (arith, ltb-false)) in
        c (take n q) u.0 (rw (m, append_assoc (encoded n) (take n q) r) (cc (take-append-drop n q)))
        (bytes_left q (take n q) (drop n q) wq (sym (take-append-drop n q))) (omega arith)

-- ---- a reader p of what enc writes, out a for a: both ways

pub record Good {A X : Type 0} (p : List ℕ → Out X) (out : A → X) (enc : A → List ℕ) (W : A → Type 0) : Type 0 where
  pub rt : (a : A) (r : List ℕ) → W a → length (enc a) < 2 ^ 64 → p (enc a ++ r) ≡ got (out a) [] r
  pub inv : (s : List ℕ) (x : X) (r : List ℕ) → Bytes s → p s ≡ got x [] r → (a : A) × (x ≡ out a) × (s ≡ enc a ++ r) × W a

-- ---- as many as are counted, and as many as fill a part

module _ {A X : Type 0} (p : List ℕ → Out X) (out : A → X) (enc : A → List ℕ) (W : A → Type 0) (g : Good p out enc W) where
  pub many_rt : (xs : List A) (r : List ℕ) → All W xs → length (concat enc xs) < 2 ^ 64 → many p (length xs) (concat enc xs ++ r) ≡ got (map out xs) [] r
  many_rt [] r w l = refl
  many_rt (x ∷ xs) r w l =
      let m : length (enc x) + length (concat enc xs) < 2 ^ 64 = rw length-append at l in
      rw (append_assoc (enc x) (concat enc xs) r, g.rt x (concat enc xs ++ r) w.0 (omega arith), many_rt xs r w.1 (omega arith))

  many_inv : (n : ℕ) (s : List ℕ) (ys : List X) (r : List ℕ) → Bytes s → many p n s ≡ got ys [] r
      → (xs : List A) × (ys ≡ map out xs) × (s ≡ concat enc xs ++ r) × All W xs × (length xs ≡ n)
  many_inv zero s ys r w h = ([], cc, cc, tt, refl)
  many_inv (suc n) s ys r w h =
      bind_case (p s) _ h λ y q e h₁. bind_case (many p n q) _ h₁ λ zs u e₁ h₂.
      step y q zs u (g.inv s y q w e) (λ v. many_inv n q zs u v e₁) h₂
    where
      step : (y : X) (q : List ℕ) (zs : List X) (u : List ℕ) → (a : A) × (y ≡ out a) × (s ≡ enc a ++ q) × W a
          → (Bytes q → (xs : List A) × (zs ≡ map out xs) × (q ≡ concat enc xs ++ u) × All W xs × (length xs ≡ n))
          → got (y ∷ zs) [] u ≡ got ys [] r → (xs : List A) × (ys ≡ map out xs) × (s ≡ concat enc xs ++ r) × All W xs × (length xs ≡ suc n)
      step y q zs u a ih h =
          let k = ih (bytes_right s (enc a.0) q w a.2) in
          (a.0 ∷ k.0, cc, rw append_assoc (cc), (a.3, k.3), ap suc k.4)

  pub many_case : {Y : Type 0} (n : ℕ) (s : List ℕ) {ys : List X} {r : List ℕ} → Bytes s → many p n s ≡ got ys [] r
      → ((xs : List A) → ys ≡ map out xs → s ≡ concat enc xs ++ r → All W xs → length xs ≡ n → Y) → Y
  many_case n s {ys} {r} w h c = let m = many_inv n s ys r w h in c m.0 m.1 m.2 m.3 m.4

  fill_more : (n : ℕ) (s : List ℕ) → 1 ≤ length s → fill p (suc n) s ≡ bind (p s) λ x r. bind (fill p n r) λ xs q. got (x ∷ xs) [] q
  fill_more n [] h = absurd (omega arith)
  fill_more n (b ∷ s) h = refl

  pub fill_rt : (xs : List A) (n : ℕ) → All W xs → All (λ x. 1 ≤ length (enc x)) xs → length (concat enc xs) ≤ n → length (concat enc xs) < 2 ^ 64
      → fill p n (concat enc xs) ≡ got (map out xs) [] []
  fill_rt [] zero w o f l = refl
  fill_rt [] (suc n) w o f l = refl
  fill_rt (x ∷ xs) zero w o f l = absurd (let m : length (enc x) + length (concat enc xs) ≤ 0 = rw length-append at f in omega (arith, o.0))
  fill_rt (x ∷ xs) (suc n) w o f l =
      let a = length-append (enc x) (concat enc xs) in
      rw (
        fill_more n (enc x ++ concat enc xs) (omega (arith, o.0)),
        g.rt x (concat enc xs) w.0 (omega arith),
        fill_rt xs n w.1 o.1 (omega (arith, o.0)) (omega arith),
      )

  pub fill_inv : (n : ℕ) (s : List ℕ) (ys : List X) (r : List ℕ) → Bytes s → fill p n s ≡ got ys [] r
      → (xs : List A) × (ys ≡ map out xs) × (s ≡ concat enc xs) × (r ≡ []) × All W xs
  fill_inv zero [] ys r w h = ([], cc, refl, cc, tt)
  fill_inv zero (b ∷ s) ys r w h = never h
  fill_inv (suc n) [] ys r w h = ([], cc, refl, cc, tt)
  fill_inv (suc n) (b ∷ s) ys r w h =
      bind_case (p (b ∷ s)) _ h λ y q e h₁. bind_case (fill p n q) _ h₁ λ zs u e₁ h₂.
      step y q zs u (g.inv (b ∷ s) y q w e) (λ v. fill_inv n q zs u v e₁) h₂
    where
      step : (y : X) (q : List ℕ) (zs : List X) (u : List ℕ) → (a : A) × (y ≡ out a) × (b ∷ s ≡ enc a ++ q) × W a
          → (Bytes q → (xs : List A) × (zs ≡ map out xs) × (q ≡ concat enc xs) × (u ≡ []) × All W xs)
          → got (y ∷ zs) [] u ≡ got ys [] r → (xs : List A) × (ys ≡ map out xs) × (b ∷ s ≡ concat enc xs) × (r ≡ []) × All W xs
      step y q zs u a ih h =
          let k = ih (bytes_right (b ∷ s) (enc a.0) q w a.2) in
          (a.0 ∷ k.0, cc, cc, cc, (a.3, k.4))
