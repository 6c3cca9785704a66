-- Typing part by part gives what `bytes_typed` gives of the whole text: parts may be cut anywhere; the bytes, if the list has room for them, stand at its
-- front; and a mistyped text is told at its place.
use Prim.Native.Nat.{ℕ, suc, ◌+◌, ◌-◌, ◌*◌, ◌%◌, ◌^◌, ◌≤◌, ◌<◌}
use native.Mathlib.Omega.{arith}
use mathlib.Core.Path.{◌≡◌, refl, ap, ◌∙◌, subst}
use mathlib.Core.Bool.{Bool, true, false, ◌&&◌, ◌||◌, cond}
use mathlib.Core.Option.{Option, none, some}
use mathlib.Core.List.{List, [], ◌∷◌, ◌++◌}
use lib.ListN.{length, drop, set, length-set}
use lib.Seq.{sets, sets-eq}
use lib.Dec.{eqb, leb}
use Rattle.std.specs.Prelude.{Some, None, is_some}
use borrow.Author.Tests.{lt-ltb, leb-true}
use Rattle.number.proofs.Clash.{clash}
use Rattle.frames.specs.Program.{Character, digit, line_feed, another, character, Typed, typed, mistyped, first, type_one, type_from, bytes_typed}
use Rattle.hexadecimal.specs.declared.Typing.{Typing}
use Rattle.hexadecimal.specs.Typing.{told, afterwards, start, put, fed_one, onward, fed}

-- ---- parts

pub parts : (a b : List ℕ) (t : Typing) (l : List ℕ) → fed (a ++ b) t l ≡ fed b (fed a t l).typing (fed a t l).list
parts [] b t l = refl
parts (c ∷ a) b t l = parts a b (fed_one c t l).typing (fed_one c t l).list

-- ---- the whole

-- n bytes formed, with a digit at hand or with none
abbrev state : ℕ → Option ℕ → Typing
state n none = record { formed = n; digit = None; wrong = false }
state n (some h) = record { formed = n; digit = Some h; wrong = false }

abbrev Small : Option ℕ → Type 0
Small none = Unit {0}
Small (some h) = h < 16

-- bytes one behind the other from n on
abbrev puts : List ℕ → ℕ → List ℕ → List ℕ
puts l n [] = l
puts l n (b ∷ bs) = puts (put l n b) (suc n) bs

small_digit : (c d : ℕ) → character c ≡ digit d → d < 16
small_digit c d e = at (leb 0x30 c) refl (leb c 0x39) refl (leb 0x61 c) refl (leb c 0x66) refl (eqb c 0x0a) e
  where
    at : (a₁ : Bool) → leb 0x30 c ≡ a₁ → (a₂ : Bool) → leb c 0x39 ≡ a₂ → (a₃ : Bool) → leb 0x61 c ≡ a₃ → (a₄ : Bool) → leb c 0x66 ≡ a₄ → (a₅ : Bool)
        → cond (a₁ && a₂) (digit (c - 0x30)) (cond (a₃ && a₄) (digit (c - 0x61 + 10)) (cond a₅ line_feed another)) ≡ digit d → d < 16
    at true i₁ true i₂ a₃ i₃ a₄ i₄ a₅ e = let z : c - 0x30 ≡ d = cc in omega (arith, leb-true c 0x39 i₂)
    at true i₁ false i₂ true i₃ true i₄ a₅ e = let z : c - 0x61 + 10 ≡ d = cc in omega (arith, leb-true c 0x66 i₄)
    at true i₁ false i₂ true i₃ false i₄ true e = clash cc
    at true i₁ false i₂ true i₃ false i₄ false e = clash cc
    at true i₁ false i₂ false i₃ a₄ i₄ true e = clash cc
    at true i₁ false i₂ false i₃ a₄ i₄ false e = clash cc
    at false i₁ a₂ i₂ true i₃ true i₄ a₅ e = let z : c - 0x61 + 10 ≡ d = cc in omega (arith, leb-true c 0x66 i₄)
    at false i₁ a₂ i₂ true i₃ false i₄ true e = clash cc
    at false i₁ a₂ i₂ true i₃ false i₄ false e = clash cc
    at false i₁ a₂ i₂ false i₃ a₄ i₄ true e = clash cc
    at false i₁ a₂ i₂ false i₃ a₄ i₄ false e = clash cc

-- one character
step_first : (c d n : ℕ) (l : List ℕ) → character c ≡ digit d → fed_one c (state n none) l ≡ afterwards (state n (some d)) l
unfolding told
step_first c d n l e = rw e

step_second : (c d n h : ℕ) (l : List ℕ) → character c ≡ digit d → h < 16 → n < 2 ^ 64 - 1
    → fed_one c (state n (some h)) l ≡ afterwards (state (suc n) none) (put l n (h * 16 + d))
unfolding told
step_second c d n h l e i k =
    let a : h % 16 ≡ h = omega arith in
    let b : d % 16 ≡ d = omega (arith, small_digit c d e) in
    let m : n + 1 ≡ suc n = omega arith in
    rw (e, lt-ltb n (2 ^ 64 - 1) k, a, b, m)

step_feed : (c n : ℕ) (o : Option ℕ) (l : List ℕ) → character c ≡ line_feed → fed_one c (state n o) l ≡ afterwards (state n o) l
unfolding told
step_feed c n none l e = rw e
step_feed c n (some h) l e = rw e

abbrev halted : Typing → Typing
halted t = record { formed = t.formed; digit = t.digit; wrong = true }

step_another : (c n : ℕ) (o : Option ℕ) (l : List ℕ) → character c ≡ another → fed_one c (state n o) l ≡ afterwards (halted (state n o)) l
unfolding told
step_another c n none l e = rw e
step_another c n (some h) l e = rw e

stays : (s : List ℕ) (t : Typing) (l : List ℕ) → fed s (halted t) l ≡ afterwards (halted t) l
stays [] t l = refl
stays (c ∷ s) t l = stays s t l

-- typed
on_typed : (s : List ℕ) (n : ℕ) (o : Option ℕ) (l bs : List ℕ) → n + length s < 2 ^ 64 → Small o → type_from s n o ≡ typed bs
    → fed s (state n o) l ≡ afterwards (state (n + length bs) none) (puts l n bs)
on_typed [] n none l bs h i e = let z : bs ≡ [] = cc in let m : n ≡ n + 0 = omega arith in rw (z, ← m)
on_typed [] n (some x) l bs h i e = clash cc
on_typed (c ∷ s) n o l bs h i e = at (λ m q k vs. on_typed s m q k vs) (character c) refl o i e
  where
    Goal : Option ℕ → List ℕ → Type 0
    Goal o vs = onward (fed s) (fed_one c (state n o) l) ≡ afterwards (state (n + length vs) none) (puts l n vs)

    -- a byte, and the rest
    byte : (d x : ℕ) → character c ≡ digit d → x < 16
        → ((m : ℕ) (q : Option ℕ) (k vs : List ℕ) → m + length s < 2 ^ 64 → Small q → type_from s m q ≡ typed vs
        → fed s (state m q) k ≡ afterwards (state (m + length vs) none) (puts k m vs))
        → (r : Typed) → type_from s (suc n) none ≡ r → first (x * 16 + d) r ≡ typed bs → Goal (some x) bs
    byte d x j i ih (typed vs) w e =
        let z : (x * 16 + d) ∷ vs ≡ bs = cc in
        let m : suc n + length vs ≡ n + suc (length vs) = omega arith in
        let y : Goal (some x) ((x * 16 + d) ∷ vs) =
        rw (step_second c d n x l j i (omega arith), ← m) (ih (suc n) none (put l n (x * 16 + d)) vs (omega arith) tt w) in
        subst (Goal (some x)) z y
    byte d x j i ih (mistyped p) w e = clash cc

    at : ((m : ℕ) (q : Option ℕ) (k vs : List ℕ) → m + length s < 2 ^ 64 → Small q → type_from s m q ≡ typed vs
        → fed s (state m q) k ≡ afterwards (state (m + length vs) none) (puts k m vs))
        → (x : Character) → character c ≡ x → (o : Option ℕ) → Small o → type_one n o x (λ m q. type_from s m q) ≡ typed bs → Goal o bs
    at ih (digit d) j none i e = rw (step_first c d n l j) (ih n (some d) l bs (omega arith) (small_digit c d j) e)
    at ih (digit d) j (some x) i e = byte d x j i ih (type_from s (suc n) none) refl e
    at ih line_feed j none i e = rw (step_feed c n none l j) (ih n none l bs (omega arith) i e)
    at ih line_feed j (some x) i e = rw (step_feed c n (some x) l j) (ih n (some x) l bs (omega arith) i e)
    at ih another j none i e = clash cc
    at ih another j (some x) i e = clash cc

-- mistyped: at its place, with a digit at hand or at another character
record Told (p : ℕ) (t : Typing) : Type 0 where
  place : t.formed ≡ p
  open_or_wrong : (is_some t.digit || t.wrong) ≡ true

on_mistyped : (s : List ℕ) (n : ℕ) (o : Option ℕ) (l : List ℕ) (p : ℕ) → n + length s < 2 ^ 64 → Small o → type_from s n o ≡ mistyped p
    → Told p (fed s (state n o) l).typing
on_mistyped [] n none l p h i e = clash cc
on_mistyped [] n (some x) l p h i e = record { place = cc; open_or_wrong = refl }
on_mistyped (c ∷ s) n o l p h i e = at (λ m q k. on_mistyped s m q k p) (character c) refl o i e
  where
    byte : (d x : ℕ) → character c ≡ digit d → x < 16
        → ((m : ℕ) (q : Option ℕ) (k : List ℕ) → m + length s < 2 ^ 64 → Small q → type_from s m q ≡ mistyped p → Told p (fed s (state m q) k).typing)
        → (r : Typed) → type_from s (suc n) none ≡ r → first (x * 16 + d) r ≡ mistyped p → Told p (onward (fed s) (fed_one c (state n (some x)) l)).typing
    byte d x j i ih (typed vs) w e = clash cc
    byte d x j i ih (mistyped q) w e =
        rw (step_second c d n x l j i (omega arith)) (ih (suc n) none (put l n (x * 16 + d)) (omega arith) tt (let z : q ≡ p = cc in w ∙ ap mistyped z))

    stopped : (o : Option ℕ) → character c ≡ another → n ≡ p → Told p (onward (fed s) (fed_one c (state n o) l)).typing
    stopped none j z = rw (step_another c n none l j, stays s (state n none) l) (record { place = z; open_or_wrong = refl })
    stopped (some x) j z = rw (step_another c n (some x) l j, stays s (state n (some x)) l) (record { place = z; open_or_wrong = refl })

    at : ((m : ℕ) (q : Option ℕ) (k : List ℕ) → m + length s < 2 ^ 64 → Small q → type_from s m q ≡ mistyped p → Told p (fed s (state m q) k).typing)
        → (x : Character) → character c ≡ x → (o : Option ℕ) → Small o → type_one n o x (λ m q. type_from s m q) ≡ mistyped p
        → Told p (onward (fed s) (fed_one c (state n o) l)).typing
    at ih (digit d) j none i e = rw (step_first c d n l j) (ih n (some d) l (omega arith) (small_digit c d j) e)
    at ih (digit d) j (some x) i e = byte d x j i ih (type_from s (suc n) none) refl e
    at ih line_feed j none i e = rw (step_feed c n none l j) (ih n none l (omega arith) i e)
    at ih line_feed j (some x) i e = rw (step_feed c n (some x) l j) (ih n (some x) l (omega arith) i e)
    at ih another j none i e = stopped none j (cc)
    at ih another j (some x) i e = stopped (some x) j (cc)

-- ---- where the bytes stand

puts_sets : (bs l : List ℕ) (n : ℕ) → n + length bs ≤ length l → puts l n bs ≡ sets l n bs
puts_sets [] l n h = refl
puts_sets (b ∷ bs) l n h =
    let z : put l n b ≡ set l n b = rw (lt-ltb n (length l) (omega arith)) in
    ap (λ k. puts k (suc n) bs) z ∙ puts_sets bs (set l n b) (suc n) (rw (length-set l n b) (omega arith))

-- a text that is well typed: its bytes stand at the front of a list that has room for them, nothing else is touched, and no digit is at hand
pub whole_typed : (s l bs : List ℕ) → length s < 2 ^ 64 → bytes_typed s ≡ typed bs
    → ((fed s start l).typing ≡ record { formed = length bs; digit = None; wrong = false })
    × (length bs ≤ length l → (fed s start l).list ≡ bs ++ drop (length bs) l)
unfolding bytes_typed
whole_typed s l bs h e =
    let i = on_typed s 0 none l bs (omega arith) tt e in
    let n : 0 + length bs ≡ length bs = omega arith in (
      ap (λ f. f.typing) i ∙ ap (λ m. state m none) n,
      λ k. ap (λ f. f.list) i ∙ puts_sets bs l 0 (omega arith) ∙ sets-eq bs l 0 (omega arith) ∙ ap (λ m. bs ++ drop m l) n,
    )

-- a text that is mistyped: the place is the number of bytes formed before it; a digit is at hand at the end, or another character was met
pub whole_mistyped : (s l : List ℕ) (p : ℕ) → length s < 2 ^ 64 → bytes_typed s ≡ mistyped p
    → ((fed s start l).typing.formed ≡ p) × ((is_some (fed s start l).typing.digit || (fed s start l).typing.wrong) ≡ true)
unfolding bytes_typed
whole_mistyped s l p h e = let i = on_mistyped s 0 none l p (omega arith) tt e in (i.place, i.open_or_wrong)
