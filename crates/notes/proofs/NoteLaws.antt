-- What notes say of the names that were met: at the end where the first of them begins that stands a second time.
use Prim.Native.Nat.{ℕ, ◌+◌, ◌≤◌, ◌<◌}
use native.Mathlib.Omega.{arith}
use native.Mathlib.Numerals.{add-one}
use mathlib.Core.Path.{◌≡◌, refl, sym, ap, ◌∙◌}
use mathlib.Core.Bool.{Bool, true, false, ◌&&◌, cond}
use mathlib.Core.List.{List, [], ◌∷◌, ◌++◌}
use lib.ListN.{length, take, drop, set, replicate, length-append, length-drop, length-set, length-replicate}
use lib.Seq.{take-suc-set}
use lib.Dec.{ltb, leb}
use borrow.Author.Tests.{ltb-true, leb-true}
use Rattle.number.proofs.Clash.{clash}
use Rattle.text.proofs.Laws.{and_both}
use Rattle.std.specs.declared.cmp.Ordering.{Ordering}
use Rattle.std.specs.declared.cmp.Ordering.TheVariants.{Less, Equal, Greater}
use Rattle.std.specs.Ordering.{is_lt}
use Rattle.entries.specs.Entry.{begin_in, bytes_in, name_in}
use Rattle.compare.specs.Order.{order, ascends}
use Rattle.entries.specs.Least.{lesser, least}
use Rattle.entries.specs.Among.{In, here, there}
use Rattle.compare.proofs.OrderLaws.{order_refl, order_trans}
use Rattle.entries.proofs.LeastLaws.{first_is, lesser_right, least_bound, least_over_law}
use Rattle.select.specs.declared.Source.{Source}
use Rattle.select.specs.Source.{entries_of, first_twin, zeroed, searched}
use Rattle.notes.specs.declared.Notes.{Notes}
use Rattle.notes.specs.declared.Notes.TheVariants.{Few, Rising, Many}
use Rattle.notes.specs.Notes.{rises_from, rises, held_in, risen, noting, added, told}

-- ---- names that ascend

ascends_is : (s : List ℕ) (x y : ℕ) → ascends s x y ≡ true → order (bytes_in s x) (bytes_in s y) ≡ Less
unfolding ascends
ascends_is s x y h = go (order (bytes_in s x) (bytes_in s y)) refl h
  where
    go : (o : Ordering) → order (bytes_in s x) (bytes_in s y) ≡ o → is_lt o ≡ true → o ≡ Less
    go Less e h = refl
    go Equal e h = clash cc
    go Greater e h = clash cc

-- one more behind the last
from_last : (s : List ℕ) (x : ℕ) (us : List ℕ) (y z : ℕ) → rises_from s x ((us ++ (y ∷ [])) ++ (z ∷ [])) ≡ rises_from s x (us ++ (y ∷ [])) && ascends s y z
unfolding rises_from
from_last s x [] y z = go (ascends s x y) (ascends s y z)
  where
    go : (a b : Bool) → a && (b && true) ≡ (a && true) && b
    go true true = refl
    go true false = refl
    go false b = refl
from_last s x (u ∷ us) y z = go (ascends s x u) (rises_from s u ((us ++ (y ∷ [])) ++ (z ∷ []))) (rises_from s u (us ++ (y ∷ []))) (ascends s y z)
    (from_last s u us y z)
  where
    go : (a b c d : Bool) → b ≡ c && d → a && b ≡ (a && c) && d
    go true b c d e = e
    go false b c d e = refl

pub rises_last : (s us : List ℕ) (y z : ℕ) → rises s ((us ++ (y ∷ [])) ++ (z ∷ [])) ≡ rises s (us ++ (y ∷ [])) && ascends s y z
unfolding rises_from
rises_last s [] y z = go (ascends s y z)
  where
    go : (a : Bool) → a && true ≡ a
    go true = refl
    go false = refl
rises_last s (u ∷ us) y z = from_last s u us y z

-- the first comes before all behind it
from_less : (s : List ℕ) (a : ℕ) (t : List ℕ) → rises_from s a t ≡ true → (x : ℕ) → In x t → order (bytes_in s a) (bytes_in s x) ≡ Less
unfolding rises_from
from_less s a [] h x x4 = elim x4 [ ]
from_less s a (b ∷ t) h x here = ascends_is s a b (and_both (ascends s a b) (rises_from s b t) h).0
from_less s a (b ∷ t) h x (there i) =
    let w = and_both (ascends s a b) (rises_from s b t) h in
    order_trans (bytes_in s a) (bytes_in s b) (bytes_in s x) (ascends_is s a b w.0) (from_less s b t w.1 x i)

from_rest : (s : List ℕ) (a : ℕ) (t : List ℕ) → rises_from s a t ≡ true → rises s t ≡ true
unfolding rises_from
from_rest s a [] h = refl
from_rest s a (b ∷ t) h = (and_both (ascends s a b) (rises_from s b t) h).1

same_bytes : (s : List ℕ) (x y : ℕ) → name_in s x ≡ name_in s y → bytes_in s x ≡ bytes_in s y
same_bytes s x y e = ap tail e
  where
    tail : List ℕ → List ℕ
    tail [] = []
    tail (b ∷ n) = n

not_less : {X : Type 0} (s : List ℕ) (x y : ℕ) → name_in s x ≡ name_in s y → order (bytes_in s x) (bytes_in s y) ≡ Less → X
not_less s x y e h =
    let z : Equal ≡ Less = sym (order_refl (bytes_in s x)) ∙ ap (order (bytes_in s x)) (same_bytes s x y e) ∙ h in
    clash cc

-- so no two of them are equal
rises_apart : (s es : List ℕ) → rises s es ≡ true → (x e : ℕ) → In x es → In e es → name_in s x ≡ name_in s e → x ≡ e
rises_apart s [] h x e x6 _ n = elim x6 [ ]
rises_apart s (a ∷ es) h x e here here n = refl
rises_apart s (a ∷ es) h x e here (there j) n = not_less s x e n (from_less s a es h e j)
rises_apart s (a ∷ es) h x e (there i) here n = not_less s e x (sym n) (from_less s a es h x i)
rises_apart s (a ∷ es) h x e (there i) (there j) n = rises_apart s es (from_rest s a es h) x e i j n

rises_none : (s es : List ℕ) → rises s es ≡ true → least s es ≡ 16777216
rises_none s es h = omega (
  arith,
  least_bound s es,
  least_over_law s es 16777216 (omega arith) λ e x i j f.
      let w = first_is s x e f in
      absurd (omega (arith, w.0, ap begin_in (rises_apart s es h x e j i w.1))),
)

-- ---- what is known when the entries es were noted

abbrev pub Noted : List ℕ → List ℕ → List ℕ → Notes → Type 0
Noted s es t (Few n) = (n ≤ length t) × (take n t ≡ es)
Noted s es t (Rising y) = (us : List ℕ) × (es ≡ us ++ (y ∷ [])) × (rises s es ≡ true)
Noted s es t Many = Unit {0}

pub noted_none : (s t : List ℕ) → Noted s [] t (Few 0)
noted_none s [] = (omega arith, refl)
noted_none s (x ∷ t) = (omega arith, refl)

pub noted_held : (s es t : List ℕ) (n : Notes) → Noted s es t n → held_in n ≤ length t
noted_held s es t (Few n) w = w.0
noted_held s es t (Rising y) w = omega arith
noted_held s es t Many w = omega arith

-- what stands behind the notes does not matter
pub noted_kept : (s es t t' : List ℕ) (n : Notes) → Noted s es t n → length t' ≡ length t → take (held_in n) t' ≡ take (held_in n) t → Noted s es t' n
noted_kept s es t t' (Few n) w l e = (omega (arith, w.0), e ∙ w.1)
noted_kept s es t t' (Rising y) w l e = w
noted_kept s es t t' Many w l e = w

pub added_length : (s t : List ℕ) (n : Notes) (x : ℕ) → length (added s t n x).table ≡ length t
added_length s t (Few n) x = go (ltb n (lesser 16 (length t)))
  where
    go : (b : Bool) → length (cond b (noting (Few (n + 1)) (set t n x)) (noting (risen (rises s (take n t ++ (x ∷ []))) x) t)).table ≡ length t
    go true = length-set t n x
    go false = refl
added_length s t (Rising y) x = refl
added_length s t Many x = refl

noted_risen : (s t us : List ℕ) (x : ℕ) (b : Bool) → rises s (us ++ (x ∷ [])) ≡ b → Noted s (us ++ (x ∷ [])) t (risen b x)
noted_risen s t us x true h = (us, refl, h)
noted_risen s t us x false h = tt

pub noted_more : (s es t : List ℕ) (n : Notes) (x : ℕ) → Noted s es t n → Noted s (es ++ (x ∷ [])) (added s t n x).table (added s t n x).notes
noted_more s es t (Few n) x w = go (ltb n (lesser 16 (length t))) refl
  where
    go : (b : Bool) → ltb n (lesser 16 (length t)) ≡ b
        → let o = cond b (noting (Few (n + 1)) (set t n x)) (noting (risen (rises s (take n t ++ (x ∷ []))) x) t) in Noted s (es ++ (x ∷ [])) o.table
        o.notes
    go true h =
        let l : n < length t = omega (arith, ltb-true n (lesser 16 (length t)) h, lesser_right 16 (length t)) in
        (omega (arith, length-set t n x), rw (add-one n, take-suc-set t n x l, w.1))
    go false h = rw w.1 (noted_risen s t es x (rises s (es ++ (x ∷ []))) refl)
noted_more s es t (Rising y) x w = rw w.1 (go (ascends s y x) refl)
  where
    go : (b : Bool) → ascends s y x ≡ b → Noted s ((w.0 ++ (y ∷ [])) ++ (x ∷ [])) t (risen b x)
    go true h = (w.0 ++ (y ∷ []), refl, rises_last s w.0 y x ∙ rw (← w.1, w.2, h))
    go false h = tt
noted_more s es t Many x w = tt

-- the end
pub noted_told : (o : Source) (s es t : List ℕ) (n : Notes) → Noted s es t n → entries_of o s ≡ es → (told o s t n).answer ≡ first_twin o s
unfolding first_twin searched
noted_told o s es t (Few n) w e = rw (w.1, ← e)
noted_told o s es t (Rising y) w e = rw e (sym (rises_none s es w.2))
noted_told o s es t Many w e = refl

pub told_length : (o : Source) (s t : List ℕ) (n : Notes) → length (told o s t n).table ≡ length t
unfolding searched
told_length o s t (Few n) = refl
told_length o s t (Rising y) = refl
told_length o s t Many = go (leb (length (entries_of o s)) (length t)) refl
  where
    by : (n : ℕ) → n ≤ length t → length (zeroed n t) ≡ length t
    by n l = length-append (replicate n 0) (drop n t) ∙ (let z : length (replicate n 0) ≡ n = length-replicate {A = ℕ} n 0 in omega
        (arith, z, length-drop n t))

    go : (b : Bool) → leb (length (entries_of o s)) (length t) ≡ b → length (zeroed (cond b (length (entries_of o s)) (length t)) t) ≡ length t
    go true e = by (length (entries_of o s)) (leb-true (length (entries_of o s)) (length t) e)
    go false e = by (length t) (omega arith)
