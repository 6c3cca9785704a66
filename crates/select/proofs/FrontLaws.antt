-- Each entry of a source begins behind the one before it. So a twin among the first of them is the first of all.
use Rattle.std.specs.Prelude.{Some, Option, None}
use Prim.Native.Nat.{ℕ, zero, suc, ◌+◌, ◌≤◌, ◌<◌}
use native.Mathlib.Omega.{arith}
use mathlib.Core.Path.{◌≡◌, refl, ◌∙◌}
use mathlib.Core.Bool.{Bool, true, false, cond}
use mathlib.Core.List.{List, [], ◌∷◌, ◌++◌}
use lib.ListN.{length}
use lib.Dec.{ltb, leb}
use borrow.Author.Tests.{le-leb, leb-true, leb-false}
use Rattle.entries.specs.Entry.{begin_in, entry_of}
use Rattle.entries.specs.Least.{is_first, least}
use Rattle.entries.specs.Among.{In, here, there}
use Rattle.entries.proofs.EntryLaws.{entry_begins}
use Rattle.entries.proofs.LeastLaws.{first_is, twin_is, least_bound, least_over_law, least_pair, least_more, least_found}
use Rattle.entries.proofs.Perms.{in_left}
use Rattle.select.specs.declared.Source.{Source}
use Rattle.select.specs.Source.{named_at, entries_after, entries_from, entries_of, first_twin}
use Rattle.select.proofs.HalfLaws.{none_in, in_first, in_either, in_right}
use Rattle.select.proofs.WalkLaws.{lead_of, named_on}
use Rattle.select.proofs.TwinLaws.{Ascends, ascends_less, ascends_in}
use Rattle.names.specs.declared.Name.{Name}

-- ---- a front part

ascends_apart : (m : ℕ) (xs ys : List ℕ) → Ascends m (xs ++ ys) → (x y : ℕ) → In x xs → In y ys → begin_in x < begin_in y
ascends_apart m [] ys a x y x5 j = elim x5 [ ]
ascends_apart m (z ∷ xs) ys a x y here j = let w = ascends_in (suc (begin_in x)) a.1 (in_right xs ys j) in omega arith
ascends_apart m (z ∷ xs) ys a x y (there i) j = ascends_apart (suc (begin_in z)) xs ys a.1 x y i j

module _ (s : List ℕ) (m : ℕ) (xs ys : List ℕ) (a : Ascends m (xs ++ ys)) (l : least s xs < 16777216) where
  pub front_least : least s xs ≡ least s (xs ++ ys)
  front_least =
      let u : least s (xs ++ ys) ≤ least s xs = least_more s xs (xs ++ ys) (λ e i. in_left xs ys i) in
      let v : least s xs ≤ least s (xs ++ ys) = least_over_law s (xs ++ ys) (least s xs) (least_bound s xs) over in
      omega arith
    where
      over : (e x : ℕ) → In e (xs ++ ys) → In x (xs ++ ys) → is_first s x e ≡ true → least s xs ≤ begin_in e
      over e x i j f =
          in_either e xs ys i
          (λ k. in_either x xs ys j (λ q. least_pair s xs e x k q f)
          (λ q. absurd (omega (arith, ascends_apart m xs ys a e x k q, (first_is s x e f).0))))
          (λ k. least_found s xs l (λ d q t p. omega (arith, ascends_apart m xs ys a d e q k)))

-- ---- the entries of a source

pub entries_ascend : (o : Source) (s : List ℕ) → length s < 16777216 → (k a : ℕ) → a ≤ length s → Ascends (lead_of o + a) (entries_from o s k a)
unfolding entries_from
entries_ascend o s short zero a i = tt
entries_ascend o s short (suc k) a i = go (named_at o a s) refl (λ n c. entries_ascend o s short k n c)
  where
    go : (y : Option Name) → named_at o a s ≡ y → ((n : ℕ) → n ≤ length s → Ascends (lead_of o + n) (entries_from o s k n))
        → Ascends (lead_of o + a) (entries_after s y (λ n. entries_from o s k n))
    go None h f = tt
    go (Some p) h f =
        let m = named_on o s a p i h in
        let g = entry_begins s p.begin p.end m.ordered (omega (arith, m.before, m.inside)) short in
        (rw g m.behind, rw g (ascends_less (lead_of o + p.next) (suc p.begin) (entries_from o s k p.next) (omega (arith, m.apart)) (f p.next m.inside)))

-- a part too long for entries has none that is not 0
entry_none : (s : List ℕ) (b e : ℕ) → 16777216 ≤ length s → entry_of s b e ≡ 0
unfolding entry_of
entry_none s b e long = rw (le-leb 16777216 (length s) long) (same (ltb e b) (ltb (length s) e))
  where
    same : (o p : Bool) → ◌≡◌ {A = ℕ} (cond o 0 (cond p 0 0)) 0
    same true p = refl
    same false true = refl
    same false false = refl

entries_none : (o : Source) (s : List ℕ) → 16777216 ≤ length s → (k a x : ℕ) → In x (entries_from o s k a) → x ≡ 0
unfolding entries_from
entries_none o s long zero a x i = none_in x [] i refl
entries_none o s long (suc k) a x i = go (named_at o a s) (λ n j. entries_none o s long k n x j) i
  where
    go : (y : Option Name) → ((n : ℕ) → In x (entries_from o s k n) → x ≡ 0) → In x (entries_after s y (λ n. entries_from o s k n)) → x ≡ 0
    go None f i = none_in x [] i refl
    go (Some p) f i = in_first x (entry_of s p.begin p.end) (entries_from o s k p.next) i (λ d. d ∙ entry_none s p.begin p.end long) (f p.next)

pub front_twin : (o : Source) (s xs ys : List ℕ) → entries_of o s ≡ xs ++ ys → least s xs < 16777216 → least s xs ≡ first_twin o s
unfolding first_twin
front_twin o s xs ys h l = go (leb 16777216 (length s)) refl
  where
    among : (e : ℕ) → In e xs → In e (entries_of o s)
    among e i = rw h (in_left xs ys i)

    go : (b : Bool) → leb 16777216 (length s) ≡ b → least s xs ≡ least s (entries_of o s)
    go true q = absurd (least_found s xs l λ e i t p. twin_is s xs e t λ x j f.
        omega (arith, (first_is s x e f).0, entries_none o s (leb-true 16777216 (length s) q) (length s) 0 e (among e i)))
    go false q =
        let w = entries_ascend o s (leb-false 16777216 (length s) q) (length s) 0 (omega arith) in
        rw h (front_least s (lead_of o + 0) xs ys (rw h at w) l)
