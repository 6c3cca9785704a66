-- The lower half of a sorted table in which every name stands once: what is up to its last name.
use Prim.Native.Nat.{ℕ, suc, ◌<◌}
use mathlib.Core.Path.{◌≡◌, refl, sym, ap, ◌∙◌}
use mathlib.Core.Bool.{true}
use mathlib.Core.List.{List, [], ◌∷◌, ◌++◌, append_assoc}
use lib.ListN.{length, take, drop, get_or}
use lib.Seq.{split_at, take-suc}
use Rattle.std.proofs.Common.{Some}
use Rattle.number.proofs.Clash.{clash}
use Rattle.entries.specs.Entry.{name_in}
use Rattle.entries.specs.Among.{In, here, there}
use Rattle.order.specs.Sorted.{Below, Sorted}
use Rattle.compare.proofs.OrderLaws.{Upto, less, same, upto_is, order_not, order_trans}
use Rattle.order.proofs.SortedLaws.{below_in}
use Rattle.entries.proofs.Perms.{in_left, in_last, in_cases}
use Rattle.order.proofs.NeighbourLaws.{sorted_last, sorted_left}
use Rattle.select.specs.Range.{up_to}
use Rattle.select.proofs.RangeLaws.{up_cases, up_less, up_same}

pub in_either : {X : Type 0} (e : ℕ) (xs ys : List ℕ) → In e (xs ++ ys) → (In e xs → X) → (In e ys → X) → X
in_either e [] ys i f g = g i
in_either e (x ∷ xs) ys here f g = f here
in_either e (x ∷ xs) ys (there i) f g = in_either e xs ys i (λ j. f (there j)) g

pub none_in : {X : Type 0} (e : ℕ) (t : List ℕ) → In e t → t ≡ [] → X
none_in e t here h = clash cc
none_in e t (there i) h = clash cc

pub in_first : {X : Type 0} (e x : ℕ) (t : List ℕ) → In e (x ∷ t) → (e ≡ x → X) → (In e t → X) → X
in_first e x t here f g = f refl
in_first e x t (there i) f g = g i

pub in_right : {e : ℕ} (xs ys : List ℕ) → In e ys → In e (xs ++ ys)
in_right [] ys i = i
in_right (x ∷ xs) ys i = there (in_right xs ys i)

pub sorted_right : (s xs ys : List ℕ) → Sorted s (xs ++ ys) → Sorted s ys
sorted_right s [] ys h = h
sorted_right s (x ∷ xs) ys h = sorted_right s xs ys h.1

module _ (s os : List ℕ) (sorted : Sorted s os) (once : (x y : ℕ) → In x os → In y os → name_in s x ≡ name_in s y → x ≡ y) (h : ℕ) (l : h < length os) where
  abbrev y : ℕ
  y = get_or os h 0

  halves : os ≡ take h os ++ (y ∷ drop (suc h) os)
  halves = split_at os h 0 l

  front : take (suc h) os ≡ take h os ++ (y ∷ [])
  front = take-suc os h 0 l

  both : os ≡ (take h os ++ (y ∷ [])) ++ drop (suc h) os
  both = halves ∙ sym (append_assoc (take h os) (y ∷ []) (drop (suc h) os))

  ends : Sorted s (take h os ++ (y ∷ []))
  ends = sorted_left s (take h os ++ (y ∷ [])) (drop (suc h) os) (rw both at sorted)

  last_in : In y (take (suc h) os)
  last_in = rw front (in_last (take h os) y)

  in_whole : (e : ℕ) → In e (take h os ++ (y ∷ [])) → In e os
  in_whole e j = rw both (in_left (take h os ++ (y ∷ [])) (drop (suc h) os) j)

  pub half_last : In y os
  half_last = in_whole y (in_last (take h os) y)

  up_of : (e : ℕ) → Upto s e y → up_to s (Some y) e ≡ true
  up_of e (less k) = up_less s y e k
  up_of e (same d k) = up_same s y e d

  pub half_there : (e : ℕ) → In e (take (suc h) os) → In e os × (up_to s (Some y) e ≡ true)
  half_there e i =
      let j : In e (take h os ++ (y ∷ [])) = rw front at i in (
        in_whole e j,
        in_cases e (take h os) y j (λ k. up_of e (sorted_last s (take h os) y ends e k)) (λ d. up_same s y e (ap (name_in s) d)),
      )

  pub half_all : (e : ℕ) → In e os → up_to s (Some y) e ≡ true → In e (take (suc h) os)
  half_all e i u =
      let j : In e (take h os ++ (y ∷ drop (suc h) os)) = rw halves at i in
      in_either e (take h os) (y ∷ drop (suc h) os) j (λ k. rw front (in_left (take h os) (y ∷ []) k)) behind
    where
      under : Below s y (drop (suc h) os)
      under = (sorted_right s (take h os) (y ∷ drop (suc h) os) (rw halves at sorted)).0

      one : name_in s e ≡ name_in s y → In e (take (suc h) os)
      one d = let z : e ≡ y = once e y i half_last d in rw z last_in

      across : Upto s y e → In e (take (suc h) os)
      across (same d k) = one (sym d)
      across (less k) =
          up_cases s y e u
          (λ q. order_not (name_in s y) (order_trans (name_in s y) (name_in s e) (name_in s y) k q))
          one

      behind : In e (y ∷ drop (suc h) os) → In e (take (suc h) os)
      behind j = in_first e y (drop (suc h) os) j (λ z. one (ap (name_in s) z)) (λ k. across (upto_is s y e (below_in s y under k)))
