-- In one object there is a twin exactly if two of its names are byte-equal: the validator's test.
use Prim.Native.Nat.{ℕ}
use mathlib.Core.Path.{◌≡◌, refl, sym, ap, ◌∙◌}
use mathlib.Core.Bool.{Bool, true, false, ◌||◌, cond}
use mathlib.Core.Option.{some}
use mathlib.Core.List.{List, [], ◌∷◌}
use borrow.Author.Tests.{eq-eqb}
use Rattle.number.specs.BigEndian.{All}
use Rattle.text.specs.Equal.{equal}
use Rattle.text.proofs.Laws.{equal_refl, equal_is}
use Rattle.format.specs.Kinds.{any}
use Rattle.format.specs.Names.{twins}
use Rattle.twins.specs.Events.{Event, is_of, first_twin}
use Rattle.twins.specs.Some.{is_some, names_of}

equal_sym : (s t : List ℕ) → equal s t ≡ equal t s
equal_sym s t = go (equal s t) refl (equal t s) refl
  where
    go : (x : Bool) → equal s t ≡ x → (y : Bool) → equal t s ≡ y → x ≡ y
    go true p true q = refl
    go false p false q = refl
    go true p false q = sym (equal_refl t) ∙ ap (equal t) (sym (equal_is s t p)) ∙ q
    go false p true q = sym p ∙ ap (equal s) (equal_is t s q) ∙ equal_refl s

-- one of the names ns was seen
abbrev meets : List (List ℕ) → List (List ℕ) → Bool
meets seen ns = any (λ n. any (equal n) seen) ns

any_own : (k : ℕ) (n : List ℕ) (seen : List Event) → All (λ e. e.object ≡ k) seen → any (is_of k n) seen ≡ any (equal n) (names_of seen)
any_own k n [] h = refl
any_own k n (e ∷ seen) h = rw (h.0, any_own k n seen h.1, eq-eqb k k refl)

or_mix : (a b c d : Bool) → ((a || b) || (c || d)) ≡ ((a || c) || (b || d))
or_mix true b c d = refl
or_mix false true true d = refl
or_mix false true false d = refl
or_mix false false c d = refl

meets_more : (n : List ℕ) (seen ns : List (List ℕ)) → meets (n ∷ seen) ns ≡ (any (equal n) ns || meets seen ns)
meets_more n seen [] = refl
meets_more n seen (m ∷ ns) = rw (equal_sym m n, meets_more n seen ns) (or_mix (equal n m) (any (equal m) seen) (any (equal n) ns) (meets seen ns))

meets_none : (ns : List (List ℕ)) → meets [] ns ≡ false
meets_none [] = refl
meets_none (n ∷ ns) = meets_none ns

or_true : (a : Bool) → true ≡ (a || true)
or_true true = refl
or_true false = refl

or_false : (a : Bool) → (a || false) ≡ a
or_false true = refl
or_false false = refl

or_turn : (a b c : Bool) → (b || (a || c)) ≡ ((a || b) || c)
or_turn true true c = refl
or_turn true false c = refl
or_turn false b c = refl

some_by : (k : ℕ) (seen es : List Event) → All (λ e. e.object ≡ k) seen → All (λ e. e.object ≡ k) es
    → is_some (first_twin seen es) ≡ (twins (names_of es) || meets (names_of seen) (names_of es))
unfolding first_twin twins
some_by k seen [] h g = refl
some_by k seen (e ∷ es) h g =
    let q : any (is_of e.object n) seen ≡ any (equal n) (names_of seen) = ap (λ j. any (is_of j n) seen) g.0 ∙ any_own k n seen h in
    rw q (at (any (equal n) (names_of seen)) (some_by k (e ∷ seen) es (g.0, h) g.1))
  where
    n : List ℕ
    n = e.name

    a : Bool
    a = any (equal n) (names_of es)

    b : Bool
    b = twins (names_of es)

    c : Bool
    c = meets (names_of seen) (names_of es)

    at : (x : Bool) → is_some (first_twin (e ∷ seen) es) ≡ (b || meets (n ∷ names_of seen) (names_of es))
        → is_some (cond x (some e.from) (first_twin (e ∷ seen) es)) ≡ ((a || b) || (x || c))
    at true i = or_true (a || b)
    at false i = i ∙ rw (meets_more n (names_of seen) (names_of es)) (or_turn a b c)

pub twin_some : (k : ℕ) (es : List Event) → All (λ e. e.object ≡ k) es → is_some (first_twin [] es) ≡ twins (names_of es)
twin_some k es h = some_by k [] es tt h ∙ rw (meets_none (names_of es)) (or_false (twins (names_of es)))
