-- The first frame whose name its object has already, told by the entries of the names: where the least twin begins tells the frame.
use Prim.Native.Nat.{ℕ, zero, suc, ◌+◌, ◌≤◌, ◌<◌}
use native.Mathlib.Omega.{arith}
use mathlib.Core.Path.{◌≡◌, refl, sym, ap, ◌∙◌}
use mathlib.Core.Bool.{Bool, true, false, ◌||◌, cond}
use mathlib.Core.Option.{none, some}
use mathlib.Core.List.{List, [], ◌∷◌, ◌++◌, map}
use lib.ListN.{length, drop}
use lib.Dec.{ltb}
use borrow.Author.Tests.{le-leb, lt-leb, ltb-false}
use Rattle.number.proofs.Clash.{clash}
use Rattle.text.specs.Equal.{equal}
use Rattle.text.proofs.Laws.{equal_refl}
use Rattle.format.specs.Kinds.{any}
use Rattle.front.specs.Between.{between}
use Rattle.twins.specs.Own.{first_used}
use Rattle.passing.specs.FrameNames.{name_at}
use Rattle.passing.proofs.NamesLaws.{found_at}
use Rattle.entries.specs.Entry.{begin_in, bytes_in, name_in, entry_of}
use Rattle.entries.specs.Least.{is_twin, lesser, least_of, least}
use Rattle.entries.specs.Among.{In, here, there}
use Rattle.entries.proofs.EntryLaws.{entry_begins, entry_bytes, entry_same}
use Rattle.entries.proofs.LeastLaws.{named_same, first_is, is_first_law, twin_in, twin_is}
use Rattle.entries.proofs.Perms.{perm_middle, perm_in}
use Rattle.used.specs.Place.{place_from, frame_place}
use Rattle.used.proofs.Chains.{Chain, stop, link, Good, chain_good}
use Rattle.names.specs.declared.Name.{Name}
use Rattle.std.specs.Prelude.{Some}

-- ---- an entry among others

in_either : {X : Type 0} (e : ℕ) (xs ys : List ℕ) → In e (xs ++ ys) → (In e xs → X) → (In e ys → X) → X
in_either e [] ys i f g = g i
in_either e (x ∷ xs) ys here f g = f here
in_either e (x ∷ xs) ys (there i) f g = in_either e xs ys i (λ j. f (there j)) g

in_first : {X : Type 0} (e x : ℕ) (t : List ℕ) → In e (x ∷ t) → (e ≡ x → X) → (In e t → X) → X
in_first e x t here f g = f refl
in_first e x t (there i) f g = g i

nothing_in : {X : Type 0} (e : ℕ) (t : List ℕ) → In e t → t ≡ [] → X
nothing_in e t here h = clash cc
nothing_in e t (there i) h = clash cc

-- ---- two entries of equal bytes have one name

same_bytes : (s : List ℕ) (x y : ℕ) → name_in s x ≡ name_in s y → bytes_in s x ≡ bytes_in s y
same_bytes s x y e = ap tail e
  where
    tail : List ℕ → List ℕ
    tail [] = []
    tail (b ∷ n) = n

good_same : (s : List ℕ) (x y : ℕ) → length s < 16777216 → Good s x → Good s y → equal (bytes_in s y) (bytes_in s x) ≡ true → name_in s y ≡ name_in s x
good_same s x y short p q h =
    go p.begin p.end p.ordered p.inside p.is q.begin q.end q.ordered q.inside q.is
  where
    go : (b c : ℕ) → b ≤ c → c ≤ length s → x ≡ entry_of s b c → (d f : ℕ) → d ≤ f → f ≤ length s → y ≡ entry_of s d f → name_in s y ≡ name_in s x
    go b c l k z d f m g u =
        named_same s y x (rw (z, u) (entry_same s d f b c m g l k short ∙ rw (← entry_bytes s b c l k short, ← entry_bytes s d f m g short, ← z, ← u) h))

-- ---- a name among those of some entries

module _ (s : List ℕ) (n : List ℕ) where
  any_in : {X : Type 0} (us : List ℕ) → any (equal n) (map (λ x. bytes_in s x) us) ≡ true → ((x : ℕ) → In x us → equal n (bytes_in s x) ≡ true → X) → X
  any_in [] h f = clash cc
  any_in {X} (u ∷ us) h f = go (equal n (bytes_in s u)) refl h (λ i. any_in us i (λ x j q. f x (there j) q))
    where
      go : (o : Bool) → equal n (bytes_in s u) ≡ o → (o || any (equal n) (map (λ x. bytes_in s x) us)) ≡ true
          → (any (equal n) (map (λ x. bytes_in s x) us) ≡ true → X) → X
      go true q h k = f u here q
      go false q h k = k h

  in_any : (us : List ℕ) (x : ℕ) → In x us → equal n (bytes_in s x) ≡ true → any (equal n) (map (λ x. bytes_in s x) us) ≡ true
  in_any [] x x4 h = elim x4 [ ]
  in_any (u ∷ us) x here h = rw h
  in_any (u ∷ us) x (there i) h = go (equal n (bytes_in s u)) (in_any us x i h)
    where
      go : (o : Bool) → any (equal n) (map (λ x. bytes_in s x) us) ≡ true → (o || any (equal n) (map (λ x. bytes_in s x) us)) ≡ true
      go true q = refl
      go false q = q

both_ways : (a b : Bool) → (a ≡ true → b ≡ true) → (b ≡ true → a ≡ true) → a ≡ b
both_ways true b f g = sym (f refl)
both_ways false true f g = g refl
both_ways false false f g = refl

-- ---- the frames from a on, where those of the entries us stand before it: t are all

module _ (d : ℕ) (s : List ℕ) (short : length s < 16777216) (t : List ℕ) (good : (x : ℕ) → In x t → Good s x) where
  record Before (a : ℕ) (us es : List ℕ) : Type 0 where
    pub inside : (x : ℕ) → In x us → In x t
    pub back : (x : ℕ) → In x us → begin_in x ≤ a
    pub all : (x : ℕ) → In x t → In x (us ++ es)
    pub rest : (x : ℕ) → In x es → In x t

  abbrev names_in : List ℕ → List (List ℕ)
  names_in us = map (λ x. bytes_in s x) us

  module _ {a z : ℕ} {name : Name} {gs : List (List ℕ × List ℕ)} {es : List ℕ} (us : List ℕ) (l : a ≤ length s) (h : name_at d a s ≡ Some name)
      (c : Chain d s name.next gs es z)
      (w : Before a us (entry_of s name.begin name.end ∷ es)) where
    record Stands : Type 0 where
      pub behind : a < name.begin
      pub before : name.begin ≤ name.next
      pub inside : name.next ≤ length s
      pub onward : a < name.next
      pub begin : begin_in (entry_of s name.begin name.end) ≡ name.begin
      pub bytes : bytes_in s (entry_of s name.begin name.end) ≡ between name.begin name.end s

    stands : Stands
    stands =
        let f = found_at d a s l name h in
        let i : name.end ≤ length s = omega (arith, f.before, f.inside) in
        record {
          behind = f.begins;
          before = omega (arith, f.ordered, f.before);
          inside = f.inside;
          onward = f.onward;
          begin = entry_begins s name.begin name.end f.ordered i short;
          bytes = entry_bytes s name.begin name.end f.ordered i short;
        }

    before_more : Before name.next (entry_of s name.begin name.end ∷ us) es
    before_more =
        let p = stands in
        record {
          inside = λ x i. in_first x (entry_of s name.begin name.end) us i (λ q. rw q (w.rest (entry_of s name.begin name.end) here)) (λ j. w.inside x j);
          back = λ x i. in_first x (entry_of s name.begin name.end) us i (λ q. let u : begin_in x ≡ name.begin = ap begin_in q ∙ p.begin in omega (arith, p.before))
              (λ j. omega (arith, w.back x j, p.onward));
          all = λ x i. perm_in (perm_middle (entry_of s name.begin name.end) us es) (w.all x i);
          rest = λ x i. w.rest x (there i);
        }

    -- its name was used exactly if its entry is a twin
    used_twin : any (equal (between name.begin name.end s)) (names_in us) ≡ is_twin s t (entry_of s name.begin name.end)
    used_twin = both_ways (any (equal (between name.begin name.end s)) (names_in us)) (is_twin s t (entry_of s name.begin name.end)) to from
      where
        p : Stands
        p = stands

        to : any (equal (between name.begin name.end s)) (names_in us) ≡ true → is_twin s t (entry_of s name.begin name.end) ≡ true
        to q = any_in s (between name.begin name.end s) us q λ x i k.
            let m : equal (bytes_in s (entry_of s name.begin name.end)) (bytes_in s x) ≡ true = rw p.bytes k in
            let v = good_same s x (entry_of s name.begin name.end) short (good x (w.inside x i)) (good (entry_of s name.begin name.end) (w.rest (entry_of s name.begin name.end) here)) m in
            twin_in s t x (entry_of s name.begin name.end) (w.inside x i) (is_first_law s x (entry_of s name.begin name.end) (omega (arith, w.back x i, p.behind, p.begin)) (sym v))

        from : is_twin s t (entry_of s name.begin name.end) ≡ true → any (equal (between name.begin name.end s)) (names_in us) ≡ true
        from q = twin_is s t (entry_of s name.begin name.end) q λ x i k.
            let v = first_is s x (entry_of s name.begin name.end) k in
            in_either x us (entry_of s name.begin name.end ∷ es) (w.all x i)
            (λ j. in_any s (between name.begin name.end s) us x j (rw (← p.bytes, same_bytes s x (entry_of s name.begin name.end) v.1) (equal_refl (bytes_in s (entry_of s name.begin name.end)))))
            (λ j. in_first x (entry_of s name.begin name.end) es j
            (λ r. absurd (let u : begin_in x ≡ begin_in (entry_of s name.begin name.end) = ap begin_in r in omega (arith, v.0)))
            (λ r. absurd (omega (arith, v.0, p.begin, p.before, (chain_good d s short p.inside c x r).1))))

  -- ---- what is told of them

  data Verdict (a : ℕ) (gs : List (List ℕ × List ℕ)) (es : List ℕ) (used : List (List ℕ)) : Type 0 where
    clear : first_used used gs ≡ none → least_of s t es ≡ 16777216 → Verdict a gs es used
    twin : (q : ℕ) → q ≤ length s → first_used used gs ≡ some (drop q s) → a < least_of s t es → least_of s t es < 16777216
        → ((k : ℕ) → length s ≤ a + k → place_from d s (least_of s t es) k a ≡ q) → Verdict a gs es used

  lesser_first : (b m : ℕ) → b ≤ m → lesser b m ≡ b
  lesser_first b m l = go (ltb b m) refl
    where
      go : (o : Bool) → ltb b m ≡ o → cond o b m ≡ b
      go true e = refl
      go false e = omega (arith, ltb-false b m e)

  place_at_law : (a : ℕ) (name : Name) (g k : ℕ) → name_at d a s ≡ Some name → g ≤ name.begin → place_from d s g k a ≡ a
  unfolding place_from
  place_at_law a name g zero h l = refl
  place_at_law a name g (suc k) h l = rw (h, le-leb g name.begin l)

  place_behind : (a : ℕ) (name : Name) (g k : ℕ) → name_at d a s ≡ Some name → name.begin < g → place_from d s g (suc k) a ≡ place_from d s g k name.next
  unfolding place_from
  place_behind a name g k h l = rw (h, lt-leb g name.begin l)

  module _ (a : ℕ) (name : Name) (gs : List (List ℕ × List ℕ)) (es : List ℕ) (used : List (List ℕ)) (h : name_at d a s ≡ Some name)
      (behind : a < name.begin) (before : name.begin ≤ name.next) (inside : name.next ≤ length s) (onward : a < name.next) (begin : begin_in (entry_of s name.begin name.end) ≡ name.begin) where
    abbrev Behind : Type 0
    Behind = Verdict name.next gs es (between name.begin name.end s ∷ used)

    abbrev Here : Type 0
    Here = Verdict a ((drop a s, between name.begin name.end s) ∷ gs) (entry_of s name.begin name.end ∷ es) used

    later : Behind → name.begin ≤ least_of s t es
    later (clear i j) = omega (arith, begin)
    later (twin q l i j k m) = omega arith

    verdict_twin : is_twin s t (entry_of s name.begin name.end) ≡ true → any (equal (between name.begin name.end s)) used ≡ true → name.begin ≤ least_of s t es → Here
    unfolding first_used least_of
    verdict_twin i u m =
        let g : least_of s t (entry_of s name.begin name.end ∷ es) ≡ name.begin = rw (i, begin) (lesser_first name.begin (least_of s t es) m) in
        twin a (omega arith) (rw u) (omega arith) (omega (arith, begin)) (λ k j. place_at_law a name (least_of s t (entry_of s name.begin name.end ∷ es)) k h (omega arith))

    verdict_other : is_twin s t (entry_of s name.begin name.end) ≡ false → any (equal (between name.begin name.end s)) used ≡ false → Behind → Here
    unfolding first_used least_of
    verdict_other i u (clear j m) = clear (rw u j) (rw i m)
    verdict_other i u (twin q l j m r f) =
        let g : least_of s t (entry_of s name.begin name.end ∷ es) ≡ least_of s t es = rw i in
        twin q l (rw u j) (omega arith) (omega arith) (λ k v. on k v g)
      where
        on : (k : ℕ) → length s ≤ a + k → least_of s t (entry_of s name.begin name.end ∷ es) ≡ least_of s t es → place_from d s (least_of s t (entry_of s name.begin name.end ∷ es)) k a ≡ q
        on zero v g = absurd (omega arith)
        on (suc k) v g = rw g (place_behind a name (least_of s t es) k h (omega arith) ∙ f k (omega arith))

  verdict : (a : ℕ) (us : List ℕ) {z : ℕ} {gs : List (List ℕ × List ℕ)} {es : List ℕ} → a ≤ length s → Chain d s a gs es z → Before a us es
      → Verdict a gs es (names_in us)
  unfolding first_used least_of
  verdict a us l stop w = clear refl refl
  verdict a us l (link {p = name} {gs = gs} {es = es} h c) w =
      let p = stands us l h c w in
      let v : Verdict name.next gs es (between name.begin name.end s ∷ names_in us) =
      ap_names p.bytes (verdict name.next (entry_of s name.begin name.end ∷ us) p.inside c (before_more us l h c w)) in
      go (is_twin s t (entry_of s name.begin name.end)) refl (used_twin us l h c w) v p.behind p.before p.inside p.onward p.begin
    where
      ap_names : {m k : List ℕ} {ns : List (List ℕ)} → m ≡ k → Verdict name.next gs es (m ∷ ns) → Verdict name.next gs es (k ∷ ns)
      ap_names {ns = ns} q v = rw (← q) v

      go : (o : Bool) → is_twin s t (entry_of s name.begin name.end) ≡ o → any (equal (between name.begin name.end s)) (names_in us) ≡ is_twin s t (entry_of s name.begin name.end)
          → Verdict name.next gs es (between name.begin name.end s ∷ names_in us)
          → a < name.begin → name.begin ≤ name.next → name.next ≤ length s → a < name.next → begin_in (entry_of s name.begin name.end) ≡ name.begin → Verdict a ((drop a s, between name.begin name.end s) ∷ gs) (entry_of s name.begin name.end ∷ es) (names_in us)
      go true i u v x₁ x₂ x₃ x₄ x₅ =
          verdict_twin a name gs es (names_in us) h x₁ x₂ x₃ x₄ x₅ i (u ∙ i) (later a name gs es (names_in us) h x₁ x₂ x₃ x₄ x₅ v)
      go false i u v x₁ x₂ x₃ x₄ x₅ = verdict_other a name gs es (names_in us) h x₁ x₂ x₃ x₄ x₅ i (u ∙ i) v

-- ---- all frames of the object

module _ (d : ℕ) (s : List ℕ) (short : length s < 16777216) {z : ℕ} {gs : List (List ℕ × List ℕ)} {es : List ℕ} (c : Chain d s 0 gs es z) where
  whole : Verdict d s short es (λ x i. (chain_good d s short (omega arith) c x i).0) 0 gs es []
  whole =
      verdict d s short es (λ x i. (chain_good d s short (omega arith) c x i).0) 0 [] (omega arith) c
      (record { inside = λ x i. nothing_in x [] i refl; back = λ x i. nothing_in x [] i refl; all = λ x i. i; rest = λ x i. i })

  pub none_used : 16777216 ≤ least s es → first_used [] gs ≡ none
  none_used l = go whole
    where
      go : Verdict d s short es (λ x i. (chain_good d s short (omega arith) c x i).0) 0 gs es [] → first_used [] gs ≡ none
      go (clear i j) = i
      go (twin q m i j k f) = absurd (omega arith)

  -- the frame whose name begins where the least twin begins
  pub used_at_law : least s es < 16777216 → (first_used [] gs ≡ some (drop (frame_place d s (least s es)) s)) × (frame_place d s (least s es) ≤ length s)
  used_at_law l = go whole
    where
      go : Verdict d s short es (λ x i. (chain_good d s short (omega arith) c x i).0) 0 gs es []
          → (first_used [] gs ≡ some (drop (frame_place d s (least s es)) s)) × (frame_place d s (least s es) ≤ length s)
      go (clear i j) = absurd (omega arith)
      go (twin q m i j k f) = let v : frame_place d s (least s es) ≡ q = f (length s) (omega arith) in rw v (i, m)
