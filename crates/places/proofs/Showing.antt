-- The calls show what the reader reads, at every place, by levels; and so from the top place on.
use Rattle.std.specs.Prelude.{Ok, Option, None}
use Prim.Native.Nat.{ℕ, zero, suc, ◌+◌, ◌-◌, ◌≤◌}
use native.Mathlib.Omega.{arith}
use mathlib.Core.Path.{◌≡◌, refl, sym, ap, ◌∙◌, subst}
use mathlib.Core.Bool.{◌&&◌}
use mathlib.Core.List.{List, [], ◌∷◌, ◌++◌, map}
use lib.ListN.{length, length-append}
use lib.Seq.{slice, length-slice}
use borrow.Author.Tests.{le-ltb}
use Rattle.number.specs.BigEndian.{All}
use Rattle.format.specs.declared.Kind.{Kind}
use Rattle.format.specs.declared.Form.{Form}
use Rattle.format.specs.declared.Form.TheVariants as Fo
use Rattle.places.specs.declared.Place.{Place}
use Rattle.format.specs.Limits.{depth_limit, length_limit}
use Rattle.format.specs.Kinds.{is_uniform, is_uniform_array}
use Rattle.format.specs.Names.{twins}
use Rattle.format.specs.declared.Flaw.{Flaw}
use Rattle.format.specs.declared.Flaw.TheVariants.{Twin, NotUniform}
use Rattle.format.specs.Parse.{got, raise, many, fill}
use Rattle.format.specs.Tree.{Node, atom, array, object}
use Rattle.format.specs.Payload.{payload, Head, value, fields_in, items_in, front, head}
use Rattle.format.specs.Reader.{Standing, Named, Layout, kinds_in, names_in, is_typed, contents, read_node, read}
use Rattle.places.specs.Places.{check, checked, meet, top, from, step_in, step, lookup}
use Rattle.places.specs.Contents.{contents_start}
use Rattle.places.specs.Values.{other}
use Rattle.places.specs.Show.{Answered, ShownFields, unnamed, ShownNode, Shown}
use Rattle.format.proofs.Lists.{append_nil}
use Rattle.format.proofs.Back.{never}
use Rattle.format.proofs.Local.{bind_got, raise_got}
use Rattle.format.proofs.HeadParts.{Full, Body, head_body}
use Rattle.places.proofs.Parts.{Part, part_all, part_to, part_is, part_left, part_right, part_slice}
use Rattle.places.proofs.FieldBytes.{Unnamed, front_unnamed, Sharing, front_sharing}
use Rattle.places.proofs.Containers.{Holds, Contained, head_contained}
use Rattle.places.proofs.LeafShown.{leaf_viewed, leaf_answered, fields_answered, items_answered}
use Rattle.places.proofs.Runs.{Run, run_many, many_counts, run_fill}
use Rattle.places.proofs.ReadPlaces.{ReadAt, found, viewed, field_met}
use Rattle.places.proofs.Steps.{Read, walk, walk_few, look}

-- ---- fields as they are read

-- with the kind that their form shares, and, but for an object's fields, with no name
read_shares : (d : ℕ) (f : Form) (r : List ℕ) {x : Named (Standing (Layout d))} {gs : List Flaw} {q : List ℕ} → read d f r ≡ got x gs q → Sharing f x.1.0
unfolding read
read_shares zero f r h = never h
read_shares (suc d) f r {x} h = bind_got (front f r) _ h λ y es q gs i k _. bind_got (read_node (read d) y.1 q) _ k λ t es' u gs' i' k' _.
    let z : (y.0, (y.1, t)) ≡ x = cc in
    subst (λ (v : Named (Standing (Layout (suc d)))). Sharing f v.1.0) z (front_sharing f r i)

read_unnamed : (d : ℕ) (f : Form) (r : List ℕ) {x : Named (Standing (Layout d))} {gs : List Flaw} {q : List ℕ} → Unnamed f
    → read d f r ≡ got x gs q → x.0 ≡ []
unfolding read
read_unnamed zero f r o h = never h
read_unnamed (suc d) f r {x} o h = bind_got (front f r) _ h λ y es q gs i k _. bind_got (read_node (read d) y.1 q) _ k λ t es' u gs' i' k' _.
    let z : x ≡ (y.0, (y.1, t)) = cc in
    ap (λ (v : Named (Standing (Layout (suc d)))). v.0) z ∙ front_unnamed f r o i

run_shares : (d : ℕ) (f : Form) (r : List ℕ) (xs : List (Named (Standing (Layout d)))) → Run (read d f) r xs → All (Sharing f) (kinds_in xs)
run_shares d f r [] run = tt
run_shares d f r (x ∷ xs) run = (read_shares d f r run.2, run_shares d f run.1 xs run.3)

items_unnamed : (d : ℕ) (f : Form) → Unnamed f → (r : List ℕ) (xs : List (Named (Standing (Layout d)))) → Run (read d f) r xs
    → map unnamed (map (λ x. x.1) xs) ≡ xs
items_unnamed d f o r [] run = refl
items_unnamed d f o r (x ∷ xs) run = rw (items_unnamed d f o run.1 xs run.3) (ap (λ (n : List ℕ). (n, x.1) ∷ xs) (sym (read_unnamed d f r o run.2)))

-- ---- where the contents begin

fields_start : (s : List ℕ) (c : Place) (f : Form) (b : List ℕ) (fs : List Flaw) (r : List ℕ) → check s c ≡ got (fields_in f b) fs r
    → contents_start s c ≡ c.end - length b
unfolding contents_start
fields_start s c f b fs r e = rw e

items_start : (s : List ℕ) (c : Place) (f : Form) (n : ℕ) (b : List ℕ) (fs : List Flaw) (r : List ℕ) → check s c ≡ got (items_in f n b) fs r
    → contents_start s c ≡ c.end - length b
unfolding contents_start
items_start s c f n b fs r e = rw e

-- ---- a field shown

shown_node : (d : ℕ) (s : List ℕ) (c : Place) (x : Standing (Node (Standing (Layout d)))) → length s ≤ length_limit
    → ((p : Place) (y : Standing (Layout d)) → Read d s p y → Shown d s p y) → ReadAt d s c x
    → ShownNode (Shown d s) s x.0 c x.1
unfolding step lookup
shown_node d s c x m rec i =
    go i.above x.1 i.body (found m i) (head_body x.0 i.bytes i.header) (head_contained x.0 i.bytes i.header) i.header
  where
    shown_fields : (f : Form) (b : List ℕ) (xs : List (Named (Standing (Layout d)))) (Counted : List Kind → Type 0)
        → ((l : Option Place) → step s c l ≡ step_in s c f (c.end - length b) (from (c.end - length b) l))
        → contents_start s c ≡ c.end - length b → Full f → Holds x.0 i.bytes f b [] Counted → Counted (kinds_in xs) → Answered other s c
        → Run (read d f) b xs → ShownFields (Shown d s) s x.0 c xs
    shown_fields f b xs Counted ok st full k n a run =
        let e : i.bytes ≡ k.opening ++ b = rw (append_nil b) at k.splits in
        let lw : length i.bytes ≡ length k.opening + length b = simp length-append at (ap length e) in
        let at = c.end - length b in
        let pb : Part s at b = part_to (part_right k.opening b (part_is i.there e)) (omega (arith, i.ends)) in
        let po : slice c.start at s ≡ k.opening = part_slice at k.opening (part_left k.opening b (part_is i.there e)) (omega (arith, i.ends)) in
        let lb : c.end - at ≡ length b = omega (arith, i.ends) in
        let t = walk s c (payload x.0) f b full k.stands ok d rec None at b xs i.levels run pb (omega (arith, i.ends)) (omega arith) refl in
        record {
          places = t.0;
          contents = at;
          starts = st;
          inside = omega (arith, i.ends);
          opens = rw (po, lb) (k.opens (kinds_in xs) n (run_shares d f b xs run));
          walk = t.1;
          answered = a;
        }

    go : (h : Head) (t : Node (Standing (Layout d))) → contents (read d) h ≡ got t i.body_flaws [] → check s c ≡ got h i.above_flaws []
        → Body i.bytes h [] → Contained x.0 i.bytes h [] → head x.0 i.bytes ≡ got h i.above_flaws [] → ShownNode (Shown d s) s x.0 c t
    go (value v) t e ok o n h =
        let z : atom v ≡ t = cc in
        subst (ShownNode (Shown d s) s x.0 c) z (record {
          viewed = rw (viewed m i) (leaf_viewed x.0 i.bytes v i.above_flaws h);
          answered = leaf_answered s c i.above_flaws v ok;
          no_step = λ l. rw ok;
          no_lookup = λ m. rw ok;
        })
    go (items_in f n b) t e ok o k h =
        bind_got (many (read d f) n b) _ e λ xs es q gs j l _.
        raise_got (is_typed f && is_uniform_array (kinds_in xs)) NotUniform (got (array (map (λ x. x.1) xs)) [] q) l λ _ l'.
        let z : array (map (λ x. x.1) xs) ≡ t = cc in
        let y : q ≡ [] = cc in
        let run = run_many (read d f) n b xs es (rw y at j) in
        let w = shown_fields f b xs (λ ks. length ks ≡ n) (λ l. rw ok) (items_start s c f n b i.above_flaws [] ok) o.1 k.1
        (many_counts (λ x. x.1.0) (read d f) n b j) (items_answered s c i.above_flaws f n b ok) run in
        subst (ShownNode (Shown d s) s x.0 c) z (record {
          is_array = k.0;
          items = subst (ShownFields (Shown d s) s x.0 c) (sym (items_unnamed d f k.2 b xs run)) w;
          no_lookup = λ m. rw ok;
        })
    go (fields_in f b) t e ok o k h =
        bind_got (fill (read d f) (length b) b) _ e λ xs es q gs j l _.
        raise_got (is_typed f && is_uniform (kinds_in xs)) NotUniform (raise (twins (names_in xs)) Twin (got (object xs) [] q)) l λ _ l'.
        raise_got (twins (names_in xs)) Twin (got (object xs) [] q) l' λ _ l''.
        let z : object xs ≡ t = cc in
        let w = shown_fields f b xs (λ ks. Unit {0}) (λ l. rw ok) (fields_start s c f b i.above_flaws [] ok) o.1 k.1 tt
        (fields_answered s c i.above_flaws f b ok) (run_fill (read d f) (length b) b xs es q j) in
        let few = walk_few (Shown d s) s c (payload x.0) w.contents None w.places xs w.walk in
        subst (ShownNode (Shown d s) s x.0 c) z (record {
          is_object = k.0;
          fields = w;
          looked_up = λ m. rw ok (look (Shown d s) s c (payload x.0) m w.contents w.places xs (suc c.end) None (omega arith) w.walk);
        })

no_fault : (d : ℕ) (s : List ℕ) (c : Place) (x : Standing (Node (Standing (Layout d)))) → length s ≤ length_limit → ReadAt d s c x → checked s c ≡ Ok tt
unfolding checked
no_fault d s c x m i = rw (found m i)

shown : (d : ℕ) (s : List ℕ) (c : Place) (x : Standing (Layout d)) → length s ≤ length_limit → Read d s c x → Shown d s c x
shown zero s c x m i = i
shown (suc d) s c x m i = record { kind = i.coded; no_fault = no_fault d s c x m i; node = shown_node d s c x m (λ p y j. shown d s p y m j) i }

-- what is read from the top is shown from the top place on
pub shown_top : (s : List ℕ) (x : Named (Standing (Layout depth_limit))) (fs : List Flaw) (r : List ℕ) → length s ≤ length_limit
    → read depth_limit Fo.Top s ≡ got x fs r
    → (p : Place) × (top s ≡ Ok p) × (p.start ≡ 1) × (p.end + length r ≡ length s) × (p.depth ≡ 1) × Shown depth_limit s p x.1 × (x.0 ≡ [])
unfolding read top meet
shown_top s x fs r m h =
    let i = field_met 31 s 1 (length s) Fo.Top 0 s x fs r tt (part_all s) (omega arith) (omega arith) (omega arith) h in
    let e = read_unnamed depth_limit Fo.Top s tt h in
    let n : length (slice 0 i.name_start s) ≡ i.name_start - 0 =
    length-slice 0 i.name_start s (omega (arith, i.then_name, i.then_payload, i.left)) in
    let l : length (slice 0 i.name_start s) ≡ 1 = ap length i.before in (
      i.place,
      rw (le-ltb length_limit (length s) m, i.meets),
      omega (arith, ap length e, i.name_is, i.then_name),
      i.left,
      i.deeper,
      shown depth_limit s i.place x.1 m i.good,
      e,
    )
