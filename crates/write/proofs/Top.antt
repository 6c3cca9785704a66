-- The whole writer, by cases: what the first pass settled, and what the second one makes of it.
use Rattle.std.specs.Prelude.{Result, Ok, Err}
use Prim.Native.Nat.{ℕ, ◌+◌, ◌-◌, ◌≤◌, ◌<◌}
use native.Mathlib.Omega.{arith}
use native.Mathlib.Nat.{zero-add}
use mathlib.Core.Path.{◌≡◌, refl, sym, ap, ◌∙◌}
use mathlib.Core.Bool.{Bool, true, false, ◌||◌, cond}
use mathlib.Core.Option.{none}
use mathlib.Core.List.{List, [], ◌∷◌, ◌++◌}
use lib.ListN.{length, drop, set, length-set, length-append, length-replicate}
use lib.Seq.{sets, drop-append_seam}
use lib.Dec.{eqb, ltb}
use borrow.Author.Tests.{ltb-false}
use Rattle.number.proofs.Clash.{clash}
use Rattle.number.proofs.ReadLaws.{Known, bytes_of}
use Rattle.frames.specs.declared.Refusal.{Refusal}
use Rattle.frames.specs.declared.Refusal.TheVariants.{NoneOpen, ListTooLong, FewWorkNumbers, EncodingTooLong}
use Rattle.frames.specs.declared.Refused.{Refused}
use Rattle.format.specs.Limits.{depth_limit, length_limit}
use Rattle.format.specs.Kinds.{id}
use Rattle.format.specs.Tree.{Tree}
use Rattle.format.specs.Encoding.{kind_of, payload_of, encoding, sizes_of}
use Rattle.frames.specs.WriteList.{Frames, refused, framed, next, read_frames, only, read_list}
use Rattle.frames.specs.Writer.{Outcome, refuse, wrote, outcome_after, outcome, Afterwards, zeros, result_of, written, refusal_at, refused_at}
use Rattle.frames.specs.Container.{type_part, name_part, packs_of}
use Rattle.frames.proofs.FrontLaws.{never, next_got}
use Rattle.frames.proofs.PlaceLaws.{sets_front}
use Rattle.frames.proofs.PackedLaws.{numbers_long}
use Rattle.measure.specs.Settle.{measurement, settled_by, settled_after, settled_within, settled}
use Rattle.write.specs.declared.Position.{Position}
use Rattle.write.specs.Passes.{FieldGiven, FieldReady, FieldMakes}
use Rattle.settle.specs.declared.Settled.{Settled}
use Rattle.settle.specs.Made.{ready}

abbrev result : Result ℕ Refused → List ℕ → List ℕ → Afterwards
result a o w = record { answer = a; output = o; work = w }

abbrev top_id : Result Settled Refused → ℕ
top_id (Err q) = 0
top_id (Ok t) = t.id

abbrev top_length : Result Settled Refused → ℕ
top_length (Err q) = 0
top_length (Ok t) = t.length

-- a list that describes a tree is one field, and nothing behind it
list_read : {X : Type 0} (d : ℕ) (s : List ℕ) {t : Tree d} {r : List ℕ} → read_list d s ≡ framed t r →
    ((x : List ℕ × Tree d) → read_frames d none s ≡ framed x [] → x.1 ≡ t → X) → X
unfolding read_list
list_read d [] h c = never h
list_read {X} d (b ∷ s) {t} {r} h c = go (eqb b 0) h
  where
    last : (x : List ℕ × Tree d) (q : List ℕ) → read_frames d none (b ∷ s) ≡ framed x q → only x q ≡ framed t r → X
    last x [] e h = c x e (cc)
    last x (a ∷ q) e h = never h

    go : (z : Bool) → cond z (refused NoneOpen (b ∷ s)) (next (read_frames d none (b ∷ s)) only) ≡ framed t r → X
    go true h = never h
    go false h = next_got (read_frames d none (b ∷ s)) only h last

module _ (s out w : List ℕ) (m : Result Settled Refused) (w₁ : List ℕ) (e : measurement m w₁ ≡ settled s (length out) w) where
  -- what is to be written
  record Ready (t : Tree depth_limit) : Type 0 where
    pub x : List ℕ × Tree depth_limit
    pub short : length s ≤ length_limit
    pub reads : read_frames depth_limit none s ≡ framed x []
    pub is : x.1 ≡ t
    pub all : written s out w ≡ result_of (wrote (encoding depth_limit t) (sizes_of depth_limit t)) out w
    pub answer : m ≡ ready (id (kind_of depth_limit t)) (length (encoding depth_limit t))
    pub numbers : w₁ ≡ packs_of depth_limit t ++ zeros (length w - length (packs_of depth_limit t))
    pub few : length (sizes_of depth_limit t) ≤ length w
    pub room : length (encoding depth_limit t) ≤ length out

  either : {X : Type 0} → ((n : Refusal) (p : ℕ) → written s out w ≡ result_of (refuse n p) out w → m ≡ refused_at n p → w₁ ≡ zeros (length w) → X) →
      ((t : Tree depth_limit) → Ready t → X) → X
  unfolding written outcome settled settled_within
  either {X} f g = long (ltb length_limit (length s)) refl (λ o y. ap (λ q. result_of q out w) y) e
    where
      by : length s ≤ length_limit → (t : Tree depth_limit) (r : List ℕ) → read_list depth_limit s ≡ framed t r → (a b c : Bool) → ltb (length w)
          (length (sizes_of depth_limit t)) ≡ a
          → ltb (length out) (length (encoding depth_limit t)) ≡ b → ltb length_limit (length (encoding depth_limit t)) ≡ c
          → written s out w ≡ result_of (cond a (refuse FewWorkNumbers 0) (cond (b || c) (refuse EncodingTooLong 0)
          (wrote (encoding depth_limit t) (sizes_of depth_limit t)))) out w
          → measurement m w₁ ≡ settled_by (length w) (id (kind_of depth_limit t)) (packs_of depth_limit t)
          (cond a (refuse FewWorkNumbers 0) (cond (b || c) (refuse EncodingTooLong 0) (wrote (encoding depth_limit t) (sizes_of depth_limit t)))) → X
      by l t r y true b c ea eb ec h k = f FewWorkNumbers 0 h (ap (λ x. x.answer) k) (ap (λ x. x.work) k)
      by l t r y false true c ea eb ec h k = f EncodingTooLong 0 h (ap (λ x. x.answer) k) (ap (λ x. x.work) k)
      by l t r y false false true ea eb ec h k = f EncodingTooLong 0 h (ap (λ x. x.answer) k) (ap (λ x. x.work) k)
      by l t r y false false false ea eb ec h k = list_read depth_limit s y λ x q i. g t (record {
        x = x;
        short = l;
        reads = q;
        is = i;
        all = h;
        answer = ap (λ x. x.answer) k;
        numbers = ap (λ x. x.work) k;
        few = ltb-false (length w) (length (sizes_of depth_limit t)) ea;
        room = ltb-false (length out) (length (encoding depth_limit t)) eb;
      })

      read : length s ≤ length_limit → (o : Frames (Tree depth_limit)) → read_list depth_limit s ≡ o → written s out w ≡ result_of
          (outcome_after depth_limit (length out) (length w) s o) out w
          → measurement m w₁ ≡ settled_after depth_limit (length out) (length w) s o → X
      read l (refused n r) y h k = f n (length s - length r) h (ap (λ x. x.answer) k) (ap (λ x. x.work) k)
      read l (framed t r) y h k = by l t r y (ltb (length w) (length (sizes_of depth_limit t))) (ltb (length out) (length (encoding depth_limit t)))
          (ltb length_limit (length (encoding depth_limit t))) refl refl refl h k

      long : (b : Bool) → ltb length_limit (length s) ≡ b → ((o : Outcome) → outcome (length out) (length w) s ≡ o → written s out w ≡ result_of o out w)
          → measurement m w₁ ≡ cond b (settled_by (length w) 0 [] (refuse ListTooLong 0)) (settled_after depth_limit (length out) (length w) s
          (read_list depth_limit s)) → X
      long true i h k = f ListTooLong 0 (h (refuse ListTooLong 0) (rw i)) (ap (λ x. x.answer) k) (ap (λ x. x.work) k)
      long false i h k = read (ltb-false length_limit (length s) i) (read_list depth_limit s) refl (h
          (outcome_after depth_limit (length out) (length w) s (read_list depth_limit s)) (rw i)) k

  pub w_refused : (q : Refused) → m ≡ Err q → result (Err q) out w₁ ≡ written s out w
  w_refused q i = either (λ a p h j z. same a p h (sym i ∙ j) z) (λ t r. other (sym i ∙ r.answer))
    where
      same : (a : Refusal) (p : ℕ) → written s out w ≡ result_of (refuse a p) out w → ◌≡◌ {A = Result Settled Refused} (Err q) (refused_at a p)
          → w₁ ≡ zeros (length w) → result (Err q) out w₁ ≡ written s out w
      same a p h j z = let y : q ≡ refusal_at a p = cc in rw (h, z, y)

      other : {Y : Type 0} {a b : ℕ} → Err q ≡ ready a b → Y
      other h = clash cc

  module _ (top : Settled) (h : m ≡ Ok top) where
    with_ready : {X : Type 0} → ((t : Tree depth_limit) → Ready t → top.id ≡ id (kind_of depth_limit t) → top.length ≡ length (encoding depth_limit t) → X) → X
    with_ready {X} c = either (λ a q y j z. other (sym h ∙ j)) (λ t r. same t r (sym h ∙ r.answer))
      where
        other : {a : Refusal} {b : ℕ} → ◌≡◌ {A = Result Settled Refused} (Ok top) (refused_at a b) → X
        other h = clash cc

        same : (t : Tree depth_limit) → Ready t → Ok top ≡ ready (id (kind_of depth_limit t)) (length (encoding depth_limit t)) → X
        same t r z = c t r (ap top_id z) (ap top_length z)

    pub w_room : 0 < length out
    unfolding encoding
    w_room = with_ready λ t r ei en. omega (arith, r.room)

    given : (t : Tree depth_limit) (r : Ready t) → Known s → FieldGiven depth_limit s 0 false 0 w₁ r.x []
    given t r kn = record {
      used = [];
      more = zeros (length w - length (packs_of depth_limit t));
      reads = r.reads;
      holds = rw r.is r.numbers;
      bytes =
          bytes_of s kn;
      short = r.short;
    }

    pub w_ready : Known s → FieldReady depth_limit s 0 false false 1 0 (set out 0 top.id) w₁
    unfolding type_part name_part encoding
    w_ready kn = with_ready λ t r ei en. record { x = r.x; r = []; given = given t r kn; room = rw (length-set, r.is) (omega (arith, r.room)) }

    pub w_done : Known s → (out' w' : List ℕ) (p : Position) → FieldMakes depth_limit s 0 false false 1 0 (set out 0 top.id) out' w₁ w' p → result (Ok top.length) out'
        w' ≡ written s out w
    unfolding type_part name_part encoding
    w_done kn out' w' p f = with_ready λ t r ei en.
        let g = f.made r.x [] (given t r kn) in
        let e' = encoding depth_limit t in
        let z' = sizes_of depth_limit t in
        let nl = numbers_long depth_limit t in
        let o₁ : out' ≡ sets out 0 (top.id ∷ payload_of depth_limit r.x.1) = g.is_out in
        let o₂ : top.id ∷ payload_of depth_limit r.x.1 ≡ e' = rw (r.is, zero-add, ei) in
        let o : out' ≡ e' ++ drop (length e') out = o₁ ∙ ap (sets out 0) o₂ ∙ sets_front e' out r.room in
        let l : length w₁ ≡ length (packs_of depth_limit t) + (length w - length (packs_of depth_limit t)) = rw (r.numbers, length-append, length-replicate) in
        let d : drop (length z') w₁ ≡ zeros (length w - length z') = rw (r.numbers, ← nl) (drop-append_seam (packs_of depth_limit t)
        (zeros (length w - length (packs_of depth_limit t)))) in
        let c₁ : w' ≡ sets w₁ 0 z' = rw r.is at g.is_work in
        let c : w' ≡ z' ++ zeros (length w - length z') = c₁ ∙ sets_front z' w₁ (omega (arith, r.few)) ∙ ap (λ (u : List ℕ). z' ++ u) d in
        rw (r.all, en, o, c)
