-- The second pass, a field: what was read there.
use Prim.Native.Nat.{ℕ, zero, suc, ◌+◌, ◌-◌, ◌≤◌, ◌<◌}
use native.Mathlib.Omega.{arith}
use native.Mathlib.Nat.{add-zero}
use mathlib.Core.Path.{◌≡◌, refl, sym, ap, ◌∙◌}
use mathlib.Core.Bool.{Bool, true, false, cond}
use mathlib.Core.List.{List, [], ◌∷◌, ◌++◌}
use lib.ListN.{length, drop, get_or, length-append, length-drop}
use lib.Seq.{take-append_seam}
use lib.Dec.{eqb}
use borrow.Author.Tests.{ne_eqb, le-ltb}
use Rattle.number.proofs.Clash.{clash}
use Rattle.float.specs.Rule.{holds}
use Rattle.format.specs.declared.Kind.{Kind}
use Rattle.format.specs.declared.Kind.TheVariants.{Float32, Float64}
use Rattle.format.specs.Kinds.{id}
use Rattle.format.specs.Names.{read_name}
use Rattle.format.specs.Parse.{Out, got}
use Rattle.format.specs.Payload.{leaf, fields, items, payload}
use Rattle.format.specs.Tree.{Leaf, atom, Tree}
use Rattle.format.specs.Encoding.{with_size, concat, kind_of, payload_of}
use Rattle.front.specs.Between.{between}
use Rattle.frames.specs.WriteList.{framed, next, is_writable, leaf_found, frame_payload, read_frames}
use Rattle.format.proofs.KindLaws.{known_rt}
use Rattle.frames.specs.Container.{node_of, ids, container_id, name_part, body, packed, uniform_in, packs_of}
use Rattle.run.specs.Run.{shared, uniform}
use Rattle.frames.specs.FramePieces.{contents_by, container_of, leaf_of}
use Rattle.output.specs.Encoded.{bits_at, final_id}
use Rattle.write.specs.Again.{start_by, start_at}
use Rattle.write.specs.Passes.{FieldGiven, ContentsGiven}
use Rattle.frames.proofs.FrontLaws.{never, next_got, Fronted, leaf_kind_law, object_payload, array_payload}
use Rattle.frames.proofs.PlaceLaws.{rest, bytes_drop, drop_head, tail_at}
use Rattle.frames.proofs.LeafLaws.{bits_of, leaf_got, leaf_of_law}
use Rattle.frames.proofs.Used.{leaf_found_law, kind_object, kind_array, payload_case, frame_case, contents_used, read_used}
use Rattle.frames.proofs.SharedLaws.{node_id}
use Rattle.frames.proofs.ContainerLaws.{node_packs_law}
use Rattle.frames.proofs.PackedLaws.{packed_uniform}
use Rattle.frame.specs.Pieces.{bits_in}

-- a leaf opens no container
not_open : (k : Kind) (p : List ℕ → Out Leaf) → payload k ≡ leaf p → (id k ≡ 2 → ⊥) × (id k ≡ 4 → ⊥)
unfolding payload
not_open k p e = (
  λ z. let y : fields ≡ leaf p = sym (ap payload (kind_object k z)) ∙ e in clash cc,
  λ z. let y : items ≡ leaf p = sym (ap payload (kind_array k z)) ∙ e in clash cc,
)

-- a leaf that was found is found whatever frame a refusal would carry
leaf_any : (f g : List ℕ) (o : Out Leaf) {v : Leaf} {r : List ℕ} → leaf_found f o ≡ framed v r → leaf_found g o ≡ framed v r
leaf_any f g o h = leaf_found_law f o h λ fs e a b c. rw (e, a, b, c)

-- ---- what was read

pub record Facts (d : ℕ) (s : List ℕ) (at : ℕ) (named : Bool) (k : ℕ) (w : List ℕ) (x : List ℕ × Tree d) : Type 0 where
  pub kind : Kind
  pub first : get_or s at 0 ≡ id kind
  pub low : at < length s
  pub start : start_at named s at ≡ at + 1 + length (name_part named x.0)
  pub inside : at + 1 + length (name_part named x.0) ≤ length s
  pub name : between (at + 1) (at + 1 + length (name_part named x.0)) s ≡ name_part named x.0
  pub final : final_id s (id kind) (at + 1 + length (name_part named x.0)) (get_or w k 0) ≡ id (kind_of d x.1)
  pub good : is_writable (payload kind) ≡ true
  pub deep : 1 ≤ d

module _ (s : List ℕ) (at : ℕ) (named : Bool) (k : ℕ) (w r : List ℕ) where
  pub by_depth : (d : ℕ) (x : List ℕ × Tree d) → FieldGiven d s at named k w x r → (P : (d : ℕ) → List ℕ × Tree d → Type 0) →
      ((e : ℕ) (x : List ℕ × Tree (suc e)) → FieldGiven (suc e) s at named k w x r → P (suc e) x) → P d x
  unfolding read_frames
  by_depth zero x g P c = never g.reads
  by_depth (suc e) x g P c = c e x g

  module _ (e : ℕ) (x : List ℕ × Tree (suc e)) (g : FieldGiven (suc e) s at named k w x r) where
    -- the frame: its kind, and the payload q
    record Opens (kind : Kind) (q : List ℕ) : Type 0 where
      pub low : at < length s
      pub first : get_or s at 0 ≡ id kind
      pub behind : drop (at + 1) s ≡ name_part named x.0 ++ q
      pub inside : at + 1 + length (name_part named x.0) ≤ length s
      pub tail : drop (at + 1 + length (name_part named x.0)) s ≡ q
      pub left : length s - length q ≡ at + 1 + length (name_part named x.0)
      pub good : is_writable (payload kind) ≡ true
      pub name : named ≡ true → read_name (drop (at + 1) s) ≡ got x.0 [] q
      pub reads : frame_payload (read_frames e) (drop at s) (payload kind) q ≡ framed x.1 r

    opens : {X : Type 0} → ((kind : Kind) (q : List ℕ) → Opens kind q → X) → X
    unfolding read_frames
    opens {X} c = frame_case (read_frames e) named g.used (drop at s) (bytes_drop s at g.bytes) g.reads λ kind q ef f h. go kind q f h
      where
        low_of : (b : ℕ) (t : List ℕ) → drop at s ≡ b ∷ t → at < length s
        low_of b t i = let z : length s - at ≡ suc (length t) = sym (length-drop at s) ∙ ap length i in omega arith

        go : (kind : Kind) (q : List ℕ) → Fronted named (drop at s) (x.0, kind) q → frame_payload (read_frames e) (drop at s) (payload kind) q ≡ framed
            x.1 r → X
        go kind q f h =
            let l = low_of (id kind) (name_part named x.0 ++ q) f.is in
            let z : get_or s at 0 ∷ drop (at + 1) s ≡ id kind ∷ (name_part named x.0 ++ q) = sym (rest s at l) ∙ f.is in
            let t : drop (at + 1) s ≡ name_part named x.0 ++ q = cc in
            let u = tail_at s (at + 1) (name_part named x.0) q (omega arith) t in
            c kind q (record {
              low = l;
              first = cc;
              behind = t;
              inside = u.1;
              tail = u.2;
              left = u.0;
              good = f.good;
              name = λ y. f.name (get_or s at 0)
                  (drop (at + 1) s) (rest s at l) y;
              reads = h;
            })

    start_is : (kind : Kind) (q : List ℕ) → Opens kind q → start_at named s at ≡ at + 1 + length (name_part named x.0)
    unfolding start_at name_part
    start_is kind q o = go named refl o.left
      where
        go : (b : Bool) → named ≡ b → length s - length q ≡ at + 1 + length (cond b (with_size x.0) []) → cond b
            (start_by (length s) (at + 1) (read_name (drop (at + 1) s))) (at + 1) ≡ at + 1 + length (cond b (with_size x.0) [])
        go true z l = rw (o.name z) l
        go false z l = sym (add-zero (at + 1))

    -- the numbers of a container
    number_is : (kind : Kind) (q : List ℕ) → Opens kind q → (b : Bool) (xs : List (List ℕ × Tree e)) → contents_by b (read_frames e) (length q) [] q ≡ framed
        xs r → x.1 ≡ node_of b xs
        → uniform_in (get_or w k 0) ≡ uniform b (shared (ids (kind_of e) xs))
    number_is kind q o b xs h et =
        let c = contents_used (kind_of e) (payload_of e) (packs_of e) (read_frames e) (read_used e) b (length q) [] q xs r
        (rw o.tail at (bytes_drop s (at + 1 + length (name_part named x.0)) g.bytes)) h in
        let n : length q ≡ length c.pre + length r = ap length c.all ∙ length-append c.pre r in
        let m : length (drop (at + 1 + length (name_part named x.0)) s) ≡ length q = ap length o.tail in
        let p : drop k w ≡ packed b (shared (ids (kind_of e) xs)) (length xs) (length (body b (kind_of e) (payload_of e) xs)) ∷
        (concat (λ (y : List ℕ × Tree e). packs_of e y.1) xs ++ g.more)
        = g.holds ∙ ap (λ (t : Tree (suc e)). packs_of (suc e) t ++ g.more) et ∙ ap (λ (t : List ℕ). t ++ g.more)
        (node_packs_law (kind_of e) (payload_of e) (packs_of e) b xs) in
        let d = drop_head w k _ _ p in
        rw d.0 (packed_uniform (kind_of e) b xs (length (body b (kind_of e) (payload_of e) xs)) (omega
        (arith, c.count, g.short, length-drop (at + 1 + length (name_part named x.0)) s)))

    final_is : (kind : Kind) (q : List ℕ) → Opens kind q → final_id s (id kind) (at + 1 + length (name_part named x.0)) (get_or w k 0) ≡ id
        (kind_of (suc e) x.1)
    unfolding final_id bits_at bits_in
    final_is kind q o = payload_case (read_frames e) (drop at s) kind q o.good o.reads
        (λ l v el h et. leaf_found_law (drop at s) (l q) h λ fs y a b c. leaf_got kind l el q (rw o.tail at
        (bytes_drop s (at + 1 + length (name_part named x.0)) g.bytes)) y a b c
        (λ ne fe es ek. let n = not_open kind l el in let z : id (kind_of (suc e) x.1) ≡ id kind = rw (et, ek) in rw
        (z, ne_eqb (id kind) 2 n.0, ne_eqb (id kind) 4 n.1, ne_eqb (id kind) 11 ne))
        (λ ek d. let z : id (kind_of (suc e) x.1) ≡ id (cond (holds (bits_of q)) Float32 Float64) = rw et (ap id d.kind) in
        rw (z, ek, o.tail, le-ltb (length q) 8 d.enough) (halves (holds (bits_of q)))))
        (λ b ek xs h et. let z : id (kind_of (suc e) x.1) ≡ container_id b (uniform b (shared (ids (kind_of e) xs))) = rw et (node_id (kind_of e) b xs) in
        let u = number_is kind q o b xs h et in rw (z, ek, u) (opened b (uniform b (shared (ids (kind_of e) xs))) _))
      where
        halves : (h : Bool) → cond h 10 11 ≡ id (cond h Float32 Float64)
        halves true = refl
        halves false = refl

        opened : (b u : Bool) (i : ℕ) → cond (eqb (cond b 2 4) 2) (container_id true u) (cond (eqb (cond b 2 4) 4) (container_id false u) i) ≡ container_id b u
        opened true u i = refl
        opened false u i = refl

    facts_of : Facts (suc e) s at named k w x
    facts_of = opens λ kind q o.
        let m : at + 1 + length (name_part named x.0) - (at + 1) ≡ length (name_part named x.0) = omega arith in
        record {
          kind = kind;
          first = o.first;
          low = o.low;
          start = start_is kind q o;
          inside = o.inside;
          name = rw (m, o.behind)
              (take-append_seam (name_part named x.0) q);
          final = final_is kind q o;
          good = o.good;
          deep = omega arith;
        }

    -- the payload of a container
    pub contents_given : (b : Bool) → get_or s at 0 ≡ cond b 2 4 → (start : ℕ) → start ≡ at + 1 + length (name_part named x.0) → ContentsGiven e s start b k
        w x.1 r
    contents_given b h start es = opens λ kind q o.
        let z : frame_payload (read_frames e) (drop at s) (payload kind) q ≡ container_of b (read_frames e) q = by kind q b (sym o.first ∙ h) in
        let t : drop start s ≡ q = rw es o.tail in
        record { more = g.more; reads = rw t (sym z ∙ o.reads); holds = g.holds; inside = rw es o.inside; bytes = g.bytes; short = g.short }
      where
        by : (kind : Kind) (q : List ℕ) (b : Bool) → id kind ≡ cond b 2 4 → frame_payload (read_frames e) (drop at s) (payload kind) q ≡ container_of b
            (read_frames e) q
        by kind q true i = object_payload (read_frames e) (drop at s) kind q (kind_object kind i)
        by kind q false i = array_payload (read_frames e) (drop at s) kind q (kind_array kind i)

    -- the payload of a leaf
    pub leaf_given : {X : Type 0} → (get_or s at 0 ≡ 2 → ⊥) → (get_or s at 0 ≡ 4 → ⊥) → (start : ℕ) → start ≡ at + 1 + length (name_part named x.0) →
        ((v : Leaf) → x.1 ≡ atom v → leaf_of (get_or s at 0) (drop start s) ≡ framed v r → X) → X
    unfolding leaf_of
    leaf_given {X} g2 g4 start es c = opens λ kind q o. leaf_of_law kind (leaf_kind_law kind o.good (λ z. g2 (o.first ∙ z)) (λ z. g4 (o.first ∙ z))) λ p ep. go
        kind q o p ep (rw ep at o.reads)
      where
        go : (kind : Kind) (q : List ℕ) → Opens kind q → (p : List ℕ → Out Leaf) → payload kind ≡ leaf p →
            (next (leaf_found (drop at s) (p q)) λ v u. framed (atom v) u) ≡ framed x.1 r → X
        go kind q o p ep h = next_got (leaf_found (drop at s) (p q)) _ h λ v u i j.
            let y : u ≡ r = cc in
            let t : drop start s ≡ q = rw es o.tail in
            let z : leaf_found (drop at s) (p q) ≡ framed v r = i ∙ ap (λ (z : List ℕ). framed v z) y in
            c v (cc) (rw (t, o.first, known_rt kind, ep) (leaf_any (drop at s) q (p q) z))

pub facts : (d : ℕ) (s : List ℕ) (at : ℕ) (named : Bool) (k : ℕ) (w : List ℕ) (x : List ℕ × Tree d) (r : List ℕ) → FieldGiven d s at named k w x r → Facts d
    s at named k w x
facts d s at named k w x r g = by_depth s at named k w r d x g (λ d x. Facts d s at named k w x) (λ e x g. facts_of s at named k w r e x g)
