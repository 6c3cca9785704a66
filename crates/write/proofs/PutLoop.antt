-- The second pass, the loop over the fields of an object or the items of an array: its end, its close, and one field more.
use Prim.Native.Nat.{ℕ, suc, ◌+◌, ◌-◌, ◌≤◌, ◌<◌}
use native.Mathlib.Omega.{arith}
use mathlib.Core.Path.{◌≡◌, sym, ap, ◌∙◌}
use mathlib.Core.Bool.{Bool, not}
use mathlib.Core.List.{List, [], ◌∷◌, ◌++◌, append_assoc}
use lib.ListN.{length, drop, get_or, length-append}
use lib.Seq.{sets, length-sets}
use Rattle.number.specs.VarUInt.{encoded}
use Rattle.format.specs.Tree.{Tree}
use Rattle.format.specs.Encoding.{concat, kind_of, payload_of, sizes_of}
use Rattle.frames.specs.WriteList.{framed, read_frames}
use Rattle.format.proofs.Lists.{append_nil}
use Rattle.write.specs.declared.Position.{Position}
use Rattle.frames.specs.Container.{node_of, count_part, packs_of}
use Rattle.run.specs.Run.{uniform}
use Rattle.frames.specs.FramePieces.{mode_of, contents_by}
use Rattle.write.specs.Passes.{part_of, Made, FieldGiven, FieldReady, FieldMakes, ContentsMakes}
use Rattle.frames.proofs.PlaceLaws.{bytes_drop, sets_back, place, tail_at, sets_append}
use Rattle.write.proofs.LeafPut.{same_leaf}
use Rattle.frames.proofs.SharedLaws.{concat_snoc}
use Rattle.frames.proofs.ContainerLaws.{node_payload_law, node_sizes_law}
use Rattle.frames.proofs.PackedLaws.{numbers_long}
use Rattle.frames.proofs.Used.{read_used}
use Rattle.write.proofs.PutState.{sets_behind, holds_behind, contents_case, shared_of, body_of, parts_of, sizes_in, packs_in, body_size, PutLoop}

module _ (d : ℕ) (s : List ℕ) (at : ℕ) (named : Bool) (to k : ℕ) (out₀ w₀ : List ℕ) (q : ℕ) (typed : Bool) (out w : List ℕ) (p e j n : ℕ)
    (l : PutLoop d s at named to k out₀ w₀ q typed out w p e j n) where
  pub put_stop : (out' w' : List ℕ) (u : Position) → length s ≤ p → ContentsMakes d s at named to k out₀ out' w₀ w' u
  put_stop out' w' u h = contents_case d s named l.fuel l.used p l.ys l.r l.todo (λ i. absurd (omega arith)) (λ i. absurd (omega arith))

  long : length out ≡ length out₀
  long = rw (l.is_out, length-sets, length-sets)

  module _ (h : p < length s) where
    module _ (z : get_or s p 0 ≡ 0) where
      closed : {X : Type 0} → (l.zs ≡ l.xs → l.r ≡ drop (p + 1) s → X) → X
      closed c = contents_case d s named l.fuel l.used p l.ys l.r l.todo (λ i i₂ ey er. c (l.all ∙ rw (ey, append_nil)) er)
          (λ i i₂. absurd (i₂ z))

      pub put_close_room : q + length (count_part named n) ≤ length out
      put_close_room = closed λ i er. let y : n ≡ length l.zs = rw i l.is_n in rw (long, y) (omega (arith, l.is_e, l.room))

      pub put_close : (out' : List ℕ) → out' ≡ sets out q (count_part named n) → (u : Position) → u.next ≡ p + 1 → u.to ≡ e → u.opened ≡ j → ContentsMakes
          d s at named to k out₀ out' w₀ w u
      put_close out' eo u en et ej = record { made = λ t r gv. closed λ i er. go t r (same_leaf gv.reads l.whole) i er }
        where
          go : (t : Tree (suc d)) (r : List ℕ) → (t ≡ node_of named l.zs) × (r ≡ l.r) → l.zs ≡ l.xs → l.r ≡ drop (p + 1) s → Made (length s) k to
              (payload_of (suc d) t) (sizes_of (suc d) t) out₀ out' w₀ w u r
          go t r (et', er') i er =
              let y : n ≡ length l.zs = rw i l.is_n in
              let b = body_of d named l.zs in
              let c = count_part named (length l.zs) in
              let m = parts_of d named l.zs l.zs in
              let a : payload_of (suc d) (node_of named l.zs) ≡ encoded (length b) ++ b = node_payload_law (kind_of d) (payload_of d) named l.zs in
              let f : sizes_of (suc d) (node_of named l.zs) ≡ length b ∷ sizes_in d l.zs = node_sizes_law (kind_of d) (payload_of d) (sizes_of d) named l.zs in
              let xs_zs : l.xs ≡ l.zs = sym i in
              let ee : e ≡ q + length c + length m = l.is_e ∙ ap (λ (t : List (List ℕ × Tree d)). q + length c + length (parts_of d named l.zs t)) xs_zs in
              let eo₁ : out ≡ sets (sets out₀ to (encoded (length b))) (q + length c) m = l.is_out ∙ ap
              (λ (t : List (List ℕ × Tree d)). sets (sets out₀ to (encoded (length b))) (q + length c) (parts_of d named l.zs t)) xs_zs in
              let eo₂ : out' ≡ sets (sets out₀ to (encoded (length b))) q b = eo ∙ ap (λ (t : ℕ). sets out q (count_part named t)) y ∙ ap
              (λ (t : List ℕ). sets t q c) eo₁ ∙ sets_back c m (sets out₀ to (encoded (length b))) q in
              let eo₃ : out' ≡ sets out₀ to (encoded (length b) ++ b) = eo₂ ∙ ap (λ (t : ℕ). sets (sets out₀ to (encoded (length b))) t b) l.is_q ∙
              sets_append (encoded (length b)) b out₀ to in
              let ew : w ≡ sets w₀ k (length b ∷ sizes_in d l.zs) = l.is_work ∙ ap (λ (t : List (List ℕ × Tree d)). sets w₀ k (length b ∷ sizes_in d t))
              xs_zs in
              let ejj : j ≡ k + length (length b ∷ sizes_in d l.zs) = l.is_j ∙ ap (λ (t : List (List ℕ × Tree d)). k + length (length b ∷ sizes_in d t))
              xs_zs in
              let on₁ : e ≡ to + length (encoded (length b) ++ b) = rw length-append (omega (arith, ee, l.is_q, body_size d named l.zs)) in
              rw et' (record {
                next = en ∙ rw (er' ∙ er) (sym (place s (p + 1) (omega arith)));
                on = et ∙ on₁ ∙ rw a;
                more = ej ∙ ejj ∙ rw f;
                is_out = eo₃ ∙
                    rw a;
                is_work = ew ∙ rw f;
              })

    module _ (z : get_or s p 0 ≡ 0 → ⊥) where
      -- the next field
      record Next : Type 0 where
        pub fuel : ℕ
        pub x : List ℕ × Tree d
        pub left : List ℕ
        pub zs : List (List ℕ × Tree d)
        pub reads : read_frames d (mode_of named l.used) (drop p s) ≡ framed x left
        pub todo : contents_by named (read_frames d) fuel (x.0 ∷ l.used) left ≡ framed zs l.r
        pub are : l.ys ≡ x ∷ zs
        pub holds : drop j w ≡ packs_of d x.1 ++ (packs_in d zs ++ l.more)
        pub room : e + (length (part_of d named typed x) + length (concat (part_of d named typed) zs)) ≤ length out₀

      follows : Next
      follows = contents_case d s named l.fuel l.used p l.ys l.r l.todo (λ i i₂. absurd (z i₂)) λ i i₂ m em x u zs e₁ e₂ ey.
          let a : length (concat (part_of d named typed) l.ys) ≡ length (part_of d named typed x) + length (concat (part_of d named typed) zs) = ap
          (λ (t : List (List ℕ × Tree d)). length (concat (part_of d named typed) t)) ey ∙ length-append (part_of d named typed x)
          (concat (part_of d named typed) zs) in
          let b : packs_in d l.ys ++ l.more ≡ packs_of d x.1 ++ (packs_in d zs ++ l.more) = ap (λ (t : List (List ℕ × Tree d)). packs_in d t ++ l.more)
          ey ∙ append_assoc (packs_of d x.1) (packs_in d zs) l.more in
          record { fuel = m; x = x; left = u; zs = zs; reads = e₁; todo = e₂; are = ey; holds = l.holds ∙ b; room = omega (arith, l.room) }

      given_here : (v : Next) → FieldGiven d s p named j w v.x v.left
      given_here v = record { used = l.used; more = packs_in d v.zs ++ l.more; reads = v.reads; holds = v.holds; bytes = l.bytes; short = l.short }

      pub put_item : FieldReady d s p named typed e j out w
      put_item = let v = follows in record { x = v.x; r = v.left; given = given_here v; room = rw long (omega (arith, v.room)) }

      module _ (u : Position) (out' w' : List ℕ) (y : FieldMakes d s p named typed e j out out' w w' u) where
        record Stepped : Type 0 where
          pub now : PutLoop d s at named to k out₀ w₀ q typed out' w' u.next u.to u.opened (n + 1)
          pub on : p < u.next

        stepped : Stepped
        stepped = let v = follows in let x = v.x in
            let g = read_used d named l.used (drop p s) x v.left (bytes_drop s p l.bytes) v.reads in
            let t = tail_at s p g.pre v.left l.high g.all in
            let m = y.made x v.left (given_here v) in
            let en : u.next ≡ p + length g.pre = m.next ∙ t.0 in
            let er : drop u.next s ≡ v.left = rw en t.2 in
            let b = encoded (length (body_of d named l.zs)) in
            let ef = l.is_typed_law in
            let cs : concat (part_of d named (not (uniform named (shared_of d l.zs)))) (l.xs ++ (x ∷ [])) ≡ concat
            (part_of d named (not (uniform named (shared_of d l.zs)))) l.xs ++ part_of d named typed x = concat_snoc
            (part_of d named (not (uniform named (shared_of d l.zs)))) l.xs x ∙ ap (λ (t : Bool). concat
            (part_of d named (not (uniform named (shared_of d l.zs)))) l.xs ++ part_of d named t x) (sym ef) in
            let ps : parts_of d named l.zs (l.xs ++ (x ∷ [])) ≡ parts_of d named l.zs l.xs ++ part_of d named typed x = rw (cs, append_assoc) in
            let ss : sizes_in d (l.xs ++ (x ∷ [])) ≡ sizes_in d l.xs ++ sizes_of d x.1 = concat_snoc (λ (x : List ℕ × Tree d). sizes_of d x.1) l.xs
            x in
            let z₁ = length (body_of d named l.zs) in
            let o₁ : out' ≡ sets (sets out₀ to b) (q + length (count_part named (length l.zs))) (parts_of d named l.zs l.xs ++ part_of d named typed x)
            = sets_behind out (sets out₀ to b) out' e (q + length (count_part named (length l.zs))) (parts_of d named l.zs l.xs)
            (part_of d named typed x) m.is_out l.is_out l.is_e in
            let w₁ : w' ≡ sets w₀ k (z₁ ∷ (sizes_in d l.xs ++ sizes_of d x.1)) = sets_behind w w₀ w' j k (z₁ ∷ sizes_in d l.xs) (sizes_of d x.1)
            m.is_work l.is_work l.is_j in
            record {
              on = omega (arith, g.some);
              now = record {
                zs = l.zs;
                xs = l.xs ++ (x ∷ []);
                ys = v.zs;
                all = l.all ∙ ap (λ (t : List (List ℕ × Tree d)). l.xs ++ t) v.are ∙ sym (append_assoc l.xs (x ∷ []) v.zs);
                r = l.r;
                more = l.more;
                fuel = v.fuel;
                used = x.0 ∷ l.used;
                bytes = l.bytes;
                short = l.short;
                high = omega (arith, t.1);
                less = omega (arith, l.less, g.some);
                whole = l.whole;
                todo = rw er v.todo;
                is_q = l.is_q;
                is_typed_law = ef;
                is_out = rw ps o₁;
                is_e = rw (ps, length-append) (omega (arith, m.on, l.is_e));
                is_n = rw length-append (omega (arith, l.is_n));
                is_j = rw (ss, length-append) (omega (arith, m.more, l.is_j));
                is_work = rw ss w₁;
                holds = holds_behind w w' (sizes_of d x.1) (packs_of d x.1) (packs_in d v.zs ++ l.more) j u.opened m.is_work m.more
                    v.holds (numbers_long d x.1);
                room = omega (arith, m.on, v.room);
              };
            }

        pub put_step : PutLoop d s at named to k out₀ w₀ q typed out' w' u.next u.to u.opened (n + 1)
        put_step = stepped.now

        pub put_less : length s - u.next < length s - p
        put_less = let b = stepped.now in omega (arith, stepped.on, b.high)
