-- The second pass, a field: what is written of it.
use Prim.Native.Nat.{ℕ, ◌+◌, ◌-◌, ◌≤◌, ◌<◌}
use native.Mathlib.Omega.{arith}
use native.Mathlib.Nat.{add-zero}
use native.Mathlib.Numerals.{sub-one}
use mathlib.Core.Path.{◌≡◌, refl, sym, ap, ◌∙◌}
use mathlib.Core.Bool.{Bool, true, false, cond}
use mathlib.Core.List.{List, ◌++◌, append_assoc}
use lib.ListN.{length, get_or, length-append}
use lib.Seq.{sets, length-sets}
use Rattle.format.specs.Kinds.{id}
use Rattle.format.specs.Tree.{Tree}
use Rattle.format.specs.Encoding.{kind_of, payload_of, sizes_of}
use Rattle.front.specs.Between.{between}
use Rattle.write.specs.declared.Position.{Position}
use Rattle.frames.specs.Container.{type_part, name_part}
use Rattle.output.specs.Encoded.{final_id}
use Rattle.write.specs.Again.{start_at}
use Rattle.write.specs.Passes.{LeafMakes, LeafReady, part_of, Made, FieldGiven, FieldReady, FieldMakes, ContentsReady, ContentsMakes}
use Rattle.frames.proofs.PlaceLaws.{sets_append}
use Rattle.format.proofs.KindLaws.{id_range}
use Rattle.write.proofs.PutFacts.{Facts, by_depth, contents_given, leaf_given, facts}

module _ (d : ℕ) (s : List ℕ) (at : ℕ) (named typed : Bool) (to k : ℕ) (out w : List ℕ) (g : FieldReady d s at named typed to k out w) where
  here : Facts d s at named k w g.x
  here = facts d s at named k w g.x g.r g.given

  pub put_low : at < length s
  put_low = here.low

  pub put_deep : 1 ≤ d
  put_deep = here.deep

  pub put_short : length s ≤ 65536
  put_short = g.given.short

  module _ (start : ℕ) (es : start ≡ start_at named s at) where
    pub put_inside : start ≤ length s
    put_inside = let f = here in rw (es ∙ f.start) f.inside

    module _ (y : ℕ) (ey : y ≡ get_or w k 0) (i : ℕ) (ei : i ≡ final_id s (get_or s at 0) start y) where
      -- of whatever was read there
      record Prefix (x : List ℕ × Tree d) : Type 0 where
        pub start_is : start ≡ at + 1 + length (name_part named x.0)
        pub id_is : i ≡ id (kind_of d x.1)
        pub name_is : between (at + 1) start s ≡ name_part named x.0

      prefix : (x : List ℕ × Tree d) (r : List ℕ) → FieldGiven d s at named k w x r → Prefix x
      prefix x r gv =
          let f = facts d s at named k w x r gv in
          let z : start ≡ at + 1 + length (name_part named x.0) = es ∙ f.start in
          record { start_is = z; id_is = ei ∙ rw (z, ey, f.first) f.final; name_is = rw z f.name }

      pub put_after : at + 1 ≤ start
      put_after = omega (arith, (prefix g.x g.r g.given).start_is)

      pub put_id : i < 32
      put_id = rw (prefix g.x g.r g.given).id_is (id_range (kind_of d g.x.1)).1

      pub put_front_room : to + (length (type_part named typed i) + (start - (at + 1))) ≤ length out
      put_front_room =
          let f = prefix g.x g.r g.given in
          let z : to + (length (type_part named typed (id (kind_of d g.x.1))) + (length (name_part named g.x.0) + length (payload_of d g.x.1))) ≤
          length out = simp length-append at g.room in
          rw f.id_is (omega (arith, f.start_is))

      module _ (e : ℕ) (out₁ : List ℕ) (ee : e ≡ to + (length (type_part named typed i) + (start - (at + 1))))
          (eo : out₁ ≡ sets out to (type_part named typed i ++ between (at + 1) start s)) where
        abbrev front_of : List ℕ × Tree d → List ℕ
        front_of x = type_part named typed (id (kind_of d x.1)) ++ name_part named x.0

        front_end : (x : List ℕ × Tree d) → Prefix x → e ≡ to + length (front_of x)
        front_end x f = let z : start - (at + 1) ≡ length (name_part named x.0) = omega (arith, f.start_is) in ee ∙ rw (z, f.id_is, length-append)

        front_out : (x : List ℕ × Tree d) → Prefix x → out₁ ≡ sets out to (front_of x)
        front_out x f = eo ∙ rw (f.name_is, f.id_is)

        payload_room : e + length (payload_of d g.x.1) ≤ length out₁
        payload_room =
            let f = prefix g.x g.r g.given in
            let z : to + (length (type_part named typed (id (kind_of d g.x.1))) + (length (name_part named g.x.0) + length (payload_of d g.x.1))) ≤
            length out = simp length-append at g.room in
            let y : e ≡ to + (length (type_part named typed (id (kind_of d g.x.1))) + length (name_part named g.x.0)) = front_end g.x f ∙ rw
            length-append in
            rw (eo, length-sets) (omega arith)

        made_behind : (x : List ℕ × Tree d) (r : List ℕ) → Prefix x → (out' w' : List ℕ) (p : Position) → Made (length s) k e (payload_of d x.1)
            (sizes_of d x.1) out₁ out' w w' p r → Made (length s) k to (part_of d named typed x) (sizes_of d x.1) out out' w w' p r
        made_behind x r f out' w' p m =
            let a : part_of d named typed x ≡ front_of x ++ payload_of d x.1 = sym (append_assoc (type_part named typed (id (kind_of d x.1)))
            (name_part named x.0) (payload_of d x.1)) in
            let b : length (part_of d named typed x) ≡ length (front_of x) + length (payload_of d x.1) = ap length a ∙ length-append (front_of x)
            (payload_of d x.1) in
            let c : sets (sets out to (front_of x)) (to + length (front_of x)) (payload_of d x.1) ≡ sets out to (part_of d named typed x) = sets_append
            (front_of x) (payload_of d x.1) out to ∙ ap (λ (t : List ℕ). sets out to t) (sym a) in
            record {
              next = m.next;
              on = omega (arith, m.on, front_end x f);
              more = m.more;
              is_out = m.is_out ∙ rw (front_out x f, front_end x f) c;
              is_work = m.is_work;
            }

        ready : (b : Bool) → get_or s at 0 ≡ cond b 2 4 → ContentsReady (d - 1) s start b e k out₁ w
        ready b h = by_depth s at named k w g.r d g.x g.given
            (λ d x. start ≡ at + 1 + length (name_part named x.0) → e + length (payload_of d x.1) ≤ length out₁ → ContentsReady (d - 1) s start b e k
            out₁ w)
            (λ n x gv zs zr. rw sub-one (record { t = x.1; r = g.r; given = contents_given s at named k w g.r n x gv b h start zs; room = zr }))
            (prefix g.x g.r g.given).start_is payload_room

        makes : (b : Bool) → get_or s at 0 ≡ cond b 2 4 → (out' w' : List ℕ) (p : Position) → ContentsMakes (d - 1) s start b e k out₁ out' w w' p →
            FieldMakes d s at named typed to k out out' w w' p
        makes b h out' w' p m = record {
          made = λ x r gv. made_behind x r (prefix x r gv) out' w' p
              (by_depth s at named k w r d x gv
              (λ d x. start ≡ at + 1 + length (name_part named x.0) → ContentsMakes (d - 1) s start b e k out₁ out' w w' p → Made (length s) k e
              (payload_of d x.1) (sizes_of d x.1) out₁ out' w w' p r)
              (λ n x gv zs q. let q₁ : ContentsMakes n s start b e k out₁ out' w w' p = rw sub-one at q in q₁.made x.1 r
              (contents_given s at named k w r n x gv b h start zs))
              (prefix x r gv).start_is m);
        }

        pub put_object : get_or s at 0 ≡ 2 → (b : Bool) → b ≡ true → ContentsReady (d - 1) s start b e k out₁ w
        put_object h b i = rw i (ready true h)

        pub put_array : get_or s at 0 ≡ 4 → (b : Bool) → b ≡ false → ContentsReady (d - 1) s start b e k out₁ w
        put_array h b i = rw i (ready false h)

        pub put_object_made : get_or s at 0 ≡ 2 → (out' w' : List ℕ) (p : Position) → ContentsMakes (d - 1) s start true e k out₁ out' w w' p → FieldMakes d s
            at named typed to k out out' w w' p
        put_object_made h out' w' p m = makes true h out' w' p m

        pub put_array_made : get_or s at 0 ≡ 4 → (out' w' : List ℕ) (p : Position) → ContentsMakes (d - 1) s start false e k out₁ out' w w' p → FieldMakes d s
            at named typed to k out out' w w' p
        put_array_made h out' w' p m = makes false h out' w' p m

        module _ (g2 : get_or s at 0 ≡ 2 → ⊥) (g4 : get_or s at 0 ≡ 4 → ⊥) where
          pub put_leaf_ready : LeafReady s start (get_or s at 0) e out₁
          put_leaf_ready = by_depth s at named k w g.r d g.x g.given
              (λ d x. start ≡ at + 1 + length (name_part named x.0) → e + length (payload_of d x.1) ≤ length out₁ → LeafReady s start (get_or s at 0) e out₁)
              (λ n x gv zs zr. leaf_given s at named k w g.r n x gv g2 g4 start zs λ v ev h.
              record { v = v; r = g.r; reads = h; bytes = gv.bytes; short = gv.short; inside = put_inside; room = rw ev at zr })
              (prefix g.x g.r g.given).start_is payload_room

          pub put_leaf_made : (out' : List ℕ) (p : Position) → LeafMakes s start (get_or s at 0) e k out₁ out' p → FieldMakes d s at named typed to k out out'
              w w p
          put_leaf_made out' p m = record {
            made = λ x r gv. made_behind x r (prefix x r gv) out' w p
                (by_depth s at named k w r d x gv
                (λ d x. start ≡ at + 1 + length (name_part named x.0) → Made (length s) k e (payload_of d x.1) (sizes_of d x.1) out₁ out' w w p r)
                (λ n x gv zs. leaf_given s at named k w r n x gv g2 g4 start zs λ v ev h.
                let q = m.made v r h in
                rw ev (record { next = q.next; on = q.on; more = rw (q.same, add-zero); is_out = q.is_out; is_work = refl }))
                (prefix x r gv).start_is);
          }
