-- The second pass, a container's header, and where the loop over its fields begins.
use Prim.Native.Nat.{ℕ, suc, ◌+◌, ◌≤◌, ◌<◌}
use native.Mathlib.Omega.{arith}
use mathlib.Core.Path.{◌≡◌, refl, ap, ◌∙◌}
use mathlib.Core.Bool.{Bool, true, false, not, cond}
use mathlib.Core.List.{List, [], ◌∷◌, ◌++◌}
use lib.ListN.{length, drop, get_or, set, length-append, length-drop}
use lib.Seq.{drop-set-lt}
use Rattle.number.specs.VarUInt.{encoded}
use Rattle.format.specs.Tree.{Tree}
use Rattle.format.specs.Encoding.{concat, kind_of, payload_of}
use Rattle.frames.specs.WriteList.{framed, read_frames}
use Rattle.format.proofs.Lists.{append_nil}
use Rattle.write.specs.declared.Opened.{Opened}
use Rattle.format.specs.Kinds.{flags}
use Rattle.frames.specs.Container.{node_of, count_part, shared_mark, shared_part, packed, size_in, width_in, shared_in, uniform_in, packs_of}
use Rattle.run.specs.Run.{uniform}
use Rattle.frames.specs.FramePieces.{contents_by, container_of}
use Rattle.write.specs.Passes.{HasOpened, CanOpen, part_of, ContentsReady}
use Rattle.frames.proofs.FrontLaws.{next_got}
use Rattle.frames.proofs.PlaceLaws.{bytes_drop, drop_head}
use Rattle.frames.proofs.ContainerLaws.{node_payload_law, node_packs_law}
use Rattle.frames.proofs.PackedLaws.{packed_shared_in, packed_width, packed_size, packed_uniform}
use Rattle.frames.proofs.Used.{contents_used, read_used}
use Rattle.write.proofs.PutState.{shared_of, body_of, parts_of, packs_in, body_size, PutLoop}

module _ (d : ℕ) (s : List ℕ) (at : ℕ) (named : Bool) where
  node_case : {X : Type 0} (t : Tree (suc d)) (r : List ℕ) → container_of named (read_frames d) (drop at s) ≡ framed t r
      → ((zs : List (List ℕ × Tree d)) → t ≡ node_of named zs → contents_by named (read_frames d) (length (drop at s)) [] (drop at s) ≡ framed zs r → X) → X
  unfolding container_of
  node_case t r h f = next_got (contents_by named (read_frames d) (length (drop at s)) [] (drop at s)) _ h λ zs q e h₁. let z : q ≡ r = cc in f zs (cc)
      (e ∙ ap (λ (t : List ℕ). framed zs t) z)

  module _ (to k : ℕ) (out w : List ℕ) (g : ContentsReady d s at named to k out w) where
    record Parts : Type 0 where
      pub zs : List (List ℕ × Tree d)
      pub is_t : container_of named (read_frames d) (drop at s) ≡ framed (node_of named zs) g.r
      pub todo : contents_by named (read_frames d) (length (drop at s)) [] (drop at s) ≡ framed zs g.r
      pub num : get_or w k 0 ≡ packed named (shared_of d zs) (length zs) (length (body_of d named zs))
      pub mine : k < length w
      pub holds : drop (k + 1) w ≡ packs_in d zs ++ g.given.more
      pub room : to + length (encoded (length (body_of d named zs))) + length (body_of d named zs) ≤ length out
      pub few : length zs ≤ 65536

    parts : Parts
    parts = node_case g.t g.r g.given.reads λ zs et e.
        let h : drop k w ≡ packed named (shared_of d zs) (length zs) (length (body_of d named zs)) ∷ (packs_in d zs ++ g.given.more)
        = g.given.holds ∙ ap (λ (t : Tree (suc d)). packs_of (suc d) t ++ g.given.more) et ∙ ap (λ (t : List ℕ). t ++ g.given.more)
        (node_packs_law (kind_of d) (payload_of d) (packs_of d) named zs) in
        let z = drop_head w k _ _ h in
        let a : length (payload_of (suc d) g.t) ≡ length (encoded (length (body_of d named zs))) + length (body_of d named zs)
        = ap (λ (t : Tree (suc d)). length (payload_of (suc d) t)) et ∙ ap length (node_payload_law (kind_of d) (payload_of d) named zs) ∙ length-append
        (encoded (length (body_of d named zs))) (body_of d named zs) in
        let c = contents_used (kind_of d) (payload_of d) (packs_of d) (read_frames d) (read_used d) named (length (drop at s)) [] (drop at s) zs g.r
        (bytes_drop s at g.given.bytes) e in
        let n : length (drop at s) ≡ length c.pre + length g.r = ap length c.all ∙ length-append c.pre g.r in
        record {
          zs = zs;
          is_t = g.given.reads ∙ ap (λ (t : Tree (suc d)). framed t g.r) et;
          todo = e;
          num = z.0;
          mine = z.1;
          holds = z.2;
          room =
              omega (arith, g.room);
          few = omega (arith, c.count, g.given.short, length-drop at s);
        }

    record Num (x : ℕ) (zs : List (List ℕ × Tree d)) : Type 0 where
      pub size : size_in x ≡ length (body_of d named zs)
      pub uni : uniform_in x ≡ uniform named (shared_of d zs)
      pub width : width_in x ≡ length (count_part named (length zs))
      pub byte : shared_part named (uniform_in x) (shared_in x) ≡ shared_part named (uniform named (shared_of d zs)) (shared_of d zs)

    num : Num (get_or w k 0) parts.zs
    unfolding shared_part
    num = let q = parts in let zs = q.zs in let z = length (body_of d named zs) in
        let u : uniform_in (get_or w k 0) ≡ uniform named (shared_of d zs) = rw q.num (packed_uniform (kind_of d) named zs z (omega (arith, q.few))) in
        let c : shared_in (get_or w k 0) ≡ cond (uniform named (shared_of d zs)) (shared_of d zs) 0 = rw q.num
        (packed_shared_in (kind_of d) named zs z (omega (arith, q.few))) in
        record {
          size = rw q.num (packed_size (kind_of d) named zs z (omega (arith, q.few)));
          uni = u;
          width = rw q.num
              (packed_width (kind_of d) named zs z (omega (arith, q.few)));
          byte = rw (u, c) (go (uniform named (shared_of d zs)) (shared_of d zs));
        }
      where
        go : (b : Bool) (c : ℕ) → cond b ((flags (shared_mark named) + cond b c 0) ∷ []) [] ≡ cond b ((flags (shared_mark named) + c) ∷ []) []
        go true c = refl
        go false c = refl

    pub put_can : CanOpen named to k out w (get_or w k 0)
    put_can = let q = parts in let m = num in
        let z = body_size d named q.zs in
        let y : length (parts_of d named q.zs q.zs) ≡ length (shared_part named (uniform named (shared_of d q.zs)) (shared_of d q.zs)) + length
        (concat (part_of d named (not (uniform named (shared_of d q.zs)))) q.zs) = length-append
        (shared_part named (uniform named (shared_of d q.zs)) (shared_of d q.zs)) (concat (part_of d named (not (uniform named (shared_of d q.zs))))
        q.zs) in
        record { mine = q.mine; room = rw (m.byte, m.size, m.width) (omega (arith, q.room)) }

    pub put_mine : k < length w
    put_mine = parts.mine

    pub put_start : (out₁ w₁ : List ℕ) (h : Opened) → HasOpened named to k out out₁ w w₁ (get_or w k 0) h → PutLoop d s at named to k out w h.count
        h.typed out₁ w₁ at h.to (k + 1) 0
    put_start out₁ w₁ h v = let q = parts in let m = num in
        let c = shared_of d q.zs in
        let x = get_or w k 0 in
        let z = body_size d named q.zs in
        let y : length (parts_of d named q.zs q.zs) ≡ length (shared_part named (uniform named c) c) + length
        (concat (part_of d named (not (uniform named c))) q.zs) = length-append (shared_part named (uniform named c) c)
        (concat (part_of d named (not (uniform named c))) q.zs) in
        let eq : h.count ≡ to + length (encoded (length (body_of d named q.zs))) = v.is_count ∙ rw m.size in
        let ee : h.to ≡ h.count + length (count_part named (length q.zs)) + length (shared_part named (uniform named c) c) = v.is_to ∙ rw
        (m.byte, m.width) in
        let ef : h.typed ≡ not (uniform named c) = v.is_typed_law ∙ rw m.uni in
        let ew : w₁ ≡ set w k (length (body_of d named q.zs)) = v.is_work ∙ rw m.size in
        record {
          zs = q.zs;
          xs = [];
          ys = q.zs;
          all = refl;
          r = g.r;
          more = g.given.more;
          fuel = length (drop at s);
          used = [];
          bytes = g.given.bytes;
          short = g.given.short;
          high = g.given.inside;
          less = omega arith;
          whole = q.is_t;
          todo = q.todo;
          is_q = eq;
          is_typed_law = ef;
          is_out = v.is_out ∙ rw (m.byte, m.width, m.size, append_nil);
          is_e = rw append_nil ee;
          is_n = refl;
          is_j = refl;
          is_work = ew;
          holds = rw (ew, drop-set-lt (k + 1) w k (length (body_of d named q.zs)) (omega arith)) q.holds;
          room = rw ef (omega (arith, q.room));
        }
