-- The first pass, the loop over the fields of an object or the items of an array: its end, its close, and one field more.
use Rattle.std.specs.Prelude.{Result, Ok, Err}
use Prim.Native.Nat.{ℕ, zero, suc, ◌+◌, ◌-◌, ◌≤◌, ◌<◌}
use native.Mathlib.Omega.{arith}
use native.Mathlib.Numerals.{add-one}
use mathlib.Core.Path.{◌≡◌, refl, sym, ap, ◌∙◌}
use mathlib.Core.Bool.{Bool}
use mathlib.Core.List.{List, [], ◌∷◌, ◌++◌, append_assoc}
use lib.ListN.{length, drop, get_or, length-append, drop_of_length-le}
use mir.Syntax.{w64}
use mir.Val.{Fits}
use borrow.Author.Tests.{ne_eqb}
use Rattle.number.proofs.Clash.{clash}
use Rattle.number.specs.VarUInt.{encoded}
use Rattle.frames.specs.declared.Refusal.TheVariants.{ListEnds}
use Rattle.frames.specs.declared.Refused.{Refused}
use Rattle.format.specs.Kinds.{id}
use Rattle.format.specs.Tree.{Tree}
use Rattle.format.specs.Encoding.{node_kind, node_payload, kind_of, payload_of}
use Rattle.format.proofs.Lists.{append_nil}
use Rattle.frames.specs.WriteList.{Frames, refused, framed, next, read_frames}
use Rattle.frames.specs.Container.{node_of, ids, container_id, name_part, body, size_by, packed, packs_of}
use Rattle.frames.specs.FramePieces.{mode_of}
use Rattle.frames.specs.Writer.{refused_at}
use Rattle.frames.proofs.PlaceLaws.{rest, bytes_drop, set_sets, sets_append, place, tail_at}
use Rattle.frames.proofs.SharedLaws.{concat_snoc, shared_snoc, node_id}
use Rattle.frames.proofs.ContainerLaws.{node_packs_law, body_length, payload_length}
use Rattle.frames.proofs.Used.{read_used}
use Rattle.run.specs.Run.{shared, join, uniform}
use Rattle.measure.specs.Passes.{field_measured, field_work, ClosedBy, PayloadBy, FieldAt, Lent}
use Rattle.measure.proofs.LoopState.{loosely, onto, loose_of, LooseAt, packs_in, Loop}
use Rattle.settle.specs.declared.Measured.{Measured}
use Rattle.measure.proofs.MadeLaws.{measured_same}

module _ (d : ℕ) (s : List ℕ) (at : ℕ) (named : Bool) (k : ℕ) (w₀ w : List ℕ) (p j n sum c : ℕ) (l : Loop d s at named k w₀ w p j n sum c) where
  pub loop_end : (before : ℕ) (w' : List ℕ) → length s ≤ p → LooseAt d s at before named k w₀ w' (refused_at ListEnds p)
  loop_end before w' h = rw (l.whole, drop_of_length-le s h) (go l.fuel)
    where
      go : (f : ℕ) → PayloadBy (suc d) (length s) before k w₀ w' (refused_at ListEnds p) (onto named l.xs (loosely d named f l.used []))
      go zero = record { answer = ap (λ (x : ℕ). refused_at ListEnds x) (omega (arith, l.high)); work = refl }
      go (suc f) = record { answer = ap (λ (x : ℕ). refused_at ListEnds x) (omega (arith, l.high)); work = refl }

  pub loop_lent : Lent s at k → Lent s p j
  loop_lent lt = record { bytes = lt.bytes; short = lt.short; few_numbers = l.few_numbers }

  module _ (h : p < length s) where
    fuelled : (P : ℕ → Type 0) → ((f : ℕ) → length s ≤ p + suc f → P (suc f)) → P l.fuel
    fuelled P f = go l.fuel l.enough
      where
        go : (n : ℕ) → length s ≤ p + n → P n
        go zero e = absurd (omega arith)
        go (suc n) e = f n e

    pub loop_close : (before : ℕ) (w' : List ℕ) (m : Result Measured Refused) → get_or s p 0 ≡ 0 → ClosedBy named c n sum p before k j w w' m
        → LooseAt d s at before named k w₀ w' m
    loop_close before w' m e by =
        let a : loosely d named l.fuel l.used (drop p s) ≡ framed [] (drop (p + 1) s) =
        fuelled (λ f. loosely d named f l.used (drop p s) ≡ framed [] (drop (p + 1) s)) (λ f q. rw (rest s p h, e)) in
        let b : size_by named c n sum ≡ length (body named (kind_of d) (payload_of d) l.xs) =
        rw (body_length (kind_of d) (payload_of d) named l.xs, ← l.is_c, ← l.is_n, ← l.is_sum) in
        let y : length (node_payload (kind_of d) (payload_of d) (node_of named l.xs)) ≡ length (encoded (size_by named c n sum)) + size_by named c n sum =
        payload_length (kind_of d) (payload_of d) named l.xs ∙ rw (← b) in
        let x : id (node_kind (kind_of d) (node_of named l.xs)) ≡ container_id named (uniform named c) =
        node_id (kind_of d) named l.xs ∙ rw (← l.is_c) in
        let q = node_packs_law (kind_of d) (payload_of d) (packs_of d) named l.xs in
        let v = packed named c n (size_by named c n sum) in
        let g : packed named (shared (ids (kind_of d) l.xs)) (length l.xs) (length (body named (kind_of d) (payload_of d) l.xs)) ≡ v =
        rw (← b, ← l.is_c, ← l.is_n) in
        let o : packs_of (suc d) (node_of named l.xs) ≡ v ∷ packs_in d l.xs = q ∙ ap (λ (t : ℕ). t ∷ packs_in d l.xs) g in
        let r : k + length (packs_of (suc d) (node_of named l.xs)) ≡ j = rw o (omega (arith, l.is_j)) in
        rw (l.whole, a, append_nil l.xs) (record {
          answer = by.answer ∙ rw (place s (p + 1) (omega arith), x, y, r);
          work = by.work ∙ rw (l.is_work, o, add-one k) (set_sets (packs_in d l.xs) w₀ k (suc k) v (omega arith));
        })

    module _ (m : Result Measured Refused) (w' : List ℕ) (z : get_or s p 0 ≡ 0 → ⊥) (y : FieldAt d s p named j w w' m) where
      abbrev Field : Type 0
      Field = Frames (List ℕ × Tree d)

      step : (o : Field) → read_frames d (mode_of named []) (drop p s) ≡ o → (f : ℕ)
          → loosely d named (suc f) l.used (drop p s) ≡ next o λ x r. next (loosely d named f (x.0 ∷ l.used) r) λ xs q. framed (x ∷ xs) q
      step o e f = rw (rest s p h, ne_eqb (get_or s p 0) 0 z, ← rest s p h, e)

      pub loop_refuse : (before : ℕ) (a : Refused) → m ≡ Err a → LooseAt d s at before named k w₀ w' (Err a)
      loop_refuse before a e = go (read_frames d (mode_of named []) (drop p s)) refl (sym e ∙ y.answer)
        where
          go : (o : Field) → read_frames d (mode_of named []) (drop p s) ≡ o → Err a ≡ field_measured d (length s) named j o
              → LooseAt d s at before named k w₀ w' (Err a)
          go (refused i r) e₁ e₂ =
              let b : loosely d named l.fuel l.used (drop p s) ≡ refused i r =
              fuelled (λ f. loosely d named f l.used (drop p s) ≡ refused i r) (λ f b. step (refused i r) e₁ f) in
              rw (l.whole, b) (record { answer = e₂; work = refl })
          go (framed x r) e₁ e₂ = clash cc

      module _ (lt : Lent s at k) (fd : Measured) (e : m ≡ Ok fd) where
        record Stepped : Type 0 where
          pub now : Loop d s at named k w₀ w' fd.next fd.opened (n + 1) (sum + fd.size) (join c fd.id)
          pub on : p < fd.next

        stepped : Stepped
        stepped = go (read_frames d (mode_of named []) (drop p s)) refl (sym e ∙ y.answer) y.work
          where
            snoc : (x : List ℕ × Tree d) (o : Frames (List (List ℕ × Tree d))) → onto named l.xs (next o λ xs q. framed (x ∷ xs) q)
                ≡ onto named (l.xs ++ (x ∷ [])) o
            snoc x (refused i q) = refl
            snoc x (framed ys q) = rw append_assoc

            go : (o : Field) → read_frames d (mode_of named []) (drop p s) ≡ o → Ok fd ≡ field_measured d (length s) named j o
                → w' ≡ field_work d j w w' o → Stepped
            go (refused i r) e₁ e₂ e₃ = clash cc
            go (framed x r) e₁ e₂ e₃ =
                let g = read_used d named [] (drop p s) x r (bytes_drop s p lt.bytes) e₁ in
                let t = tail_at s p g.pre r l.high g.all in
                let same = measured_same e₂ in
                let en : fd.next ≡ length s - length r = same.0 in
                let ei : fd.id ≡ id (kind_of d x.1) = same.1 in
                let el : fd.size ≡ length (name_part named x.0) + length (payload_of d x.1) = same.2 in
                let ej : fd.opened ≡ j + length (packs_of d x.1) = same.3 in
                let eq : fd.next ≡ p + length g.pre = en ∙ t.0 in
                let er : drop fd.next s ≡ r = rw eq t.2 in
                let cs = concat_snoc (λ (x : List ℕ × Tree d). name_part named x.0 ++ payload_of d x.1) l.xs x in
                let cp = concat_snoc (λ (x : List ℕ × Tree d). packs_of d x.1) l.xs x in
                record {
                  on = omega (arith, g.some);
                  now =
                      fuelled (λ f. (loose_of d named (drop at s) ≡ onto named l.xs (loosely d named f l.used (drop p s)))
                      → Loop d s at named k w₀ w' fd.next fd.opened (n + 1) (sum + fd.size) (join c fd.id))
                      (λ f b a. record {
                        xs = l.xs ++ (x ∷ []);
                        fuel = f;
                        used = x.0 ∷ l.used;
                        enough = omega (arith, g.some);
                        low = omega (arith, l.low);
                        high = omega (arith, t.1);
                        whole = a ∙ rw (step (framed x r) e₁ f, er) (snoc x (loosely d named f (x.0 ∷ l.used) r));
                        is_n = rw length-append (omega (arith, l.is_n));
                        is_sum = rw (cs, length-append, length-append, ← l.is_sum, el);
                        is_c = rw (shared_snoc (kind_of d) l.xs x, ← l.is_c, ei);
                        is_j = rw (cp, length-append) (omega (arith, l.is_j));
                        is_work = rw (cp, ← sets_append, ← l.is_j, ← l.is_work) e₃;
                        few_numbers = omega (arith, l.few_numbers, g.few);
                        few = omega (arith, l.few, g.some);
                        small = omega (arith, l.small, g.small);
                      }) l.whole;
                }

        pub loop_step : (c' : ℕ) → c' ≡ join c fd.id → Loop d s at named k w₀ w' fd.next fd.opened (n + 1) (sum + fd.size) c'
        loop_step c' q = rw q stepped.now

        pub loop_sum : Fits w64 (sum + fd.size)
        loop_sum = let b = stepped.now in record { fits = omega (arith, b.small, b.high, lt.short) }

        pub loop_less : length s - fd.next < length s - p
        loop_less = let b = stepped.now in omega (arith, stepped.on, b.high)
