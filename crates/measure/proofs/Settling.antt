-- The whole first pass, by cases.
use Rattle.std.specs.Prelude.{Result, Ok, Err, is_err}
use Prim.Native.Nat.{ℕ, suc, ◌+◌, ◌-◌, ◌≤◌, ◌<◌}
use native.Mathlib.Omega.{arith}
use native.Mathlib.Nat.{zero-add}
use mathlib.Core.Path.{◌≡◌, refl, sym, ap, ◌∙◌}
use mathlib.Core.Bool.{Bool, true, false, ◌||◌, cond}
use mathlib.Core.Option.{none}
use mathlib.Core.List.{List, [], ◌∷◌, ◌++◌}
use lib.ListN.{length, get_or, length-replicate}
use lib.Seq.{sets}
use lib.Dec.{ltb, leb}
use borrow.Author.Tests.{lt-ltb, le-ltb, ltb-false, leb-true, leb-false, eq-eqb, ne_eqb}
use Rattle.number.proofs.Clash.{clash}
use Rattle.number.proofs.ReadLaws.{Known, bytes_of}
use Rattle.frames.specs.declared.Refusal.TheVariants.{ListEnds, NoneOpen, ListTooLong, FewWorkNumbers, EncodingTooLong}
use Rattle.frames.specs.declared.Refused.{Refused}
use Rattle.format.specs.Limits.{length_limit}
use Rattle.format.specs.Kinds.{id}
use Rattle.format.specs.Tree.{Tree}
use Rattle.format.specs.Encoding.{kind_of, payload_of, encoding, sizes_of}
use Rattle.frames.specs.WriteList.{Frames, refused, framed, next, read_frames, only, read_list}
use Rattle.frames.specs.Writer.{Outcome, refuse, wrote, outcome_of, zeros, refused_at}
use Rattle.frames.specs.Container.{name_part, packs_of}
use Rattle.frames.proofs.PlaceLaws.{sets_front, drop_zeros}
use Rattle.frames.proofs.PackedLaws.{numbers_long}
use Rattle.settle.specs.declared.Measured.{Measured}
use Rattle.settle.specs.declared.Settled.{Settled}
use Rattle.measure.specs.Passes.{field_measured, field_work, FieldAt, Lent}
use Rattle.measure.specs.Settle.{measurement, settled_by, settled_after, settled_within, settled}
use Rattle.settle.specs.Decided.{decided_of}
use Rattle.settle.specs.Made.{ready}
use Rattle.container.proofs.Clearing.{AllZero}

pub lent_start : (s : List ℕ) → Known s → length s ≤ 65536 → Lent s 0 0
lent_start s kn h = record { bytes = bytes_of s kn; short = h; few_numbers = omega arith }

-- ---- what is settled, by its answer

by_refused : (numbers i : ℕ) (ps : List ℕ) (x : Outcome) (q : Refused) → (settled_by numbers i ps x).answer ≡ Err q
    → measurement (Err q) (zeros numbers) ≡ settled_by numbers i ps x
by_refused numbers i ps (refuse m p) q h = ap (λ a. measurement a (zeros numbers)) (sym h)
by_refused numbers i ps (wrote e z) q h = clash cc

by_ready : (numbers i : ℕ) (ps : List ℕ) (x : Outcome) (t : Settled) → (settled_by numbers i ps x).answer ≡ Ok t
    → measurement (Ok t) (ps ++ zeros (numbers - length ps)) ≡ settled_by numbers i ps x
by_ready numbers i ps (refuse m q) t h = clash cc
by_ready numbers i ps (wrote e z) t h = ap (λ a. measurement a (ps ++ zeros (numbers - length ps))) (sym h)

-- what is written has no more containers than there are numbers
ready_few : (numbers room i : ℕ) (ps e z : List ℕ) (t : Settled) → (settled_by numbers i ps (outcome_of room numbers e z)).answer ≡ Ok t → length z ≤ numbers
ready_few numbers room i ps e z t h = go (ltb numbers (length z)) refl h
  where
    go : (b : Bool) → ltb numbers (length z) ≡ b
        → (settled_by numbers i ps (cond b (refuse FewWorkNumbers 0) (cond (ltb room (length e) || ltb length_limit (length e)) (refuse EncodingTooLong 0)
        (wrote e z)))).answer ≡ Ok t → length z ≤ numbers
    go true e h = clash cc
    go false e h = ltb-false numbers (length z) e

-- ---- what the code decides is what is settled

same_end : (numbers room k z i : ℕ) (ps e zs : List ℕ) → length e ≡ suc z → length zs ≡ k
    → cond (ltb numbers k) (refused_at FewWorkNumbers 0) (cond (leb room z) (refused_at EncodingTooLong 0)
    (cond (leb length_limit z) (refused_at EncodingTooLong 0) (ready i (z + 1))))
    ≡ (settled_by numbers i ps (outcome_of room numbers e zs)).answer
same_end numbers room k z i ps e zs el kl = rw (el, kl) (go (ltb numbers k) (leb room z) refl (leb length_limit z) refl)
  where
    last : z + 1 ≡ suc z
    last = omega arith

    go : (a b : Bool) → leb room z ≡ b → (c : Bool) → leb length_limit z ≡ c
        → cond a (refused_at FewWorkNumbers 0) (cond b (refused_at EncodingTooLong 0) (cond c (refused_at EncodingTooLong 0) (ready i (z + 1))))
        ≡ (settled_by numbers i ps (cond a (refuse FewWorkNumbers 0) (cond (ltb room (suc z) || ltb length_limit (suc z)) (refuse EncodingTooLong 0)
        (wrote e zs)))).answer
    go true b eb c ec = refl
    go false true eb c ec = let h = leb-true room z eb in rw (lt-ltb room (suc z) (omega arith))
    go false false eb true ec = let h = leb-false room z eb in let h₁ = leb-true length_limit z ec in
        rw (le-ltb room (suc z) (omega arith), lt-ltb length_limit (suc z) (omega arith))
    go false false eb false ec = let h = leb-false room z eb in let h₁ = leb-false length_limit z ec in
        rw (le-ltb room (suc z) (omega arith), le-ltb length_limit (suc z) (omega arith), el, last)

module _ (d : ℕ) (s : List ℕ) (room : ℕ) (w : List ℕ) where
  decided_is : 0 < length s → (o : Frames (List ℕ × Tree d))
      → decided_of (field_measured d (length s) false 0 o) (length s) room (length w) ≡ (settled_after d room (length w) s (next o only)).answer
  unfolding encoding name_part
  decided_is l (refused n r) = refl
  decided_is l (framed x (c ∷ r)) = rw (lt-ltb (length s - suc (length r)) (length s) (omega arith))
  decided_is l (framed x []) =
      let z = length (payload_of d x.1) in
      rw (le-ltb (length s - 0) (length s) (omega arith), zero-add z, zero-add (length (packs_of d x.1)))
      (same_end (length w) room (length (packs_of d x.1)) z (id (kind_of d x.1)) (packs_of d x.1) (encoding d x.1) (sizes_of d x.1) refl
      (sym (numbers_long d x.1)))

  pub s_none : length s ≤ 0 → (z : List ℕ) → AllZero w z → measurement (refused_at ListEnds 0) z ≡ settled_within d s room w
  unfolding settled_within read_list
  s_none i z e = rw e.is (go s i)
    where
      go : (s : List ℕ) → length s ≤ 0 → measurement (refused_at ListEnds 0) (zeros (length w)) ≡ settled_after d room (length w) s (read_list d s)
      go [] i = refl
      go (b ∷ s) i = absurd (omega arith)

  module _ (i : 0 < length s) where
    pub s_shut : get_or s 0 0 ≡ 0 → (z : List ℕ) → AllZero w z → measurement (refused_at NoneOpen 0) z ≡ settled_within d s room w
    unfolding settled_within read_list
    s_shut b z e = rw e.is (go s b i)
      where
        go : (s : List ℕ) → get_or s 0 0 ≡ 0 → 0 < length s → measurement (refused_at NoneOpen 0) (zeros (length w))
            ≡ settled_after d room (length w) s (read_list d s)
        go [] b i = absurd (omega arith)
        go (x ∷ s) b i = rw (eq-eqb x 0 b) (ap (λ (n : ℕ). measurement (refused_at NoneOpen n) (zeros (length w))) (omega arith))

    module _ (b : get_or s 0 0 ≡ 0 → ⊥) where
      top_is : settled_after d room (length w) s (next (read_frames d none s) only) ≡ settled_within d s room w
      unfolding settled_within read_list
      top_is = go s b i
        where
          go : (s : List ℕ) → (get_or s 0 0 ≡ 0 → ⊥) → 0 < length s → settled_after d room (length w) s (next (read_frames d none s) only)
              ≡ settled_after d room (length w) s (read_list d s)
          go [] b i = absurd (omega arith)
          go (x ∷ s) b i = rw (ne_eqb x 0 b)

      module _ (w₀ w₁ : List ℕ) (m : Result Measured Refused) (y : FieldAt d s 0 false 0 w₀ w₁ m) (v : Result Settled Refused) (numbers : ℕ) (en : numbers ≡ length w)
          (ev : v ≡ decided_of m (length s) room numbers) where
        answer_is : v ≡ (settled_after d room (length w) s (next (read_frames d none s) only)).answer
        answer_is = ev ∙ rw (y.answer, en) (decided_is i (read_frames d none s))

        s_refused : (q : Refused) → v ≡ Err q → (z : List ℕ) → AllZero w z → measurement (Err q) z ≡ settled_within d s room w
        s_refused q e z ez = rw ez.is (go (next (read_frames d none s) only) (sym answer_is ∙ e) ∙ top_is)
          where
            go : (o : Frames (Tree d)) → (settled_after d room (length w) s o).answer ≡ Err q
                → measurement (Err q) (zeros (length w)) ≡ settled_after d room (length w) s o
            go (refused m r) h = by_refused (length w) 0 [] (refuse m (length s - length r)) q h
            go (framed t r) h = by_refused (length w) (id (kind_of d t)) (packs_of d t) (outcome_of room (length w) (encoding d t) (sizes_of d t)) q h

        s_ready : (t : Settled) → v ≡ Ok t → AllZero w w₀ → measurement (Ok t) w₁ ≡ settled_within d s room w
        s_ready t e ez = go (read_frames d none s) (sym answer_is ∙ e) y.work ∙ top_is
          where
            put : (t : Tree d) → length (sizes_of d t) ≤ length w → sets w₀ 0 (packs_of d t) ≡ packs_of d t ++ zeros (length w - length (packs_of d t))
            put t h =
                let n = numbers_long d t in
                let k : length w₀ ≡ length w = rw (ez.is, length-replicate) in
                sets_front (packs_of d t) w₀ (omega arith) ∙ rw ez.is (ap (λ (u : List ℕ). packs_of d t ++ u)
                (drop_zeros (length w) (length (packs_of d t)) (omega arith)))

            go : (o : Frames (List ℕ × Tree d)) → (settled_after d room (length w) s (next o only)).answer ≡ Ok t → w₁ ≡ field_work d 0 w₀ w₁ o
                → measurement (Ok t) w₁ ≡ settled_after d room (length w) s (next o only)
            go (refused m r) h k = clash cc
            go (framed x (c ∷ r)) h k = clash cc
            go (framed x []) h k =
                let i = id (kind_of d x.1) in
                let ps = packs_of d x.1 in
                let few = ready_few (length w) room i ps (encoding d x.1) (sizes_of d x.1) t h in
                ap (measurement (Ok t)) (k ∙ put x.1 few) ∙ by_ready (length w) i ps
                (outcome_of room (length w) (encoding d x.1) (sizes_of d x.1)) t h

        -- by what was asked of it
        pub s_failed : is_err v ≡ true → (z : List ℕ) → AllZero w z → measurement v z ≡ settled_within d s room w
        s_failed h z ez = go v refl h
          where
            go : (x : Result Settled Refused) → v ≡ x → is_err x ≡ true → measurement x z ≡ settled_within d s room w
            go (Err q) e h = s_refused q e z ez
            go (Ok t) e h = clash cc

        pub s_done : is_err v ≡ false → AllZero w w₀ → measurement v w₁ ≡ settled_within d s room w
        s_done h ez = go v refl h
          where
            go : (x : Result Settled Refused) → v ≡ x → is_err x ≡ false → measurement x w₁ ≡ settled_within d s room w
            go (Err q) e h = clash cc
            go (Ok t) e h = s_ready t e ez

-- ---- any list

pub settled_long : (s : List ℕ) (room : ℕ) (w z : List ℕ) → length_limit < length s → AllZero w z → measurement (refused_at ListTooLong 0) z ≡ settled s room w
unfolding settled
settled_long s room w z h e = rw (lt-ltb length_limit (length s) h, e.is)

pub settled_short : (s : List ℕ) (room : ℕ) (w : List ℕ) (r : Result Settled Refused) (w' : List ℕ) (d : ℕ) → d ≡ 32 → length s ≤ length_limit
    → measurement r w' ≡ settled_within d s room w → measurement r w' ≡ settled s room w
unfolding settled
settled_short s room w r w' d ed h e = rw (le-ltb length_limit (length s) h) (rw ed at e)
