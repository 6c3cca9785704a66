-- The fields of a container one after another, as the loops read them.
use Rattle.std.specs.Prelude.{Result, Err, Ok}
use Prim.Native.Nat.{ℕ, zero, suc, ◌+◌, ◌-◌, ◌≤◌, ◌<◌}
use native.Mathlib.Omega.{arith}
use mathlib.Core.Path.{◌≡◌, refl, sym, ap, ◌∙◌}
use mathlib.Core.Bool.{false, ◌&&◌}
use mathlib.Core.List.{List, [], ◌∷◌, ◌++◌, append_assoc, map}
use lib.ListN.{length, drop, length-drop}
use lib.Seq.{drop-drop}
use Rattle.number.proofs.Clash.{clash}
use Rattle.format.specs.declared.Kind.{Kind}
use Rattle.format.specs.declared.Form.{Form}
use Rattle.format.specs.declared.Stop.{Stop}
use Rattle.format.specs.declared.Stop.TheVariants.{Early}
use Rattle.faults.specs.declared.Modes.{Modes}
use Rattle.faults.specs.declared.Faults.{Faults}
use Rattle.format.specs.Kinds.{id, is_uniform, is_uniform_array}
use Rattle.format.specs.Names.{twins}
use Rattle.format.specs.Tree.{array, object}
use Rattle.format.specs.declared.Flaw.TheVariants.{Twin, NotUniform}
use Rattle.format.specs.Parse.{Out, fault, got, bind, whole, many, fill}
use Rattle.format.specs.Payload.{fields_in, items_in}
use Rattle.format.specs.Reader.{kinds_in, names_in, is_typed, read}
use Rattle.faults.specs.Noted.{noted, flaw_if}
use Rattle.front.specs.Code.{answer_of}
use Rattle.front.specs.Between.{between}
use Rattle.format.proofs.Local.{with_put}
use Rattle.front.proofs.BetweenLaws.{end_drop, rest_all}
use Rattle.faults.proofs.NotedLaws.{noted_more}
use Rattle.contents.specs.declared.Field.{Field}
use Rattle.names.specs.FieldNames.{twins_at}
use Rattle.contents.specs.Contents.{object_end, array_end}
use Rattle.contents.specs.Made.{field_read}
use Rattle.contents.proofs.EndLaws.{object_unasked}
use Rattle.contents.proofs.MadeLaws.{field_same}
use Rattle.checks.specs.Checks.{field_at, contents_at}
use Rattle.run.specs.Run.{join}
use Rattle.run.proofs.RunLaws.{run_uniform, run_uniform_array}
use Rattle.names.proofs.ReadNames.{names_read, read_ends}
use Rattle.checks.proofs.ReadingOn.{Read, Sofar, nil, raised, sofar_start, sofar_fault, sofar_stop, sofar_step}

-- ---- a loop in its part: `way` reads as many as it may

pub record Along (m : Modes) (d : ℕ) (g : Faults) (way : ℕ → List ℕ
    → Out (List (Read d))) (start : ℕ) (s : List ℕ) (at room : ℕ) (h : Faults) (u : ℕ) : Type 0 where
  pub inside : at ≤ length s
  pub sofar : Sofar m d g (way start s) (way room (drop at s)) h u

abbrev Next : (d : ℕ) → Form → (ℕ → List ℕ → Out (List (Read d))) → ℕ → List ℕ → Type 0
Next d f way room t = way room t ≡ bind (read d f t) λ x r. bind (way (room - 1) r) λ xs q. got (x ∷ xs) [] q

module _ (f : Form) (m : Modes) (d : ℕ) (g : Faults) (way : ℕ → List ℕ → Out (List (Read d))) (start : ℕ) (s : List ℕ) where
  along_start : Along m d g way start s 0 start g 0
  along_start = record { inside = omega arith; sofar = sofar_start m d g (way start s) }

  module _ (at room : ℕ) (h : Faults) (u : ℕ) (l : Along m d g way start s at room h u) (x : Result Field Stop)
      (e : x ≡ field_at f m d h (between at (length s) s)) (n : Next d f way room (drop at s)) where
    along_fault : (j : Stop) → x ≡ Err j → way start s ≡ fault j
    unfolding field_at
    along_fault j i = go (read d f (drop at s)) refl (rw (rest_all at s) at (sym i ∙ e))
      where
        go : (o : Out (Read d)) → read d f (drop at s) ≡ o
            → Err j ≡ answer_of Err (λ x h r. field_read x.1.0 (length (drop at s) - length r) h) m h o → way start s ≡ fault j
        go (fault k) p q = let z : j ≡ k = cc in rw z (sofar_fault m d g (way start s) (way room (drop at s)) h u l.sofar k (rw p at n))
        go (got y gs r) p q = clash cc

    along_step : (one : Field) → x ≡ Ok one → Along m d g way start s (at + one.end) (room - 1) one.faults (join u (id one.kind))
    unfolding field_at
    along_step one i = go (read d f (drop at s)) refl (rw (rest_all at s) at (sym i ∙ e))
      where
        go : (o : Out (Read d)) → read d f (drop at s) ≡ o → Ok one ≡ answer_of Err (λ x h r. field_read x.1.0 (length (drop at s) - length r) h) m h o
            → Along m d g way start s (at + one.end) (room - 1) one.faults (join u (id one.kind))
        go (fault j) p q = clash cc
        go (got y gs r) p q =
            let w = read_ends d f (drop at s) p in
            let same = field_same one (field_read y.1.0 (length (drop at s) - length r) (noted m h gs)) q in
            let b : drop one.end (drop at s) ≡ r = rw same.1 (end_drop (drop at s) w.0 r w.1) in
            let c : drop (at + one.end) s ≡ r = sym (drop-drop one.end at s) ∙ b in
            record {
              inside = omega (arith, l.inside, length-drop at s, same.1);
              sofar =
                  rw (same.0, same.2, c) (sofar_step m d g (way start s) (way room (drop at s)) h u l.sofar y gs (way (room - 1) r) (rw p at n));
            }

-- the two ways
many_next : (d : ℕ) (f : Form) (room : ℕ) (t : List ℕ) → 0 < room → Next d f (many (read d f)) room t
many_next d f zero t i = absurd (omega arith)
many_next d f (suc n) t i = let e : suc n - 1 ≡ n = omega arith in rw e

fill_next : (d : ℕ) (f : Form) (room : ℕ) (t : List ℕ) → 0 < room → 0 < length t → Next d f (fill (read d f)) room t
fill_next d f zero t i j = absurd (omega arith)
fill_next d f (suc n) [] i j = absurd (omega arith)
fill_next d f (suc n) (b ∷ t) i j = let e : suc n - 1 ≡ n = omega arith in rw e

fill_out : {A : Type 0} (p : List ℕ → Out A) (t : List ℕ) → 0 < length t → fill p 0 t ≡ fault Early
fill_out p [] i = absurd (omega arith)
fill_out p (b ∷ t) i = refl

fill_end : {A : Type 0} (p : List ℕ → Out A) (n : ℕ) (t : List ℕ) → length t ≡ 0 → fill p n t ≡ got [] [] []
fill_end p zero [] e = refl
fill_end p (suc n) [] e = refl
fill_end p n (b ∷ t) e = absurd (omega arith)

-- ---- an object

abbrev pub Fields : Form → Modes → ℕ → Faults → List ℕ → ℕ → ℕ → Faults → ℕ → Type 0
Fields f m d g s at room h u = Along m d g (fill (read d f)) (length s) s at room h u

module _ (f : Form) (m : Modes) (d : ℕ) (g : Faults) (s : List ℕ) where
  pub fields_start : Fields f m d g s 0 (length s) g 0
  fields_start = along_start f m d g (fill (read d f)) (length s) s

  object_fault : (j : Stop) → fill (read d f) (length s) s ≡ fault j → Err j ≡ contents_at (fields_in f s) m d g
  unfolding contents_at
  object_fault j e = rw e

  module _ (at room : ℕ) (h : Faults) (u : ℕ) (l : Fields f m d g s at room h u) where
    -- more fields than bytes
    pub fields_out : room ≡ 0 → at < length s → Err Early ≡ contents_at (fields_in f s) m d g
    fields_out z i = object_fault Early
        (sofar_fault m d g _ _ h u l.sofar Early (rw z (fill_out (read d f) (drop at s) (rw (length-drop at s) (omega arith)))))

    module _ (i : 0 < room) (j : at < length s) (x : Result Field Stop) (e : x ≡ field_at f m d h (between at (length s) s)) where
      next : Next d f (fill (read d f)) room (drop at s)
      next = fill_next d f room (drop at s) i (rw (length-drop at s) (omega arith))

      pub fields_fault : (k : Stop) → x ≡ Err k → Err k ≡ contents_at (fields_in f s) m d g
      fields_fault k z = object_fault k (along_fault f m d g (fill (read d f)) (length s) s at room h u l x e next k z)

      pub fields_step : (one : Field) → x ≡ Ok one → Fields f m d g s (at + one.end) (room - 1) one.faults (join u (id one.kind))
      fields_step one z = along_step f m d g (fill (read d f)) (length s) s at room h u l x e next one z

    pub fields_end : length s ≤ at → (v : Faults) → v ≡ object_end f m h u (twins_at f s) → Ok v ≡ contents_at (fields_in f s) m d g
    unfolding contents_at object_end twins_at
    fields_end i v e =
        let z = l.sofar in
        let o = sofar_stop m d g _ _ h u z [] (fill_end (read d f) room (drop at s) (rw (length-drop at s) (omega arith))) in
        let a = is_typed f && is_uniform (kinds_in z.xs) in
        let b = twins (names_in z.xs) in
        rw (
          o,
          raised b Twin (object z.xs) [] [],
          raised a NotUniform (object z.xs) (flaw_if b Twin ++ []) [],
          with_put z.fs (flaw_if a NotUniform ++ (flaw_if b Twin ++ [])) (object z.xs) [],
          e,
          names_read d f s o,
          z.run,
          run_uniform (kinds_in z.xs),
          z.met,
          noted_more m g z.fs (flaw_if a NotUniform),
          noted_more m g (z.fs ++ flaw_if a NotUniform) (flaw_if b Twin),
          nil (flaw_if b Twin),
          append_assoc z.fs (flaw_if a NotUniform) (flaw_if b Twin),
        )

    -- where names are not asked about, they are not compared
    pub fields_nameless : m.names ≡ false → length s ≤ at → (v : Faults) → v ≡ object_end f m h u false → Ok v ≡ contents_at (fields_in f s) m d g
    fields_nameless n i v e = fields_end i v (e ∙ object_unasked f m h u false (twins_at f s) n)

-- ---- an array

abbrev pub Items : Form → ℕ → Modes → ℕ → Faults → List ℕ → ℕ → ℕ → Faults → ℕ → Type 0
Items f n m d g s at room h u = Along m d g (many (read d f)) n s at room h u

module _ (f : Form) (n : ℕ) (m : Modes) (d : ℕ) (g : Faults) (s : List ℕ) where
  pub items_start : Items f n m d g s 0 n g 0
  items_start = along_start f m d g (many (read d f)) n s

  array_fault : (j : Stop) → many (read d f) n s ≡ fault j → Err j ≡ contents_at (items_in f n s) m d g
  unfolding contents_at
  array_fault j e = rw e

  module _ (at room : ℕ) (h : Faults) (u : ℕ) (l : Items f n m d g s at room h u) where
    module _ (i : 0 < room) (x : Result Field Stop) (e : x ≡ field_at f m d h (between at (length s) s)) where
      pub items_fault : (k : Stop) → x ≡ Err k → Err k ≡ contents_at (items_in f n s) m d g
      items_fault k z = array_fault k (along_fault f m d g (many (read d f)) n s at room h u l x e (many_next d f room (drop at s) i) k z)

      pub items_step : (one : Field) → x ≡ Ok one → Items f n m d g s (at + one.end) (room - 1) one.faults (join u (id one.kind))
      items_step one z = along_step f m d g (many (read d f)) n s at room h u l x e (many_next d f room (drop at s) i) one z

    -- what was read, with the bytes behind it
    items_done : room ≡ 0 → (r : List ℕ) → drop at s ≡ r
        → contents_at (items_in f n s) m d g
        ≡ answer_of Err (λ t h r. Ok h) m g
        (whole (got (array (map (λ x. x.1) l.sofar.xs))
        (l.sofar.fs ++ (flaw_if (is_typed f && is_uniform_array (kinds_in l.sofar.xs)) NotUniform ++ [])) r) [])
    unfolding contents_at
    items_done i r k =
        let z = l.sofar in
        let o = sofar_stop m d g _ _ h u z r (rw (i, k)) in
        let a = is_typed f && is_uniform_array (kinds_in z.xs) in
        rw (o, raised a NotUniform (array (map (λ x. x.1) z.xs)) [] r, with_put z.fs (flaw_if a NotUniform ++ []) (array (map (λ x. x.1) z.xs)) r)

    -- bytes left
    pub items_left : room ≡ 0 → at < length s → Err Early ≡ contents_at (items_in f n s) m d g
    items_left i j = go (drop at s) refl
      where
        go : (r : List ℕ) → drop at s ≡ r → Err Early ≡ contents_at (items_in f n s) m d g
        go [] k = absurd (omega (arith, length-drop at s, ap length k))
        go (b ∷ r) k = rw (items_done i (b ∷ r) k)

    pub items_end : room ≡ 0 → length s ≤ at → (v : Faults) → v ≡ array_end f m h u → Ok v ≡ contents_at (items_in f n s) m d g
    unfolding array_end
    items_end i j v e = go (drop at s) refl
      where
        go : (r : List ℕ) → drop at s ≡ r → Ok v ≡ contents_at (items_in f n s) m d g
        go [] k = rw (
          items_done i [] k,
          e,
          l.sofar.run,
          run_uniform_array (kinds_in l.sofar.xs),
          l.sofar.met,
          noted_more m g l.sofar.fs
              (flaw_if (is_typed f && is_uniform_array (kinds_in l.sofar.xs)) NotUniform),
          nil
              (flaw_if (is_typed f && is_uniform_array (kinds_in l.sofar.xs)) NotUniform),
        )
        go (b ∷ r) k = absurd (omega (arith, length-drop at s, ap length k))
