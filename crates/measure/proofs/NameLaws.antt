-- The first pass, the names of an object: what is noted of the frames so far.
use Rattle.std.specs.Prelude.{Result, Ok, Err}
use Prim.Native.Nat.{ℕ, ◌+◌, ◌-◌, ◌≤◌, ◌<◌}
use native.Mathlib.Omega.{arith}
use mathlib.Core.Path.{◌≡◌, refl, sym, ap, ◌∙◌}
use mathlib.Core.Bool.{true}
use mathlib.Core.Option.{some}
use mathlib.Core.List.{List, [], ◌∷◌, ◌++◌}
use lib.ListN.{length, take, drop, get_or, length-append, length-drop, drop_of_length-le}
use lib.Seq.{drop-drop, take_at, length-take-le}
use Rattle.number.proofs.Clash.{clash}
use Rattle.number.specs.BigEndian.{Bytes}
use Rattle.format.specs.Tree.{Tree}
use Rattle.frames.specs.declared.Refusal.{Refusal}
use Rattle.frames.specs.declared.Refused.{Refused}
use Rattle.frames.specs.WriteList.{Frames, refused, framed, read_frames}
use Rattle.frames.proofs.PlaceLaws.{rest}
use Rattle.entries.specs.Entry.{entry_of}
use Rattle.notes.specs.declared.Notes.{Notes}
use Rattle.notes.specs.declared.Notes.TheVariants.{Few}
use Rattle.notes.specs.Notes.{held_in, noting, added}
use Rattle.notes.proofs.NoteLaws.{Noted, noted_none, noted_held, noted_kept, noted_more}
use Rattle.used.proofs.ReadLaws.{Read, Ended, reading_starts, read_ends, read_closes, read_bad, read_cut, read_more}
use Rattle.frame.specs.Front.{front_at}
use Rattle.naming.specs.Names.{noted_by}
use Rattle.measure.specs.Passes.{field_measured, FieldAt}
use Rattle.measure.proofs.MadeLaws.{measured_same}
use Rattle.measure.proofs.FieldCases.{barred, Got, got_frame}
use Rattle.frame.specs.declared.Frame.{Frame}
use Rattle.settle.specs.declared.Measured.{Measured}

-- a place of the list, in the part from another on
pub part_at : (s : List ℕ) (at p : ℕ) → at ≤ p → drop (p - at) (drop at s) ≡ drop p s
part_at s at p l = let z : at + (p - at) ≡ p = omega arith in drop-drop (p - at) at s ∙ ap (λ (a : ℕ). drop a s) z

begin_at : (total at q n : ℕ) → total - q - n - at ≡ total - at - q - n
begin_at total at q n = omega arith

end_at_law : (total at q : ℕ) → total - q - at ≡ total - at - q
end_at_law total at q = omega arith

-- ---- what is noted

module _ (d : ℕ) (s : List ℕ) (at : ℕ) where
  -- of the n frames up to p, which were read
  pub record NamesRead (t : List ℕ) (notes : Notes) (reach n p : ℕ) : Type 0 where
    pub held : held_in notes ≤ length t
    pub es : List ℕ
    pub count : length es ≡ n
    pub noted : Noted (drop at s) es t notes
    pub read : Read d (drop at s) reach es (p - at)

  -- and of the frame at p, the n-th, whose name is right
  pub record NamesMet (t : List ℕ) (notes : Notes) (n p : ℕ) : Type 0 where
    pub held : held_in notes ≤ length t
    pub es : List ℕ
    pub count : length es ≡ n
    pub noted : Noted (drop at s) es t notes
    pub cut : (k : Refusal) (f : List ℕ) → read_frames d (some []) (drop p s) ≡ refused k f → Ended d (drop at s) (p - at + 1) es
    pub more : (x : List ℕ × Tree d) (u : List ℕ) → read_frames d (some []) (drop p s) ≡ framed x u
        → Read d (drop at s) (p - at + 1) es (length s - length u - at)

  -- of all n frames of the object
  pub record NamesEnded (t : List ℕ) (notes : Notes) (reach n : ℕ) : Type 0 where
    pub es : List ℕ
    pub count : length es ≡ n
    pub noted : Noted (drop at s) es t notes
    pub ended : Ended d (drop at s) reach es

  pub names_start : (t : List ℕ) → NamesRead t (Few 0) 0 0 at
  names_start t =
      let z : at - at ≡ 0 = omega arith in
      record { held = omega arith; es = []; count = refl; noted = noted_none (drop at s) t; read = rw z (reading_starts d (drop at s)) }

  module _ (t : List ℕ) (notes : Notes) (reach n p : ℕ) (l : at ≤ p) (w : NamesRead t notes reach n p) where
    end_of : Ended d (drop at s) reach w.es → NamesEnded t notes reach n
    end_of f = record { es = w.es; count = w.count; noted = w.noted; ended = f }

    pub names_end : length s ≤ p → NamesEnded t notes reach n
    names_end h = end_of (read_ends d (drop at s) reach w.es (p - at) w.read (drop p s) (part_at s at p l) (drop_of_length-le s h))

    module _ (h : p < length s) where
      pub names_close : get_or s p 0 ≡ 0 → NamesEnded t notes reach n
      names_close z =
          end_of (read_closes d (drop at s) reach w.es (p - at) w.read (drop p s) (part_at s at p l) (drop (p + 1) s)
          (rest s p h ∙ ap (λ (b : ℕ). b ∷ drop (p + 1) s) z))

      module _ (f : Result Frame Refusal) (a : f ≡ front_at d s p true) where
        pub names_bad : (b : Refusal) → f ≡ Err b → NamesEnded t notes reach n
        names_bad b j =
            let o = barred d s p true h f a b j in
            end_of (read_bad d (drop at s) reach w.es (p - at) w.read (drop p s) (part_at s at p l) b (drop p s) o.whole (o.unnamed refl))

        module _ (bytes : Bytes s) (fr : Frame) (j : f ≡ Ok fr) (t' : List ℕ) (notes' : Notes)
            (y : noting notes' t' ≡ noted_by s at t notes fr.begin fr.start) where
          pub names_note : NamesMet t' notes' (n + 1) p
          names_note =
              let g = got_frame d s p true h f a bytes fr j in
              let b : fr.begin - at ≡ length (drop at s) - length g.left - length g.name = place_of g g.begin_is in
              let e : fr.start - at ≡ length (drop at s) - length g.left = end_of_name g g.start_is in
              let z : noting notes' t' ≡ added (drop at s) t notes (entry_of (drop at s) (length (drop at s) - length g.left - length g.name)
              (length (drop at s) - length g.left)) =
              rw (b, e) at y in
              let u : t' ≡ _ = ap (λ o. o.table) z in
              let v : notes' ≡ _ = ap (λ o. o.notes) z in
              let m : Noted (drop at s) (w.es ++ (entry_of (drop at s) (length (drop at s) - length g.left - length g.name)
              (length (drop at s) - length g.left) ∷ [])) t' notes' =
              rw (u, v) (noted_more (drop at s) w.es t notes _ w.noted) in
              record {
                held = noted_held (drop at s) _ t' notes' m;
                es = w.es ++ (entry_of (drop at s) (length (drop at s) - length g.left - length g.name) (length (drop at s) - length g.left) ∷ []);
                count = length-append w.es _ ∙ ap (λ (x : ℕ). x + 1) w.count;
                noted = m;
                cut = read_cut d (drop at s) reach w.es (p - at) w.read (drop p s) (part_at s at p l) g.name g.left fr.kind
                    (omega (arith, g.deep)) g.was;
                more = λ x r q. read_more d (drop at s) reach w.es (p - at) w.read (drop p s) (part_at s at p l) g.name g.left fr.kind
                    (omega (arith, g.deep)) g.was x r q _ (rw (length-drop at s) (end_at_law (length s) at (length r)));
              }
            where
              place_of : (g : Got d s p true h f a bytes fr j) → fr.begin ≡ length s - length g.left - length g.name
                  → fr.begin - at ≡ length (drop at s) - length g.left - length g.name
              place_of g q = rw (length-drop at s, q) (begin_at (length s) at (length g.left) (length g.name))

              end_of_name : (g : Got d s p true h f a bytes fr j) → fr.start ≡ length s - length g.left
                  → fr.start - at ≡ length (drop at s) - length g.left
              end_of_name g q = rw (length-drop at s, q) (end_at_law (length s) at (length g.left))

  -- what is inside the frame takes the table behind the notes
  module _ (t : List ℕ) (notes : Notes) (n p : ℕ) (w : NamesMet t notes n p) where
    pub names_kept : (x : ℕ) → x ≡ held_in notes → (t' u : List ℕ) → t' ≡ take x t ++ u → length t' ≡ length t → NamesMet t' notes n p
    names_kept x i t' u e l =
        let z : take (held_in notes) t' ≡ take (held_in notes) t =
        rw (← i) (ap (take x) e ∙ take_at (take x t) u x (length-take-le x t (omega (arith, w.held)))) in
        record {
          held = omega (arith, w.held);
          es = w.es;
          count = w.count;
          noted = noted_kept (drop at s) w.es t t' notes w.noted l z;
          cut = w.cut;
          more = w.more;
        }

    module _ (k : ℕ) (v v' : List ℕ) (m : Result Measured Refused) (y : FieldAt d s p true k v v' m) where
      pub names_cut : (a : Refused) → m ≡ Err a → NamesEnded t notes (p - at + 1) n
      names_cut a e =
          record { es = w.es; count = w.count; noted = w.noted; ended = go (read_frames d (some []) (drop p s)) refl (sym e ∙ y.answer) }
        where
          go : (o : Frames (List ℕ × Tree d)) → read_frames d (some []) (drop p s) ≡ o → Err a ≡ field_measured d (length s) true k o
              → Ended d (drop at s) (p - at + 1) w.es
          go (refused b r) h j = w.cut b r h
          go (framed x r) h j = clash cc

      pub names_more : (fd : Measured) → m ≡ Ok fd → NamesRead t notes (p - at + 1) n fd.next
      names_more fd e = record {
        held = w.held;
        es = w.es;
        count = w.count;
        noted = w.noted;
        read = go (read_frames d (some []) (drop p s)) refl (sym e ∙ y.answer);
      }
        where
          go : (o : Frames (List ℕ × Tree d)) → read_frames d (some []) (drop p s) ≡ o → Ok fd ≡ field_measured d (length s) true k o
              → Read d (drop at s) (p - at + 1) w.es (fd.next - at)
          go (refused a r) h q = clash cc
          go (framed x r) h q = let c : fd.next ≡ length s - length r = (measured_same q).0 in rw c (w.more x r h)
