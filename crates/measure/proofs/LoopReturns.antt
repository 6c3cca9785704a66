-- The first pass, the loop over the fields of an object or the items of an array: what the code knows at each return, and of the next round.
use Rattle.std.specs.Prelude.{Result, Ok, Err}
use Prim.Native.Nat.{ℕ, ◌+◌, ◌-◌, ◌^◌, ◌≤◌, ◌<◌}
use native.Mathlib.Omega.{arith}
use mathlib.Core.Path.{◌≡◌, refl, ap}
use mathlib.Core.Bool.{Bool, true, false}
use mathlib.Core.List.{List, ◌++◌}
use lib.ListN.{length, take, drop, get_or}
use mir.Syntax.{w64}
use mir.Val.{Fits}
use borrow.Rule.Slice.PartMut.{same_len_mid}
use Rattle.format.specs.Payload.{payload}
use Rattle.frames.specs.declared.Refusal.{Refusal}
use Rattle.frames.specs.declared.Refusal.TheVariants.{ListEnds}
use Rattle.frames.specs.declared.Refused.{Refused}
use Rattle.frames.specs.WriteList.{is_writable}
use Rattle.frames.specs.FramePieces.{container_of}
use Rattle.frames.specs.Writer.{refusal_at, refused_at}
use Rattle.run.specs.Run.{join}
use Rattle.notes.specs.declared.Notes.{Notes}
use Rattle.notes.specs.Notes.{held_in, noting}
use Rattle.frame.specs.declared.Frame.{Frame}
use Rattle.frame.specs.declared.LeafFrame.{LeafFrame}
use Rattle.frame.specs.Front.{front_at}
use Rattle.frame.specs.Pieces.{leaf_frame_at}
use Rattle.naming.specs.Names.{noted_by, ending, ended_by}
use Rattle.measure.specs.declared.Contents.{Contents}
use Rattle.measure.specs.Passes.{is_leaf, leaf_measured, ClosedBy, FieldAt, PayloadAt, ContentsAt, Lent}
use Rattle.measure.proofs.FieldCases.{frame_deep, frame_start, frame_inside, frame_good, field_of, field_refused}
use Rattle.measure.proofs.FieldCases.{leaf_sum, leaf_is}
use Rattle.measure.proofs.SmallLaws.{plain_told}
use Rattle.measure.proofs.LoopState.{LooseAt, Loop, loop_start}
use Rattle.measure.proofs.LoopLaws as loops
use Rattle.measure.proofs.NameLaws.{NamesRead, NamesMet, NamesEnded, names_end, names_close, names_bad, names_note, names_kept}
use Rattle.measure.proofs.NameLaws.{names_cut, names_more}
use Rattle.measure.proofs.EndLaws.{names_few, names_settled}
use Rattle.settle.specs.declared.Measured.{Measured}

-- ---- the fields or items so far

pub record Standing (d : ℕ) (s : List ℕ) (at : ℕ) (named : Bool) (k : ℕ) (w₀ w : List ℕ) (p j n sum c : ℕ) : Type 0 where
  pub inside : at ≤ length s
  pub lent : Lent s at k
  pub loop : Loop d s at named k w₀ w p j n sum c

pub standing_starts : (d : ℕ) (s : List ℕ) (at : ℕ) (named : Bool) (k : ℕ) (w : List ℕ) → at ≤ length s → k < at → Lent s at k
    → Standing d s at named k w w at (k + 1) 0 0 0
standing_starts d s at named k w h l lt = record { inside = h; lent = lt; loop = loop_start d s at named k w h l }

module _ {d : ℕ} {s : List ℕ} {at : ℕ} {named : Bool} {k : ℕ} {w₀ w : List ℕ} {p j n sum c : ℕ} (st : Standing d s at named k w₀ w p j n sum c) where
  pub loose_end : {before : ℕ} {w' : List ℕ} → length s ≤ p → LooseAt d s at before named k w₀ w' (refused_at ListEnds p)
  loose_end {before} {w'} h = loops.loop_end d s at named k w₀ w p j n sum c st.loop before w' h

  module _ (h : p < length s) where
    pub loose_close : {before : ℕ} {w' : List ℕ} {m : Result Measured Refused} → get_or s p 0 ≡ 0 → ClosedBy named c n sum p before k j w w' m
        → LooseAt d s at before named k w₀ w' m
    loose_close {before} {w'} {m} e by = loops.loop_close d s at named k w₀ w p j n sum c st.loop h before w' m e by

    module _ (nz : get_or s p 0 ≡ 0 → ⊥) {f : Result Frame Refusal} (a : f ≡ front_at d s p named) where
      pub loose_bad : {before : ℕ} {b : Refusal} → f ≡ Err b → LooseAt d s at before named k w₀ w (refused_at b p)
      loose_bad {before} {b} i =
          let y : FieldAt d s p named j w w (refused_at b p) = field_refused d s p named h f a j w b i in
          loops.loop_refuse d s at named k w₀ w p j n sum c st.loop h (refused_at b p) w nz y before (refusal_at b p) refl

-- with one field more
abbrev pub more : (c n sum : ℕ) → Measured → Contents
more c n sum fd = record { shared = join c fd.id; count = n + 1; sum = sum + fd.size }

-- ---- a frame behind them, read up to its payload

pub record Met (d : ℕ) (s : List ℕ) (at : ℕ) (named : Bool) (k : ℕ) (w₀ w : List ℕ) (p j n sum c : ℕ) (fr : Frame) : Type 0 where
  pub standing : Standing d s at named k w₀ w p j n sum c
  pub more : p < length s
  pub unclosed : get_or s p 0 ≡ 0 → ⊥
  pub frame : Result Frame Refusal
  pub front : frame ≡ front_at d s p named
  pub is : frame ≡ Ok fr

pub met : {d : ℕ} {s : List ℕ} {at : ℕ} {named : Bool} {k : ℕ} {w₀ w : List ℕ} {p j n sum c : ℕ} {fr : Frame} {f : Result Frame Refusal}
    → Standing d s at named k w₀ w p j n sum c → p < length s → (get_or s p 0 ≡ 0 → ⊥) → f ≡ front_at d s p named → f ≡ Ok fr
    → Met d s at named k w₀ w p j n sum c fr
met {f = f} st h nz a i = record { standing = st; more = h; unclosed = nz; frame = f; front = a; is = i }

module _ {d : ℕ} {s : List ℕ} {at : ℕ} {named : Bool} {k : ℕ} {w₀ w : List ℕ} {p j n sum c : ℕ} {fr : Frame}
    (g : Met d s at named k w₀ w p j n sum c fr) where
  abbrev st : Standing d s at named k w₀ w p j n sum c
  st = g.standing

  pub met_deep : 1 ≤ d
  met_deep = frame_deep d s p named g.more g.frame g.front st.lent.bytes fr g.is

  -- what is asked of a payload
  pub met_payload : (p < fr.start) × (fr.start ≤ length s) × (is_writable (payload fr.kind) ≡ true) × Lent s p j
  met_payload = (
    frame_start d s p named g.more g.frame g.front st.lent.bytes fr g.is,
    frame_inside d s p named g.more g.frame g.front st.lent.bytes fr g.is,
    frame_good d s p named g.more g.frame g.front st.lent.bytes fr g.is,
    loops.loop_lent d s at named k w₀ w p j n sum c st.loop st.lent,
  )

  pub met_after : p + 1 ≤ fr.start
  met_after = omega (arith, met_payload.0)

  -- a leaf
  module _ {x : Result LeafFrame Refusal} (ex : x ≡ leaf_frame_at fr.kind s fr.start) {b : Bool} (eb : b ≡ is_leaf fr.kind) (ib : b ≡ true) where
    pub met_leaf : PayloadAt (d - 1) s p fr.start fr.kind j w w (leaf_measured p (fr.start - (p + 1)) j x)
    met_leaf = leaf_is (d - 1) s p fr.start fr.kind j met_payload x ex (plain_told fr.kind b eb ib) (fr.start - (p + 1)) refl w _ refl

    pub leaf_fits : {lf : LeafFrame} → x ≡ Ok lf → Fits w64 (fr.start - (p + 1) + lf.size)
    leaf_fits e =
        let l = rw e at (leaf_sum (d - 1) s p fr.start fr.kind j met_payload x ex (plain_told fr.kind b eb ib) (fr.start - (p + 1)) refl) in
        record { fits = omega (arith, l) }

  -- measured, with its payload
  module _ {m : Result Measured Refused} {w' : List ℕ} (q : PayloadAt (d - 1) s p fr.start fr.kind j w w' m) where
    pub field : FieldAt d s p named j w w' m
    field = field_of d s p named g.more g.frame g.front st.lent.bytes fr g.is j w w' m q

    pub loose_cut : {before : ℕ} {b : Refused} → m ≡ Err b → LooseAt d s at before named k w₀ w' (Err b)
    loose_cut {before} {b} e = loops.loop_refuse d s at named k w₀ w p j n sum c st.loop g.more m w' g.unclosed field before b e

    module _ {fd : Measured} (e : m ≡ Ok fd) where
      pub stands_more : {r : Contents} → r ≡ more c n sum fd → Standing d s at named k w₀ w' fd.next fd.opened r.count r.sum r.shared
      stands_more o = rw o (record {
        inside = st.inside;
        lent = st.lent;
        loop = loops.loop_step d s at named k w₀ w p j n sum c st.loop g.more m w' g.unclosed field st.lent fd e (join c fd.id) refl;
      })

      pub more_fits : (n + 1 < 2 ^ 64) × (sum + fd.size < 2 ^ 64)
      more_fits = (
        omega (arith, st.loop.few, st.loop.high, st.lent.short),
        (loops.loop_sum d s at named k w₀ w p j n sum c st.loop g.more m w' g.unclosed field st.lent fd e).fits,
      )

      pub more_less : length s - fd.next < length s - p
      more_less = loops.loop_less d s at named k w₀ w p j n sum c st.loop g.more m w' g.unclosed field st.lent fd e

-- a leaf that is refused, or read
pub leaf_bad : (p before j : ℕ) {x : Result LeafFrame Refusal} {b : Refusal} → x ≡ Err b → leaf_measured p before j x ≡ Err (refusal_at b p)
leaf_bad p before j e = ap (leaf_measured p before j) e

pub leaf_good : (p before j : ℕ) {x : Result LeafFrame Refusal} {lf : LeafFrame} → x ≡ Ok lf
    → leaf_measured p before j x ≡ Ok (record { next = lf.end; id = lf.id; size = before + lf.size; opened = j })
leaf_good p before j e = ap (leaf_measured p before j) e

-- ---- an array: nothing is said of names

items_all : (d : ℕ) (s : List ℕ) (at before k : ℕ) (v v' : List ℕ) (m : Result Measured Refused) → LooseAt d s at before false k v v' m
    → ContentsAt d s at before false k v v' m
unfolding container_of
items_all d s at before k v v' m y = y

module _ {d : ℕ} {s : List ℕ} {at k : ℕ} {w₀ w : List ℕ} {p j n sum c : ℕ} (st : Standing d s at false k w₀ w p j n sum c) where
  pub items_end : {before : ℕ} {w' : List ℕ} → length s ≤ p → ContentsAt d s at before false k w₀ w' (refused_at ListEnds p)
  items_end h = items_all d s at _ k w₀ _ _ (loose_end st h)

  module _ (h : p < length s) where
    pub items_close : {before : ℕ} {w' : List ℕ} {m : Result Measured Refused} → get_or s p 0 ≡ 0 → ClosedBy false c n sum p before k j w w' m
        → ContentsAt d s at before false k w₀ w' m
    items_close e by = items_all d s at _ k w₀ _ _ (loose_close st h e by)

    pub items_bad : (get_or s p 0 ≡ 0 → ⊥) → {f : Result Frame Refusal} → f ≡ front_at d s p false → {before : ℕ} {b : Refusal} → f ≡ Err b
        → ContentsAt d s at before false k w₀ w (refused_at b p)
    items_bad nz a i = items_all d s at _ k w₀ _ _ (loose_bad st h nz a i)

pub items_cut : {d : ℕ} {s : List ℕ} {at k : ℕ} {w₀ w : List ℕ} {p j n sum c : ℕ} {fr : Frame}
    → (g : Met d s at false k w₀ w p j n sum c fr) → {m : Result Measured Refused} {w' : List ℕ} → PayloadAt (d - 1) s p fr.start fr.kind j w w' m
    → {before : ℕ} {b : Refused} → m ≡ Err b → ContentsAt d s at before false k w₀ w' (Err b)
items_cut {d} {s} {at} {k} {w₀} g q e = items_all d s at _ k w₀ _ _ (loose_cut g q e)

-- ---- an object: with what is noted of its names

module _ {d : ℕ} {s : List ℕ} {at k : ℕ} {w₀ w : List ℕ} {p j n sum c : ℕ} (st : Standing d s at true k w₀ w p j n sum c)
    {t : List ℕ} {notes : Notes} {reach : ℕ} (nm : NamesRead d s at t notes reach n p) where
  -- the object ends: nothing is refused behind its frames, or something is
  module _ {before : ℕ} {w' : List ℕ} {m : Result Measured Refused} (y : LooseAt d s at before true k w₀ w' m) (e : NamesEnded d s at t notes reach n) where
    few : n < 2 → ContentsAt d s at before true k w₀ w' m
    few = names_few d s at before k w₀ w' m y st.inside st.lent.short t notes reach n e

    settled : {r : Result Measured Refused} {t' : List ℕ} → ending r t' ≡ ended_by d s at t notes reach m → ContentsAt d s at before true k w₀ w' r
    settled {r} i = names_settled d s at before k w₀ w' m y st.inside st.lent.short t notes reach n e r (ap (λ o. o.answer) i)

  pub fields_end : {before : ℕ} {w' : List ℕ} {r : Result Measured Refused} {t' : List ℕ} → length s ≤ p → ending r t' ≡ ended_by d s at t notes reach (refused_at ListEnds p)
      → ContentsAt d s at before true k w₀ w' r
  fields_end h = settled (loose_end st h) (names_end d s at t notes reach n p st.loop.low nm h)

  module _ (h : p < length s) where
    module _ {before : ℕ} {w' : List ℕ} {m : Result Measured Refused} (e : get_or s p 0 ≡ 0) (by : ClosedBy true c n sum p before k j w w' m) where
      pub fields_closed : n < 2 → ContentsAt d s at before true k w₀ w' m
      fields_closed = few (loose_close st h e by) (names_close d s at t notes reach n p st.loop.low nm h e)

      pub fields_close : {r : Result Measured Refused} {t' : List ℕ} → ending r t' ≡ ended_by d s at t notes reach m → ContentsAt d s at before true k w₀ w' r
      fields_close = settled (loose_close st h e by) (names_close d s at t notes reach n p st.loop.low nm h e)

    module _ (nz : get_or s p 0 ≡ 0 → ⊥) {f : Result Frame Refusal} (a : f ≡ front_at d s p true) {before : ℕ} {b : Refusal} (i : f ≡ Err b) where
      pub fields_barred : n < 2 → ContentsAt d s at before true k w₀ w (refused_at b p)
      fields_barred = few (loose_bad st h nz a i) (names_bad d s at t notes reach n p st.loop.low nm h f a b i)

      pub fields_bad : {r : Result Measured Refused} {t' : List ℕ} → ending r t' ≡ ended_by d s at t notes reach (refused_at b p) → ContentsAt d s at before true k w₀ w r
      fields_bad = settled (loose_bad st h nz a i) (names_bad d s at t notes reach n p st.loop.low nm h f a b i)

module _ {d : ℕ} {s : List ℕ} {at k : ℕ} {w₀ w : List ℕ} {p j n sum c : ℕ} {fr : Frame}
    (g : Met d s at true k w₀ w p j n sum c fr) where
  pub noted : {t t₁ : List ℕ} {notes notes₁ : Notes} {reach : ℕ} → NamesRead d s at t notes reach n p
      → noting notes₁ t₁ ≡ noted_by s at t notes fr.begin fr.start → NamesMet d s at t₁ notes₁ (n + 1) p
  noted {t} {t₁} {notes} {notes₁} {reach} nm y =
      names_note d s at t notes reach n p g.standing.loop.low nm g.more g.frame g.front g.standing.lent.bytes fr g.is
      t₁ notes₁ y

  module _ {t : List ℕ} {notes : Notes} (nm : NamesMet d s at t notes (n + 1) p) {m : Result Measured Refused} {w' : List ℕ}
      (q : PayloadAt (d - 1) s p fr.start fr.kind j w w' m) where
    pub fields_cut : {before : ℕ} {b : Refused} {r : Result Measured Refused} {t' : List ℕ} → m ≡ Err b
        → ending r t' ≡ ended_by d s at t notes (p - at + 1) (Err b) → ContentsAt d s at before true k w₀ w' r
    fields_cut {before} {b} {r} e i =
        names_settled d s at before k w₀ w' (Err b) (loose_cut g q e) g.standing.inside g.standing.lent.short t notes (p - at + 1) (n + 1)
        (names_cut d s at t notes (n + 1) p nm j w w' m (field g q) b e) r (ap (λ o. o.answer) i)

    pub names_next : {fd : Measured} → m ≡ Ok fd → {r : Contents} → r ≡ more c n sum fd → NamesRead d s at t notes (p - at + 1) r.count fd.next
    names_next {fd} e o = rw o (names_more d s at t notes (n + 1) p nm j w w' m (field g q) fd e)

-- the table behind the notes, for what is inside a frame
module _ {d : ℕ} {s : List ℕ} {at : ℕ} {t : List ℕ} {notes : Notes} {n p : ℕ} (nm : NamesMet d s at t notes n p) {held : ℕ} (eh : held ≡ held_in notes) where
  module _ (y : List ℕ) (e : length y ≡ length (take (length t - held) (drop held t))) where
    pub same_table : length (take held t ++ (y ++ drop (length t - held) (drop held t))) ≡ length t
    same_table = same_len_mid held (length t - held) t y e

    pub names_over : NamesMet d s at (take held t ++ (y ++ drop (length t - held) (drop held t))) notes n p
    names_over = names_kept d s at t notes n p nm held eh _ (y ++ drop (length t - held) (drop held t)) refl same_table
