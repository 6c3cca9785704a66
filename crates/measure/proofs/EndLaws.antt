-- The first pass, what an object comes to when all its frames were noted: a name that stands twice is refused, or what was measured is the write list's.
use Rattle.std.specs.Prelude.{Result}
use Prim.Native.Nat.{ℕ, ◌+◌, ◌-◌, ◌≤◌, ◌<◌}
use native.Mathlib.Omega.{arith}
use mathlib.Core.Path.{◌≡◌, refl, sym, ap, ◌∙◌}
use mathlib.Core.Bool.{Bool, true, false, cond}
use mathlib.Core.List.{List, [], ◌∷◌, ◌++◌}
use lib.ListN.{length, take, drop, length-drop}
use lib.Seq.{take-take, length-take-le}
use lib.Dec.{ltb}
use borrow.Author.Tests.{ltb-true, ltb-false, le-ltb}
use Rattle.frames.specs.declared.Refusal.TheVariants.{NameUsed}
use Rattle.frames.specs.declared.Refused.{Refused}
use Rattle.frames.specs.WriteList.{read_frames}
use Rattle.frames.specs.FramePieces.{contents_by, container_of}
use Rattle.frames.specs.Writer.{refused_at}
use Rattle.twins.specs.Own.{freely}
use Rattle.entries.specs.Entry.{begin_in}
use Rattle.entries.specs.Least.{is_first, is_twin, lesser, least_of, least}
use Rattle.select.specs.declared.Source.TheVariants as S
use Rattle.select.specs.Source.{first_twin}
use Rattle.notes.specs.declared.Notes.{Notes}
use Rattle.notes.specs.declared.Notes.TheVariants.{Few, Rising, Many}
use Rattle.notes.specs.Notes.{held_in}
use Rattle.notes.proofs.NoteLaws.{Noted, noted_held, noted_told}
use Rattle.used.specs.Place.{frame_place}
use Rattle.used.proofs.ReadLaws.{ended_clear, ended_twin, ended_none}
use Rattle.naming.specs.Names.{twin_measured, room_for, twin_by, ending, ended_by}
use Rattle.measure.specs.Passes.{ContentsAt}
use Rattle.naming.proofs.RoomLaws.{lesser_is, room_inside, room_all}
use Rattle.measure.proofs.LoopState.{LooseAt}
use Rattle.measure.proofs.NameLaws.{NamesEnded}
use Rattle.settle.specs.declared.Measured.{Measured}

back : (s : List ℕ) (at q : ℕ) → at ≤ length s → q ≤ length (drop at s) → length s - length (drop q (drop at s)) ≡ at + q
back s at q l h = rw (length-drop q (drop at s), length-drop at s) (go (length s) at q l (rw (length-drop at s) at h))
  where
    go : (a b c : ℕ) → b ≤ a → c ≤ a - b → a - (a - b - c) ≡ b + c
    go a b c i j = omega arith

-- what is lent for the twins has the notes
noted_front : (s es t : List ℕ) (notes : Notes) (n : ℕ) → Noted s es t notes → held_in notes ≤ n → n ≤ length t → Noted s es (take n t) notes
noted_front s es t (Few m) n w l i = (rw (length-take-le n t i) l, take-take m n t l ∙ w.1)
noted_front s es t (Rising y) n w l i = w
noted_front s es t Many n w l i = w

-- of fewer than two names none stands twice
few_once : (s es : List ℕ) → length es < 2 → 16777216 ≤ least s es
unfolding least_of is_twin is_first
few_once s [] l = omega arith
few_once s (e ∷ []) l = rw (le-ltb (begin_in e) (begin_in e) (omega arith)) (omega arith)
few_once s (e ∷ (f ∷ es)) l = absurd (omega arith)

-- ---- what the object comes to

module _ (d : ℕ) (s : List ℕ) (at before k : ℕ) (v v' : List ℕ) (m : Result Measured Refused) (y : LooseAt d s at before true k v v' m) (l : at ≤ length s)
    (short : length s ≤ 65536) (t : List ℕ) (notes : Notes) (reach n : ℕ) (w : NamesEnded d s at t notes reach n) where
  part_short : length (drop at s) < 16777216
  part_short = rw (length-drop at s) (omega arith)

  -- nothing stands twice
  same_all : contents_by true (read_frames d) (length (drop at s)) [] (drop at s) ≡ freely d (length (drop at s)) [] (drop at s)
      → ContentsAt d s at before true k v v' m
  unfolding container_of
  same_all h = rw h y

  pub names_few : n < 2 → ContentsAt d s at before true k v v' m
  names_few q = same_all (ended_clear d (drop at s) part_short reach w.es w.ended (few_once (drop at s) w.es (omega (arith, w.count))))

  module _ (r : Result Measured Refused) where
    twin_first : (g : ℕ) → g ≡ least (drop at s) w.es → g < 16777216 → r ≡ refused_at NameUsed (lesser at (length s) + frame_place d (drop at s) g)
        → ContentsAt d s at before true k v v' r
    unfolding container_of
    twin_first g h q j =
        let x = ended_twin d (drop at s) part_short reach w.es w.ended (rw (← h) q) in
        let z : length s - length (drop (frame_place d (drop at s) g) (drop at s)) ≡ at + frame_place d (drop at s) g =
        back s at (frame_place d (drop at s) g) l (rw h x.1) in
        rw (x.0, ← h, j, lesser_is at (length s) l) (record { answer = ap (refused_at NameUsed) (sym z); work = refl })

    -- where the first twin begins
    abbrev begins : ℕ
    begins = (twin_by d s at t notes reach).answer

    least_is : 0 < reach → begins ≡ least (drop at s) w.es
    unfolding first_twin
    least_is q =
        let x = w.ended.entered.some q in
        let n = room_for (length t) (held_in notes) reach in
        let o = room_all (length t) (held_in notes) reach (noted_held (drop at s) w.es t notes w.noted) in
        let y = noted_front (drop at s) w.es t notes n w.noted o (room_inside (length t) (held_in notes) reach n refl) in
        noted_told (S.Frames d (reach - 1)) (drop at s) w.es (take n t) notes y x ∙ (rw x)

    pub names_settled : r ≡ (ended_by d s at t notes reach m).answer → ContentsAt d s at before true k v v' r
    unfolding ended_by container_of
    names_settled e = some (ltb 0 reach) refl e
      where
        twin : 0 < reach → (o : Bool) → ltb begins 16777216 ≡ o
            → r ≡ cond o (refused_at NameUsed (lesser at (length s) + frame_place d (drop at s) begins)) m → ContentsAt d s at before true k v v' r
        twin q true b j = twin_first begins (least_is q) (ltb-true begins 16777216 b) j
        twin q false b j =
            rw j (same_all (ended_clear d (drop at s) part_short reach w.es w.ended (rw (least_is q) at (ltb-false begins 16777216 b))))

        after : List ℕ
        after = (twin_by d s at t notes reach).table ++ drop (room_for (length t) (held_in notes) reach) t

        some : (o : Bool) → ltb 0 reach ≡ o → r ≡ (cond o (ending (twin_measured d s at begins m) after) (ending m t)).answer
            → ContentsAt d s at before true k v v' r
        some true b j = twin (ltb-true 0 reach b) (ltb begins 16777216) refl j
        some false b j = rw j (same_all (ended_none d (drop at s) part_short reach w.es w.ended (let q = ltb-false 0 reach b in omega arith)))
