-- An object read frame by frame, whatever names it has so far: which of its frames were noted, and what the object comes to at the end.
use Rattle.std.specs.Prelude.{Option, None, Some}
use Prim.Native.Nat.{ℕ, zero, suc, ◌+◌, ◌-◌, ◌≤◌, ◌<◌}
use native.Mathlib.Omega.{arith}
use mathlib.Core.Path.{◌≡◌, refl, sym, ap, ◌∙◌}
use mathlib.Core.Bool.{Bool, true, false, cond}
use mathlib.Core.Option.{none, some}
use mathlib.Core.List.{List, [], ◌∷◌, ◌++◌}
use lib.ListN.{length, drop}
use Rattle.number.proofs.Clash.{clash}
use Rattle.format.specs.declared.Kind.{Kind}
use Rattle.format.specs.declared.Flaw.{Flaw}
use Rattle.format.specs.declared.Flaw.TheVariants.{Blank, Long, NotUtf8}
use Rattle.format.specs.Mask.{has}
use Rattle.format.specs.Names.{read_name}
use Rattle.format.specs.Parse.{Out, fault, got}
use Rattle.format.specs.Tree.{Tree}
use Rattle.format.proofs.Lists.{append_nil}
use Rattle.frames.specs.declared.Refusal.{Refusal}
use Rattle.frames.specs.declared.Refusal.TheVariants.{BadFrame, EmptyName, NameUsed, NotText}
use Rattle.frames.specs.FramePieces.{writable, frame_front, contents_by}
use Rattle.frames.specs.WriteList.{Frames, refused, framed, next, name_found, frame_name, read_frames}
use Rattle.frames.proofs.FrontLaws.{never, next_got, kind_by, kind_is}
use Rattle.front.specs.Between.{between}
use Rattle.twins.specs.Events.{after}
use Rattle.twins.specs.Own.{own_name, own_until, own_frames, freely}
use Rattle.twins.specs.Walk.{onward}
use Rattle.twins.proofs.OwnLaws.{object_own}
use Rattle.passing.specs.Pass.{pass_over}
use Rattle.passing.specs.FrameNames.{name_known, name_of, names_from, frame_names, name_at}
use Rattle.passing.proofs.PassRead.{pass_read, read_name_law}
use Rattle.passing.proofs.NamesLaws.{names_step, found_at}
use Rattle.passing.proofs.OwnWalked.{Over, begun, over_next}
use Rattle.passing.proofs.OwnFrames.{own_last, own_none, over_frames}
use Rattle.entries.specs.Entry.{entry_of}
use Rattle.entries.specs.Least.{least_of, least}
use Rattle.select.specs.declared.Source.TheVariants as S
use Rattle.select.specs.Source.{entries_of}
use Rattle.used.specs.Place.{frame_place}
use Rattle.used.proofs.Chains.{Chain, stop, chain_more, chain_on, chain_entries}
use Rattle.used.proofs.UsedLaws.{none_used, used_at_law}
use Rattle.names.specs.declared.Name.{Name}
use Rattle.std.specs.Prelude.{Some}

-- ---- a frame up to its payload, and its name

name_found_law : (f : List ℕ) (o : Out (List ℕ)) {n q : List ℕ} → name_found f [] o ≡ framed n q → (fs : List Flaw) × (o ≡ got n fs q)
name_found_law f (fault k) h = never h
name_found_law f (got m fs r) {n} {q} h = go (has Long fs) (has Blank fs) (has NotUtf8 fs) h
  where
    go : (a b c : Bool) → cond a (refused BadFrame f) (cond b (refused EmptyName f) (cond c (refused NotText f) (framed m r))) ≡ framed n q
        → (es : List Flaw) × (got m fs r ≡ got n es q)
    go true b c h = never h
    go false true c h = never h
    go false false true h = never h
    go false false false h =
        let x : m ≡ n = cc in
        let y : r ≡ q = cc in
        (fs, rw (x, y))

-- behind the kind
abbrev with_kind : Kind → Frames (List ℕ) → Frames (List ℕ × Kind)
with_kind k o = next o λ n q. framed (n, k) q

-- the name is right
front_name : (d : ℕ) (s n q : List ℕ) (k : Kind) → 0 < d → frame_front (some []) s ≡ framed (n, k) q
    → (own_name d s ≡ some n) × ((fs : List Flaw) × (name_of d s ≡ got n fs q))
unfolding own_name name_of
front_name zero s n q k l h = absurd (omega arith)
front_name (suc d) [] n q k l h = never h
front_name (suc d) (b ∷ s) n q k l h = rw (kind_is b (b ∷ s) s) (go (writable b) (rw (kind_is b (b ∷ s) s) at h))
  where
    go : (o : Option Kind) → (next (kind_by (b ∷ s) o s) λ k r. with_kind k (frame_name (b ∷ s) (some []) r)) ≡ framed (n, k) q
        → ((after none (kind_by (b ∷ s) o s) λ k r. after none (frame_name (b ∷ s) (some []) r) λ n q. some n) ≡ some n)
        × ((fs : List Flaw) × (name_known o s ≡ got n fs q))
    go None h = never h
    go (Some j) h = next_got (frame_name (b ∷ s) (some []) s) _ h λ m r e i.
        let y : r ≡ q = cc in
        let z : ◌≡◌ {A = List ℕ × Kind} (m, j) (n, k) = cc in
        let x : m ≡ n = ap (λ p. p.0) z in
        let w : (fs : List Flaw) × (read_name s ≡ got n fs q) = name_found_law (b ∷ s) (read_name s) (e ∙ (rw (x, y))) in
        (rw e (ap some x), w)

-- it is not: its object has no frame there
pub front_none : (d : ℕ) (s : List ℕ) (k : Refusal) (f : List ℕ) → frame_front (some []) s ≡ refused k f → own_name d s ≡ none
unfolding own_name
front_none zero s k f h = refl
front_none (suc d) [] k f h = refl
front_none (suc d) (b ∷ s) k f h = rw (kind_is b (b ∷ s) s) (go (writable b) (rw (kind_is b (b ∷ s) s) at h))
  where
    by : (j : Kind) (o : Frames (List ℕ)) → with_kind j o ≡ refused k f → (after none o λ n q. some n) ≡ none
    by j (refused m r) h = refl
    by j (framed n q) h = clash cc

    go : (o : Option Kind) → (next (kind_by (b ∷ s) o s) λ k r. with_kind k (frame_name (b ∷ s) (some []) r)) ≡ refused k f
        → (after none (kind_by (b ∷ s) o s) λ k r. after none (frame_name (b ∷ s) (some []) r) λ n q. some n) ≡ none
    go None h = refl
    go (Some j) h = by j (frame_name (b ∷ s) (some []) s) h

pub deep_none : (s : List ℕ) → own_name 0 s ≡ none
unfolding own_name
deep_none s = refl

-- ---- the frames that were noted

module _ (d : ℕ) (s : List ℕ) where
  -- es are the entries of the frames that begin before `reach`
  pub record Entered (reach : ℕ) (es : List ℕ) : Type 0 where
    pub none : reach ≡ 0 → es ≡ []
    pub some : 0 < reach → entries_of (S.Frames d (reach - 1)) s ≡ es

  -- the frames up to a were read, and noted
  pub record Read (reach : ℕ) (es : List ℕ) (a : ℕ) : Type 0 where
    pub fs : List (List ℕ × List ℕ)
    pub over : Over d s fs (drop a s)
    pub chain : Chain d s 0 fs es a
    pub entered : Entered reach es

  -- the object was read up to its end, or up to a frame that is refused: all its frames were noted
  pub record Ended (reach : ℕ) (es : List ℕ) : Type 0 where
    pub fs : List (List ℕ × List ℕ)
    pub end : ℕ
    pub own : own_frames d s ≡ fs
    pub chain : Chain d s 0 fs es end
    pub entered : Entered reach es

  pub reading_starts : Read 0 [] 0
  reading_starts = record { fs = []; over = begun; chain = stop; entered = record { none = λ e. refl; some = λ l. absurd (omega arith) } }

  module _ (reach : ℕ) (es : List ℕ) (a : ℕ) (w : Read reach es a) where
    no_more : own_frames d (drop a s) ≡ [] → Ended reach es
    no_more h =
        record { fs = w.fs; end = a; own = over_frames d s w.over ∙ (rw h (append_nil w.fs)); chain = w.chain; entered = w.entered }

    module _ (r : List ℕ) (e : drop a s ≡ r) where
      pub read_ends : r ≡ [] → Ended reach es
      unfolding own_until
      read_ends i = no_more (rw (e, i))

      pub read_closes : (q : List ℕ) → r ≡ 0 ∷ q → Ended reach es
      unfolding own_until
      read_closes q i = no_more (rw (e, i))

      -- a frame without a right name
      pub read_bad : (k : Refusal) (f : List ℕ) → read_frames d (some []) r ≡ refused k f → own_name d r ≡ none → Ended reach es
      read_bad k f h i = no_more (rw e (own_none d r k f h i))

      -- a frame with a right name
      module _ (n q : List ℕ) (k : Kind) (l : 0 < d) (h : frame_front (some []) r ≡ framed (n, k) q) where
        abbrev entry : ℕ
        entry = entry_of s (length s - length q - length n) (length s - length q)

        -- it stands there, and the next frame behind it
        abbrev named : ℕ → Name
        named m = record { begin = length s - length q - length n; end = length s - length q; next = m }

        record Met : Type 0 where
          pub next : ℕ
          pub found : name_at d a s ≡ Some (named next)
          pub is : between (length s - length q - length n) (length s - length q) s ≡ n
          pub onto : (u : List ℕ) → pass_over d true r ≡ some u → next ≡ length s - length u

        met : Met
        unfolding name_at
        met =
            let v = front_name d r n q k l h in
            let j : name_of d (drop a s) ≡ got n v.1.0 q = rw e v.1.1 in
            let g : name_at d a s ≡ Some (named (onward (length s) (pass_over d true (drop a s)) λ u. length s - length u)) = rw j in
            let f = found_at d a s (chain_on d s (omega arith) w.chain).1 _ g in
            record {
              next = onward (length s) (pass_over d true (drop a s)) (λ u. length s - length u);
              found = g;
              is = sym (head (ap (λ o. names_from o (pass_over d true (drop a s)) (frame_names d)) (sym j) ∙ (sym (names_step d (drop a s)) ∙ f.names)));
              onto = λ u p. rw (e, p);
            }
          where
            head : {m o : List ℕ} {xs ys : List (List ℕ)} → m ∷ xs ≡ o ∷ ys → m ≡ o
            head h = cc

        now_entered : Entered (a + 1) (es ++ (entry ∷ []))
        now_entered =
            let m = met in
            let i : a + 1 - 1 ≡ a = omega arith in
            record { none = λ e. absurd (omega arith); some = λ l. rw i (chain_entries d s (named m.next) w.chain m.found) }

        more : (m : Met) → Chain d s 0 (w.fs ++ ((r, n) ∷ [])) (es ++ (entry ∷ [])) m.next
        more m = rw (← e) (rw m.is at (chain_more d s (named m.next) w.chain m.found))

        -- it is refused behind its name: it is the last
        pub read_cut : (j : Refusal) (f : List ℕ) → read_frames d (some []) r ≡ refused j f → Ended (a + 1) (es ++ (entry ∷ []))
        read_cut j f i =
            let m = met in
            let v = front_name d r n q k l h in
            record {
              fs = w.fs ++ ((r, n) ∷ []);
              end = m.next;
              own = over_frames d s w.over ∙ (rw e (ap (λ xs. w.fs ++ xs) (own_last d r n j f i v.0)));
              chain = more m;
              entered = now_entered;
            }

        pub read_more : (x : List ℕ × Tree d) (u : List ℕ) → read_frames d (some []) r ≡ framed x u → (b : ℕ) → b ≡ length s - length u
            → Read (a + 1) (es ++ (entry ∷ [])) b
        read_more x u i b j =
            let m = met in
            let v = front_name d r n q k l h in
            let y = read_name_law d [] r x u i in
            let o = over_next d s 0 a (omega arith) (chain_on d s (omega arith) w.chain).1 w.over x u (rw e i) in
            let z : b ≡ m.next = j ∙ sym (m.onto u (pass_read d (some []) r x u i)) in
            let f : x.0 ≡ n = same (sym y.1.1 ∙ v.1.1) in
            record {
              fs = w.fs ++ ((r, n) ∷ []);
              over = rw (j, ← e, ← f) o.2;
              chain = rw z (more m);
              entered = now_entered;
            }
          where
            same : {m o q r : List ℕ} {fs gs : List Flaw} → got m fs q ≡ got o gs r → m ≡ o
            same h = cc

-- ---- what the object comes to

module _ (d : ℕ) (s : List ℕ) (short : length s < 16777216) (reach : ℕ) (es : List ℕ) (w : Ended d s reach es) where
  pub ended_clear : 16777216 ≤ least s es → contents_by true (read_frames d) (length s) [] s ≡ freely d (length s) [] s
  ended_clear l = object_own d s ∙ rw (w.own, none_used d s short w.chain l)

  pub ended_twin : least s es < 16777216
      → (contents_by true (read_frames d) (length s) [] s ≡ refused NameUsed (drop (frame_place d s (least s es)) s)) × (frame_place d s (least s es) ≤ length s)
  ended_twin l = let v = used_at_law d s short w.chain l in (object_own d s ∙ rw (w.own, v.0), v.1)

  -- no frame was noted
  pub ended_none : reach ≡ 0 → contents_by true (read_frames d) (length s) [] s ≡ freely d (length s) [] s
  unfolding least_of
  ended_none e = ended_clear (let z = w.entered.none e in rw z (omega arith))
