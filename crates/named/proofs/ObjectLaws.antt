-- The fields of an object with their names, as the loop reads and notes them.
use Rattle.std.specs.Prelude.{Err, Ok, Result}
use Prim.Native.Nat.{ℕ, ◌+◌, ◌-◌, ◌≤◌, ◌<◌}
use native.Mathlib.Omega.{arith}
use mathlib.Core.Path.{◌≡◌, refl, ap, ◌∙◌}
use mathlib.Core.Bool.{Bool, true, false, cond}
use mathlib.Core.List.{List, [], ◌∷◌, ◌++◌, append-nil}
use lib.ListN.{length, take, drop, length-append, length-drop, drop_of_length-le}
use lib.Seq.{take_at, length-take-le}
use lib.Dec.{eqb, ltb}
use borrow.Author.Tests.{eqb-true}
use Rattle.format.specs.declared.Kind.{Kind}
use Rattle.format.specs.declared.Form.{Form}
use Rattle.format.specs.declared.Stop.{Stop}
use Rattle.format.specs.declared.Stop.TheVariants.{Early}
use Rattle.faults.specs.declared.Modes.{Modes}
use Rattle.faults.specs.declared.Faults.{Faults}
use Rattle.format.specs.Kinds.{id}
use Rattle.format.specs.Payload.{fields_in}
use Rattle.front.specs.Between.{between}
use Rattle.front.proofs.BetweenLaws.{rest_all}
use Rattle.run.specs.Run.{join}
use Rattle.names.specs.FieldNames as names
use Rattle.names.specs.Made.{name_met}
use Rattle.entries.specs.Entry.{entry_of}
use Rattle.select.specs.declared.Source.TheVariants as S
use Rattle.select.specs.Source.{Searched, first_twin}
use Rattle.select.proofs.SourceLaws.{twins_of_fields}
use Rattle.select.proofs.WalkLaws.{Walked, walk_starts, walk_ends, walk_on}
use Rattle.notes.specs.declared.Notes.{Notes}
use Rattle.notes.specs.declared.Notes.TheVariants.{Few}
use Rattle.notes.specs.Notes.{held_in, Noting, noting, added, told}
use Rattle.notes.proofs.NoteLaws.{Noted, noted_none, noted_held, noted_kept, noted_more, noted_told, added_length, told_length}
use Rattle.contents.specs.Contents.{object_end}
use Rattle.checks.specs.Checks.{contents_at}
use Rattle.checks.proofs.LoopLaws.{Fields, fields_start, fields_out, fields_fault, fields_step, fields_end}
use Rattle.named.specs.Named.{named_at, field_in, noted_at, Kept}
use Rattle.named.proofs.NamedCases.{named_field, named_inside, named_place}
use Rattle.named.specs.declared.Named.{Named}
use Rattle.named.specs.Made.{named_read}

-- ---- one name more

module _ (s t : List ℕ) (n : Notes) (at a b e : ℕ) where
  pub note_none : e ≡ 0 → noting n t ≡ noted_at s t n at a b e
  note_none z = rw z

  pub note_some : (e ≡ 0 → ⊥) → (x : ℕ) → x ≡ entry_of s (at + a) (at + b) → (w : Noting) → w ≡ added s t n x → w ≡ noted_at s t n at a b e
  note_some f x i w h = go (eqb e 0) refl
    where
      go : (o : Bool) → eqb e 0 ≡ o → w ≡ cond o (noting n t) (added s t n (entry_of s (at + a) (at + b)))
      go true q = absurd (f (eqb-true e 0 q))
      go false q = h ∙ ap (added s t n) i

-- ---- the loop: of the table t₀ the front holds the notes of the names that were met

pub record Object (f : Form) (m : Modes) (d : ℕ) (g : Faults) (s t₀ t : List ℕ) (at room : ℕ) (h : Faults) (u : ℕ) (n : Notes) : Type 0 where
  pub fields : Fields f m d g s at room h u
  pub met : List ℕ
  pub walked : Walked (S.Fields f) s met at
  pub noted : Noted s met t n
  pub kept : length t ≡ length t₀

module _ (f : Form) (m : Modes) (d : ℕ) (g : Faults) (s t₀ : List ℕ) where
  pub object_start : Object f m d g s t₀ t₀ 0 (length s) g 0 (Few 0)
  object_start = record { fields = fields_start f m d g s; met = []; walked = walk_starts (S.Fields f) s; noted = noted_none s t₀; kept = refl }

  module _ (t : List ℕ) (at room : ℕ) (h : Faults) (u : ℕ) (n : Notes) (l : Object f m d g s t₀ t at room h u n) where
    pub object_kept : Kept t₀ t
    object_kept = record { is = l.kept }

    pub object_out : room ≡ 0 → at < length s → Err Early ≡ contents_at (fields_in f s) m d g
    object_out z i = fields_out f m d g s at room h u l.fields z i

    module _ (held : ℕ) (z : held ≡ held_in n) where
      pub object_held : held ≤ length t
      object_held = rw z (noted_held s l.met t n l.noted)

      -- what is lent down comes back behind the notes
      module _ (y t₁ : List ℕ) (same : Kept (between held (length t) t) y) (returned : t₁ ≡ take held t ++ (y ++ drop (length t - held) (drop held t))) where
        back : t₁ ≡ take held t ++ y
        back =
            let e : drop (length t - held) (drop held t) ≡ [] = drop_of_length-le (drop held t) {i = length t - held} (omega (arith, length-drop held t)) in
            returned ∙ ap (λ (v : List ℕ). take held t ++ v) (ap (λ (v : List ℕ). y ++ v) e ∙ append-nil y)

        front_length : length (take held t) ≡ held
        front_length = length-take-le held t object_held

        back_length : length t₁ ≡ length t
        back_length =
            let c : length y ≡ length t - held = same.is ∙ ap length (rest_all held t) ∙ length-drop held t in
            ap length back ∙ length-append (take held t) y ∙ (omega (arith, front_length, c, object_held))

        pub back_kept : Kept t₀ t₁
        back_kept = record { is = back_length ∙ l.kept }

        back_front : take held t₁ ≡ take held t
        back_front = ap (take held) back ∙ take_at (take held t) y held front_length

        back_noted : Noted s l.met t₁ n
        back_noted = noted_kept s l.met t t₁ n l.noted back_length (rw (← z) back_front)

        module _ (i : 0 < room) (j : at < length s) (x : Result Named Stop) (e : x ≡ named_at f m d h (between at (length s) s)) where
          pub object_fault : (k : Stop) → x ≡ Err k → Err k ≡ contents_at (fields_in f s) m d g
          object_fault k q =
              fields_fault f m d g s at room h u l.fields i j (field_in x) (named_field f m h (between at (length s) s) d x e) k (ap field_in q)

          module _ (p : Named) (q : x ≡ Ok p) where
            stepped : Fields f m d g s (at + p.end) (room - 1) p.faults (join u (id p.kind))
            stepped =
                fields_step f m d g s at room h u l.fields i j (field_in x) (named_field f m h (between at (length s) s) d x e)
                (record { kind = p.kind; end = p.end; faults = p.faults }) (ap field_in q)

            pub object_inside : at + p.end ≤ length s
            object_inside = stepped.inside

            pub object_name : p.name ≤ length s
            object_name = let w = named_inside f m h (between at (length s) s) d x e p q in
                omega (arith, w.0, ap length (rest_all at s) ∙ length-drop at s)

            pub object_starts : p.start ≤ length s
            object_starts = let w = named_inside f m h (between at (length s) s) d x e p q in
                omega (arith, w.1, ap length (rest_all at s) ∙ length-drop at s)

            place : names.name_at f at s ≡ names.behind at (names.ended_at p.name p.start p.end)
            unfolding names.name_at
            place = ap (names.behind at) (rw (rest_all at s) at (named_place f m h (between at (length s) s) d x e p q))

            pub object_step : (t₂ : List ℕ) (n' : Notes) → noting n' t₂ ≡ noted_at s t₁ n at p.name p.start p.end → (u' : ℕ) → u' ≡ join u (id p.kind)
                → Object f m d g s t₀ t₂ (at + p.end) (room - 1) p.faults u' n'
            object_step t₂ n' w u' r = rw r (go (eqb p.end 0) refl w)
              where
                go : (o : Bool) → eqb p.end 0 ≡ o → noting n' t₂ ≡ cond o (noting n t₁) (added s t₁ n (entry_of s (at + p.name) (at + p.start)))
                    → Object f m d g s t₀ t₂ (at + p.end) (room - 1) p.faults (join u (id p.kind)) n'
                go true o w =
                    let z₁ : n' ≡ n = ap (λ (y : Noting). y.notes) w in
                    let z₂ : t₂ ≡ t₁ = ap (λ (y : Noting). y.table) w in
                    let z₃ : at + p.end ≡ at = omega (arith, eqb-true p.end 0 o) in
                    record {
                      fields = stepped;
                      met = l.met;
                      walked = rw z₃ l.walked;
                      noted = rw (z₁, z₂) back_noted;
                      kept = ap length z₂ ∙ back_length ∙ l.kept;
                    }
                go false o w =
                    let e₁ : names.name_at f at s ≡ name_met (at + p.name) (at + p.start) (at + p.end) = place ∙ rw o in
                    let z₁ : n' ≡ (added s t₁ n (entry_of s (at + p.name) (at + p.start))).notes = ap (λ (y : Noting). y.notes) w in
                    let z₂ : t₂ ≡ (added s t₁ n (entry_of s (at + p.name) (at + p.start))).table = ap (λ (y : Noting). y.table) w in
                    record {
                      fields = stepped;
                      met = l.met ++ (entry_of s (at + p.name) (at + p.start) ∷ []);
                      walked = walk_on (S.Fields f) s l.met at l.walked (names.name_at f at s) refl j
                          (record { begin = at + p.name; end = at + p.start; next = at + p.end }) e₁;
                      noted = rw (z₁, z₂) (noted_more s l.met t₁ n (entry_of s (at + p.name) (at + p.start)) back_noted);
                      kept = ap length z₂ ∙ added_length s t₁ n (entry_of s (at + p.name) (at + p.start)) ∙ back_length ∙ l.kept;
                    }

    -- the end
    pub object_end_law : length s < 16777216 → length s ≤ at → (r : ℕ) (t₁ : List ℕ) → ◌≡◌ {A = Searched} (record { answer = r; table = t₁ })
        (told (S.Fields f) s t n)
        → (v : Faults) → v ≡ object_end f m h u (ltb r 16777216) → Ok v ≡ contents_at (fields_in f s) m d g
    object_end_law short i r t₁ w v e =
        let a : r ≡ first_twin (S.Fields f) s =
        ap (λ (y : Searched). y.answer) w ∙ noted_told (S.Fields f) s l.met t n l.noted (walk_ends (S.Fields f) s l.met at l.walked i) in
        let b : ltb r 16777216 ≡ names.twins_at f s = ap (λ (y : ℕ). ltb y 16777216) a ∙ twins_of_fields f s short in
        fields_end f m d g s at room h u l.fields i v (e ∙ ap (object_end f m h u) b)

    pub object_lent : (r : ℕ) (t₁ : List ℕ) → ◌≡◌ {A = Searched} (record { answer = r; table = t₁ }) (told (S.Fields f) s t n) → Kept t₀ t₁
    object_lent r t₁ w = record { is = ap (λ (y : Searched). length y.table) w ∙ told_length (S.Fields f) s t n ∙ l.kept }

pub ruleset note_laws = (note_none, note_some)
