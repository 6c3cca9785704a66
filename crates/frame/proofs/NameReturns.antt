-- A kind and a name that stand first: what the code knows at each return.
use Rattle.std.specs.Prelude.{None, Option, Result, Err, Ok}
use Prim.Native.Nat.{ℕ, ◌-◌}
use mathlib.Core.Path.{◌≡◌, refl, sym, ◌∙◌}
use mathlib.Core.Logic.{◌⊎◌, inl, inr}
use mathlib.Core.Bool.{Bool, true, false}
use mathlib.Core.List.{List, [], ◌++◌}
use lib.ListN.{length}
use borrow.Author.Tests.{ne_eqb}
use Rattle.number.proofs.Clash.{clash}
use Rattle.format.specs.declared.Kind.{Kind}
use Rattle.format.specs.declared.Kind.TheVariants.{Null}
use Rattle.format.specs.declared.Form.TheVariants.{SharedField}
use Rattle.faults.specs.declared.Modes.{Modes}
use Rattle.faults.specs.declared.Faults.{Faults}
use Rattle.format.specs.declared.Stop.{Stop}
use Rattle.frames.specs.declared.Refusal.TheVariants.{BadFrame, EmptyName, NotText}
use Rattle.format.specs.declared.Flaw.{Flaw}
use Rattle.format.specs.declared.Flaw.TheVariants.{Blank, Long, NotUtf8}
use Rattle.format.specs.Kinds.{known}
use Rattle.format.specs.Parse.{Out, fault, got, bind}
use Rattle.format.specs.Mask.{has}
use Rattle.format.specs.Names.{read_name}
use Rattle.format.specs.Payload.{front}
use Rattle.faults.specs.Noted.{noted, nothing, is_noted}
use Rattle.front.specs.Code.{answer_of, front_at}
use Rattle.format.proofs.Lists.{append_nil}
use Rattle.format.proofs.Local.{with_put}
use Rattle.format.proofs.HeadParts.{front_takes}
use Rattle.frames.specs.FramePieces.{writable}
use Rattle.frame.specs.Pieces.{all_modes, name_by, name_of, name_end_by, name_end}
use Rattle.frame.specs.Made.{name_read}
use Rattle.frame.proofs.FaultLaws.{told}
use Rattle.frame.proofs.MadeLaws.{front_same}
use Rattle.front.specs.declared.Front.{Front}
use Rattle.front.specs.Made.{front_read}

-- ---- the kind

pub kind_bare : (b : ℕ) → (b ≡ 3) ⊎ (b ≡ 5) → None ≡ writable b
unfolding writable
kind_bare b (inl h) = rw h
kind_bare b (inr h) = rw h

pub kind_other : (b : ℕ) (o : Option Kind) → (b ≡ 3 → ⊥) → (b ≡ 5 → ⊥) → o ≡ known b → o ≡ writable b
unfolding writable
kind_other b o g h e = rw (ne_eqb b 3 g, ne_eqb b 5 h) e

pub ruleset kind_laws = (kind_bare, kind_other)

-- ---- a front with a name is the name

abbrev front_named : Kind → Modes → Faults → ℕ → Out (List ℕ) → Result Front Stop
front_named k m g n (fault j) = Err j
front_named k m g n (got t fs r) = front_read k (n - length r - length t) (n - length r) (noted m g fs)

front_named_law : (k : Kind) (m : Modes) (g : Faults) (s : List ℕ) → front_at (SharedField k) m g s ≡ front_named k m g (length s) (read_name s)
unfolding front_at front
front_named_law k m g s = go (read_name s)
  where
    go : (o : Out (List ℕ)) → answer_of Err (λ (x : List ℕ × Kind) h r. front_read x.1 (length s - length r - length x.0) (length s - length r) h) m g
        (bind o λ n q. got (n, k) [] q)
        ≡ front_named k m g (length s) o
    go (fault j) = refl
    go (got t fs r) = rw (with_put {A = List ℕ × Kind} fs [] (t, k) r, append_nil fs)

-- the name ends where what is left begins
pub name_parts : (s : List ℕ) {t : List ℕ} {fs : List Flaw} {r : List ℕ} → read_name s ≡ got t fs r → (w : List ℕ) × (s ≡ w ++ (t ++ r))
unfolding front
name_parts s {t} {fs} {r} h =
    let e : front (SharedField Null) s ≡ got (t, Null) (fs ++ []) r = rw h (with_put {A = List ℕ × Kind} fs [] (t, Null) r) in
    (front_takes (SharedField Null) s e).0

-- ---- the returns

module _ (s : List ℕ) (k : Kind) (m : Modes) (g : Faults) (x : Result Front Stop) (e : x ≡ front_at (SharedField k) m g s) where
  here : x ≡ front_named k m g (length s) (read_name s)
  here = e ∙ front_named_law k m g s

  pub name_stop : (j : Stop) → x ≡ Err j → Err BadFrame ≡ name_of s
  unfolding name_of
  name_stop j i = go (read_name s) (sym i ∙ here)
    where
      go : (o : Out (List ℕ)) → Err j ≡ front_named k m g (length s) o → Err BadFrame ≡ name_by (length s) o
      go (fault j) h = refl
      go (got t fs r) h = clash cc

  pub end_none : (j : Stop) → x ≡ Err j → 0 ≡ name_end s
  unfolding name_end
  end_none j i = go (read_name s) (sym i ∙ here)
    where
      go : (o : Out (List ℕ)) → Err j ≡ front_named k m g (length s) o → 0 ≡ name_end_by (length s) o
      go (fault j) h = refl
      go (got t fs r) h = clash cc

  module _ (q : Front) (i : x ≡ Ok q) where
    -- what was read
    read_case : {X : Type 0} → ((t : List ℕ) (fs : List Flaw) (r : List ℕ) → read_name s ≡ got t fs r → q.name ≡ length s - length r - length t
        → q.start ≡ length s - length r → q.faults ≡ noted m g fs → X) → X
    read_case {X} c = go (read_name s) refl (sym i ∙ here)
      where
        go : (o : Out (List ℕ)) → read_name s ≡ o → Ok q ≡ front_named k m g (length s) o → X
        go (fault j) y z = clash cc
        go (got t fs r) y z = let e = front_same z in c t fs r y e.0 e.1 e.2

    pub end_read : q.start ≡ name_end s
    unfolding name_end
    end_read = read_case λ t fs r er ea eb eh. eb ∙ rw er

    module _ (em : m ≡ all_modes) (eg : g ≡ nothing) (u : Bool) (eu : u ≡ is_noted Long q.faults) where
      noted_all : (fs : List Flaw) → q.faults ≡ noted m g fs → q.faults ≡ noted all_modes nothing fs
      noted_all fs y = rw (em, eg) at y

      pub name_long : u ≡ true → Err BadFrame ≡ name_of s
      unfolding name_of
      name_long j = read_case λ t fs r er ea eb eh. let z : has Long fs ≡ true = told Long q.faults fs u _ (noted_all fs eh) eu j in rw (er, z)

      module _ (ju : u ≡ false) (v : Bool) (ev : v ≡ is_noted Blank q.faults) where
        pub name_blank : v ≡ true → Err EmptyName ≡ name_of s
        unfolding name_of
        name_blank j = read_case λ t fs r er ea eb eh.
            let z : has Long fs ≡ false = told Long q.faults fs u _ (noted_all fs eh) eu ju in
            let y : has Blank fs ≡ true = told Blank q.faults fs v _ (noted_all fs eh) ev j in
            rw (er, z, y)

        module _ (jv : v ≡ false) (w : Bool) (ew : w ≡ is_noted NotUtf8 q.faults) where
          pub name_not_text : w ≡ true → Err NotText ≡ name_of s
          unfolding name_of
          name_not_text j = read_case λ t fs r er ea eb eh.
              let z : has Long fs ≡ false = told Long q.faults fs u _ (noted_all fs eh) eu ju in
              let y : has Blank fs ≡ false = told Blank q.faults fs v _ (noted_all fs eh) ev jv in
              let x : has NotUtf8 fs ≡ true = told NotUtf8 q.faults fs w _ (noted_all fs eh) ew j in
              rw (er, z, y, x)

          pub name_good : w ≡ false → name_read q.name q.start ≡ name_of s
          unfolding name_of
          name_good j = read_case λ t fs r er ea eb eh.
              let z : has Long fs ≡ false = told Long q.faults fs u _ (noted_all fs eh) eu ju in
              let y : has Blank fs ≡ false = told Blank q.faults fs v _ (noted_all fs eh) ev jv in
              let x : has NotUtf8 fs ≡ false = told NotUtf8 q.faults fs w _ (noted_all fs eh) ew j in
              rw (er, z, y, x, ea, eb)

pub ruleset name_laws = (name_stop, name_long, name_blank, name_not_text, name_good)

pub ruleset end_laws = (end_none, end_read)
