-- A leaf that stands first: what the code knows at each return.
use Rattle.std.specs.Prelude.{Option, None, Some, unwrap_or, Result, Err, Ok}
use Prim.Native.Nat.{ℕ, ◌-◌}
use native.Mathlib.Omega.{arith}
use mathlib.Core.Path.{◌≡◌, refl, sym, ap, ◌∙◌}
use mathlib.Core.Bool.{Bool, true, false, cond}
use mathlib.Core.List.{List, [], ◌++◌}
use lib.ListN.{length, take, length-append, length-drop}
use lib.Seq.{length-take-le}
use lib.Dec.{ltb}
use Rattle.number.proofs.Clash.{clash}
use Rattle.number.specs.BigEndian.{to_bytes, from_bytes}
use Rattle.number.specs.Fixed.{fixed64}
use Rattle.number.proofs.BigEndianLaws.{to_length}
use Rattle.number.proofs.ReadLaws.{bytes_of}
use Rattle.number.proofs.ReadLaws as reads
use Rattle.float.specs.Rule.{holds}
use Rattle.float.specs.Width.{narrow}
use Rattle.format.specs.declared.Kind.{Kind}
use Rattle.format.specs.declared.Kind.TheVariants.{Float32, Float64}
use Rattle.format.specs.declared.Form.{Form}
use Rattle.faults.specs.declared.Modes.{Modes}
use Rattle.faults.specs.declared.Faults.{Faults}
use Rattle.format.specs.declared.Stop.{Stop}
use Rattle.frames.specs.declared.Refusal.TheVariants.{BadFrame, NotText}
use Rattle.format.specs.Kinds.{id, known}
use Rattle.format.specs.declared.Flaw.{Flaw}
use Rattle.format.specs.declared.Flaw.TheVariants.{Long, Low, Wide, NotUtf8}
use Rattle.format.specs.Parse.{Out, fault, got}
use Rattle.format.specs.Mask.{has}
use Rattle.format.specs.Tree.{Leaf}
use Rattle.format.specs.Payload.{leaf, payload, head}
use Rattle.format.specs.Encoding.{leaf_kind, leaf_payload}
use Rattle.frames.specs.WriteList.{leaf_found}
use Rattle.faults.specs.Noted.{noted, flaw_if, nothing, is_noted}
use Rattle.head.specs.Code.{head_at}
use Rattle.frames.proofs.Flaws.{untrue}
use Rattle.frames.proofs.LeafLaws.{bits_of, Double, leaf_got, leaf_of_law}
use Rattle.frame.specs.Pieces.{all_modes, no_modes, leaf_met, leaf_frame_of, end_in, leaf_end, bits_in}
use Rattle.frame.specs.Made.{leaf_read}
use Rattle.frame.proofs.FaultLaws.{told}
use Rattle.frame.proofs.LeafHeadings.{heading_leaf, heading_leaf_law, Opens, leaf_or, not_leaf}
use Rattle.leaves.specs.declared.Heading.TheVariants as H
use Rattle.leaves.specs.declared.Heading.{Heading}

-- ---- the returns of a leaf

module _ (s : List ℕ) (k : Kind) (m : Modes) (g : Faults) (x : Result Heading Stop) (e : x ≡ head_at k m g s) where
  here : {X : Type 0}
      → ((p : List ℕ → Out Leaf) → payload k ≡ leaf p → x ≡ heading_leaf m g (length s) (p s) → leaf_frame_of k s ≡ leaf_met (length s) (leaf_found s (p s)) → X)
      → (Opens (head k s) → Err BadFrame ≡ leaf_frame_of k s → X) → X
  unfolding leaf_frame_of
  here c d = leaf_or k m g s (λ i. leaf_of_law k i λ p ep. c p ep (e ∙ heading_leaf_law k p ep m g s) (rw ep)) d

  pub leaf_stop : (j : Stop) → x ≡ Err j → Err BadFrame ≡ leaf_frame_of k s
  leaf_stop j i = here (λ p ep h a. go (p s) (sym i ∙ h) ∙ sym a) (λ o z. z)
    where
      go : (o : Out Leaf) → Err j ≡ heading_leaf m g (length s) o → Err BadFrame ≡ leaf_met (length s) (leaf_found s o)
      go (fault j) h = refl
      go (got t fs r) h = clash cc

  leaf_fields : (o : Form) (a b : ℕ) (h : Faults) → x ≡ Ok (H.Fields o a b h) → Err BadFrame ≡ leaf_frame_of k s
  leaf_fields o a b h i = here (λ p ep z y. go (p s) (sym i ∙ z)) (λ o z. z)
    where
      go : {Y : Type 0} (q : Out Leaf) → Ok (H.Fields o a b h) ≡ heading_leaf m g (length s) q → Y
      go (fault j) h = clash cc
      go (got t fs r) h = clash cc

  leaf_items : (o : Form) (n a b : ℕ) (h : Faults) → x ≡ Ok (H.Items o n a b h) → Err BadFrame ≡ leaf_frame_of k s
  leaf_items o n a b h i = here (λ p ep z y. go (p s) (sym i ∙ z)) (λ o z. z)
    where
      go : {Y : Type 0} (q : Out Leaf) → Ok (H.Items o n a b h) ≡ heading_leaf m g (length s) q → Y
      go (fault j) h = clash cc
      go (got t fs r) h = clash cc

  pub leaf_other : (t : Heading) → x ≡ Ok t → ((b : ℕ) (h : Faults) → t ≡ H.Leaf b h → ⊥) → Err BadFrame ≡ leaf_frame_of k s
  leaf_other (H.Leaf b h) i n = absurd (n b h refl)
  leaf_other (H.Fields o a b h) i n = leaf_fields o a b h i
  leaf_other (H.Items o n a b h) i f = leaf_items o n a b h i

  module _ (q : Heading) (iq : x ≡ Ok q) (b : ℕ) (h : Faults) (il : q ≡ H.Leaf b h) (em : m ≡ all_modes) (eg : g ≡ nothing) where
    i : x ≡ Ok (H.Leaf b h)
    i = iq ∙ ap Ok il

    read_case : {X : Type 0} → ((p : List ℕ → Out Leaf) (v : Leaf) (fs : List Flaw) (r : List ℕ) → payload k ≡ leaf p → p s ≡ got v fs r
        → b ≡ length s - length r → h ≡ noted all_modes nothing fs → leaf_frame_of k s ≡ leaf_met (length s) (leaf_found s (p s)) → X) → X
    read_case {X} c = here (λ p ep z a. go p ep a (p s) refl (sym i ∙ z)) (λ o z. not_leaf k m g s o b h (sym e ∙ i))
      where
        go : (p : List ℕ → Out Leaf) → payload k ≡ leaf p → leaf_frame_of k s ≡ leaf_met (length s) (leaf_found s (p s)) → (o : Out Leaf) → p s ≡ o
            → Ok (H.Leaf b h) ≡ heading_leaf m g (length s) o → X
        go p ep a (fault j) y z = clash cc
        go p ep a (got v fs r) y z = c p v fs r ep y (cc) (let w : h ≡ noted m g fs = cc in rw (em, eg) at w) a

    module _ (t : Bool) (et : t ≡ is_noted Long h) where
      pub leaf_long : t ≡ true → Err BadFrame ≡ leaf_frame_of k s
      leaf_long j = read_case λ p v fs r ep er eb eh a. let z : has Long fs ≡ true = told Long h fs t _ eh et j in rw (a, er, z)

      module _ (jt : t ≡ false) (u : Bool) (eu : u ≡ is_noted Low h) where
        pub leaf_low : u ≡ true → Err BadFrame ≡ leaf_frame_of k s
        leaf_low j = read_case λ p v fs r ep er eb eh a.
            let z : has Long fs ≡ false = told Long h fs t _ eh et jt in
            let y : has Low fs ≡ true = told Low h fs u _ eh eu j in
            rw (a, er, z, y)

        module _ (ju : u ≡ false) (o : Bool) (eo : o ≡ is_noted NotUtf8 h) where
          pub leaf_not_text : o ≡ true → Err NotText ≡ leaf_frame_of k s
          leaf_not_text j = read_case λ p v fs r ep er eb eh a.
              let z : has Long fs ≡ false = told Long h fs t _ eh et jt in
              let y : has Low fs ≡ false = told Low h fs u _ eh eu ju in
              let x : has NotUtf8 fs ≡ true = told NotUtf8 h fs o _ eh eo j in
              rw (a, er, z, y, x)

          module _ (jo : o ≡ false) (f : Bool) (ef : f ≡ is_noted Wide h) (w : reads.Known s) where
            -- the frame is good
            good : {X : Type 0}
                → ((v : Leaf) (fs : List Flaw) (r : List ℕ) → leaf_frame_of k s ≡ leaf_read (length s - length r) (id (leaf_kind v)) (length (leaf_payload v))
                → b ≡ length s - length r → has Wide fs ≡ f
                → ((fs ≡ [] → s ≡ leaf_payload v ++ r → leaf_kind v ≡ k → X) → (k ≡ Float64 → Double s v fs r → X) → X) → X) → X
            good c = read_case λ p v fs r ep er eb eh a.
                let z : has Long fs ≡ false = told Long h fs t _ eh et jt in
                let y : has Low fs ≡ false = told Low h fs u _ eh eu ju in
                let x : has NotUtf8 fs ≡ false = told NotUtf8 h fs o _ eh eo jo in
                c v fs r (a ∙ rw (er, z, y, x)) eb (told Wide h fs f f eh ef refl) (λ a1 a2. leaf_got k p ep s (bytes_of s w) er z y x (λ ne. a1) a2)

            pub leaf_wide : f ≡ true → leaf_read b 10 4 ≡ leaf_frame_of k s
            leaf_wide j = good λ v fs r ea eb ew c. c
                (λ ef' es ek. untrue (let z : has Wide fs ≡ false = rw ef' in sym z ∙ ew ∙ j))
                (λ ek d. let z : holds (bits_of s) ≡ true = go (holds (bits_of s)) (rw d.flaws at (ew ∙ j)) in
                let i : leaf_kind v ≡ Float32 = rw z at d.kind in
                let y : leaf_payload v ≡ to_bytes 4 (narrow (bits_of s)) = rw z at d.bytes in
                rw (ea, i, y, to_length 4 (narrow (bits_of s)), eb))
              where
                go : (x : Bool) → has Wide (flaw_if x Wide) ≡ true → x ≡ true
                go true h = refl
                go false h = untrue h

            pub leaf_plain : f ≡ false → (n : ℕ) → n ≡ id k → leaf_read b n b ≡ leaf_frame_of k s
            leaf_plain j n en' = good λ v fs r ea eb ew c. c
                (λ ef' es ek.
                let q : b ≡ length (leaf_payload v) = omega (arith, simp length-append at (ap length es)) in
                let y : length s - length r ≡ b = sym eb in rw (ea, ek, y, en', ← q))
                (λ ek d. let z : holds (bits_of s) ≡ false = go (holds (bits_of s)) (rw d.flaws at (ew ∙ j)) in
                let i : leaf_kind v ≡ Float64 = rw z at d.kind in
                let y : leaf_payload v ≡ take 8 s = rw z at d.bytes in
                let t : length (leaf_payload v) ≡ 8 = rw y (length-take-le 8 s d.enough) in
                let u : length r ≡ length s - 8 = rw d.left (length-drop 8 s) in
                let q : b ≡ 8 = omega (arith, d.enough) in
                let p : length s - length r ≡ 8 = sym eb ∙ q in
                rw (ea, i, en', ek, t, q, p))
              where
                go : (x : Bool) → has Wide (flaw_if x Wide) ≡ false → x ≡ false
                go true h = untrue (sym h)
                go false h = refl

-- ---- a leaf that was read before

module _ (s : List ℕ) (b : ℕ) (o : Option Kind) (e : o ≡ known b) where
  pub end_unknown : o ≡ None → 0 ≡ leaf_end b s
  unfolding leaf_end
  end_unknown i = let z : known b ≡ None = sym e ∙ i in rw z

  module _ (k : Kind) (i : o ≡ Some k) (m : Modes) (em : m ≡ no_modes) (g : Faults) (eg : g ≡ nothing) (x : Result Heading Stop) (ex : x ≡ head_at k m g s) where
    end_is : end_in x ≡ leaf_end b s
    unfolding leaf_end
    end_is = let z : known b ≡ Some k = sym e ∙ i in let y : x ≡ head_at k no_modes nothing s = rw (em, eg) at ex in rw (z, y)

    pub end_stop : (j : Stop) → x ≡ Err j → 0 ≡ leaf_end b s
    end_stop j q = rw q at end_is

    module _ (t : Heading) (q : x ≡ Ok t) where
      pub end_other : ((c : ℕ) (h : Faults) → t ≡ H.Leaf c h → ⊥) → 0 ≡ leaf_end b s
      end_other n = go t (rw q at end_is) n
        where
          go : (t : Heading) → end_in (Ok t) ≡ leaf_end b s → ((c : ℕ) (h : Faults) → t ≡ H.Leaf c h → ⊥) → 0 ≡ leaf_end b s
          go (H.Leaf c h) e n = absurd (n c h refl)
          go (H.Fields o a c h) e n = e
          go (H.Items o m a c h) e n = e

      pub end_leaf : (c : ℕ) (h : Faults) → t ≡ H.Leaf c h → c ≡ leaf_end b s
      end_leaf c h i = rw (q, i) at end_is

-- ---- eight bytes

pub bits_law : (s : List ℕ) (n : ℕ) → n ≡ unwrap_or (fixed64 s) 0 → n ≡ bits_in s
unfolding bits_in
bits_law s n e = e ∙ go (ltb (length s) 8)
  where
    go : (b : Bool) → unwrap_or (cond b None (Some (from_bytes (take 8 s)))) 0 ≡ cond b 0 (from_bytes (take 8 s))
    go true = refl
    go false = refl

pub ruleset leaf_laws = (leaf_stop, leaf_other, leaf_long, leaf_low, leaf_not_text, leaf_wide, leaf_plain)

pub ruleset end_laws = (end_unknown, end_stop, end_other, end_leaf)
