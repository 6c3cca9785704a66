-- Frames of an object that stand in a part one after another, each with its name and the name's entry.
use Rattle.std.specs.Prelude.{None}
use Prim.Native.Nat.{ℕ, zero, suc, ◌+◌, ◌≤◌, ◌<◌}
use native.Mathlib.Omega.{arith}
use mathlib.Core.Path.{◌≡◌, refl, ap, ◌∙◌}
use mathlib.Core.List.{List, [], ◌∷◌, ◌++◌}
use lib.ListN.{length, drop, drop_of_length-le}
use borrow.Author.Tests.{le-leb, lt-leb}
use Rattle.front.specs.Between.{between}
use Rattle.passing.specs.FrameNames.{name_of, name_at}
use Rattle.passing.proofs.NamesLaws.{Found, found_at}
use Rattle.entries.specs.Entry.{begin_in, entry_of}
use Rattle.entries.specs.Among.{In, here, there}
use Rattle.entries.proofs.EntryLaws.{entry_begins}
use Rattle.select.specs.declared.Source.TheVariants as S
use Rattle.select.specs.Source.{entries_from, entries_of}
use Rattle.names.specs.declared.Name.{Name}
use Rattle.std.specs.Prelude.{Some}

-- behind the part's end stands no frame
pub no_frame : (d : ℕ) (s : List ℕ) (a : ℕ) → length s ≤ a → name_at d a s ≡ None
unfolding name_at name_of
no_frame zero s a l = refl
no_frame (suc d) s a l = rw (drop_of_length-le s l)

-- from a up to z: each frame by what is left from it on, and its name; and the names' entries
pub data Chain (d : ℕ) (s : List ℕ) : ℕ → List (List ℕ × List ℕ) → List ℕ → ℕ → Type 0 where
  stop : {a : ℕ} → Chain d s a [] [] a
  link : {a z : ℕ} {p : Name} {gs : List (List ℕ × List ℕ)} {es : List ℕ} → name_at d a s ≡ Some p → Chain d s p.next gs es z
      → Chain d s a ((drop a s, between p.begin p.end s) ∷ gs) (entry_of s p.begin p.end ∷ es) z

module _ (d : ℕ) (s : List ℕ) where
  -- one frame more
  pub chain_more : {a z : ℕ} {gs : List (List ℕ × List ℕ)} {es : List ℕ} (p : Name) → Chain d s a gs es z → name_at d z s ≡ Some p
      → Chain d s a (gs ++ ((drop z s, between p.begin p.end s) ∷ [])) (es ++ (entry_of s p.begin p.end ∷ [])) p.next
  chain_more p stop h = link h stop
  chain_more p (link i c) h = link i (chain_more p c h)

  pub chain_on : {a z : ℕ} {gs : List (List ℕ × List ℕ)} {es : List ℕ} → a ≤ length s → Chain d s a gs es z → (a ≤ z) × (z ≤ length s)
  chain_on l stop = (omega arith, l)
  chain_on {a = a} l (link {p = p} h c) =
      let f = found_at d a s l p h in
      let w = chain_on f.inside c in
      (omega (arith, f.onward, w.0), w.1)

  -- ---- the walk over the names meets them

  walk_step : (last k a : ℕ) (p : Name) → a ≤ last → name_at d a s ≡ Some p → entries_from (S.Frames d last) s (suc k) a
      ≡ entry_of s p.begin p.end ∷ entries_from (S.Frames d last) s k p.next
  unfolding entries_from
  walk_step last k a p l h = rw (le-leb a last l, h)

  walk_past : (last k a : ℕ) → last < a → entries_from (S.Frames d last) s k a ≡ []
  unfolding entries_from
  walk_past last zero a l = refl
  walk_past last (suc k) a l = rw (lt-leb a last l)

  -- with enough steps left
  record Walk (last k a z : ℕ) (es : List ℕ) : Type 0 where
    pub fuel : ℕ
    pub enough : length s ≤ z + fuel
    pub whole : entries_from (S.Frames d last) s k a ≡ es ++ entries_from (S.Frames d last) s fuel z

  chain_walk : (last k a : ℕ) {z : ℕ} {gs : List (List ℕ × List ℕ)} {es : List ℕ} → a ≤ length s → length s ≤ a + k → Chain d s a gs es z → z ≤ last
      → Walk last k a z es
  chain_walk last k a l m stop q = record { fuel = k; enough = m; whole = refl }
  chain_walk last zero a l m (link {p = p} h c) q = let f = found_at d a s l p h in absurd (omega (arith, f.onward, f.inside))
  chain_walk last (suc k) a l m (link {p = p} h c) q =
      let f = found_at d a s l p h in
      let w = chain_walk last k p.next f.inside (omega (arith, f.onward)) c q in
      record {
        fuel = w.fuel;
        enough = w.enough;
        whole = walk_step last k a p (omega (arith, f.onward, (chain_on f.inside c).0)) h ∙ ap (λ (es : List ℕ). entry_of s p.begin p.end ∷ es) w.whole;
      }

  -- up to the last frame
  pub chain_entries : {z : ℕ} {gs : List (List ℕ × List ℕ)} {es : List ℕ} (p : Name) → Chain d s 0 gs es z → name_at d z s ≡ Some p
      → entries_of (S.Frames d z) s ≡ es ++ (entry_of s p.begin p.end ∷ [])
  chain_entries {z = z} {es = es} p c h =
      let w = chain_walk z (length s) 0 (omega arith) (omega arith) c (omega arith) in
      w.whole ∙ go w.fuel w.enough
    where
      f : Found d s z p.begin p.end p.next
      f = found_at d z s (chain_on (omega arith) c).1 p h

      go : (k : ℕ) → length s ≤ z + k → es ++ entries_from (S.Frames d z) s k z ≡ es ++ (entry_of s p.begin p.end ∷ [])
      go zero m = absurd (omega (arith, f.onward, f.inside))
      go (suc k) m = rw (walk_step z k z p (omega arith) h, walk_past z k p.next f.onward)

-- ---- the entries

-- of a name that stands in the part
pub record Good (s : List ℕ) (x : ℕ) : Type 0 where
  pub begin : ℕ
  pub end : ℕ
  pub ordered : begin ≤ end
  pub inside : end ≤ length s
  pub is : x ≡ entry_of s begin end

module _ (d : ℕ) (s : List ℕ) (short : length s < 16777216) where
  pub chain_good : {a z : ℕ} {gs : List (List ℕ × List ℕ)} {es : List ℕ} → a ≤ length s → Chain d s a gs es z → (x : ℕ) → In x es → Good s x × (a < begin_in x)
  chain_good l (stop {a = a}) x x17 = elim x17 [ ]
  chain_good {a = a} l (link {p = p} h c) x here =
      let f = found_at d a s l p h in
      let i : p.end ≤ length s = omega (arith, f.before, f.inside) in
      (record { begin = p.begin; end = p.end; ordered = f.ordered; inside = i; is = refl }, rw (entry_begins s p.begin p.end f.ordered i short) f.begins)
  chain_good {a = a} l (link {p = p} h c) x (there i) =
      let f = found_at d a s l p h in
      let w = chain_good f.inside c x i in
      (w.0, omega (arith, w.1, f.onward))
