-- The walk over the names of a part: what was met so far, and what comes.
use Rattle.std.specs.Prelude.{None, Some, Option}
use Prim.Native.Nat.{ℕ, zero, suc, ◌+◌, ◌-◌, ◌≤◌, ◌<◌}
use native.Mathlib.Omega.{arith}
use mathlib.Core.Path.{◌≡◌, refl, sym, ap, ◌∙◌}
use mathlib.Core.Bool.{Bool, true, false, cond}
use mathlib.Core.List.{List, [], ◌∷◌, ◌++◌, append_assoc, append-nil}
use lib.Dec.{leb}
use Rattle.number.proofs.Clash.{clash}
use lib.ListN.{length, drop_of_length-le}
use Rattle.names.proofs.NameFound.{found_at, name_at_past}
use Rattle.names.proofs.NameApart.{lead, name_apart}
use Rattle.passing.specs.FrameNames as frames
use Rattle.passing.proofs.NamesLaws as passing
use Rattle.entries.specs.Entry.{entry_of}
use Rattle.entries.specs.Among.{In}
use Rattle.entries.proofs.Perms.{in_left, in_last}
use Rattle.select.specs.declared.Source.{Source}
use Rattle.select.specs.declared.Source.TheVariants as S
use Rattle.select.specs.Source.{named_at, entries_after, entries_from, entries_of}
use Rattle.names.specs.declared.Name.{Name}

-- ---- the name at a position

-- before a name stand so many bytes at least
abbrev pub lead_of : Source → ℕ
lead_of (S.Fields f) = lead f
lead_of (S.Frames d p) = 1

-- where it stands, and where the next one does
pub record Named (o : Source) (s : List ℕ) (a b e n : ℕ) : Type 0 where
  pub ordered : b ≤ e
  pub before : e ≤ n
  pub inside : n ≤ length s
  pub onward : a < n
  pub behind : lead_of o + a ≤ b
  pub apart : b < lead_of o + n

pub named_on : (o : Source) (s : List ℕ) (a : ℕ) (p : Name) → a ≤ length s → named_at o a s ≡ Some p → Named o s a p.begin p.end p.next
named_on (S.Fields f) s a p l h =
    let w = found_at f s a (Some p) (sym h) l p refl in
    let v = name_apart f s a p h in
    record { ordered = w.ordered; before = w.before; inside = w.inside; onward = w.onward; behind = v.0; apart = v.1 }
named_on (S.Frames d last) s a p l h = go (leb a last) h
  where
    go : (t : Bool) → cond t (frames.name_at d a s) None ≡ Some p → Named (S.Frames d last) s a p.begin p.end p.next
    go true h =
        let w = passing.found_at d a s l p h in
        record {
          ordered = w.ordered;
          before = w.before;
          inside = w.inside;
          onward = w.onward;
          behind = omega (arith, w.begins);
          apart = omega (arith, w.ordered, w.before);
        }
    go false h = clash cc

no_frame : (d : ℕ) (s : List ℕ) (a : ℕ) → length s ≤ a → frames.name_at d a s ≡ None
unfolding frames.name_at frames.name_of
no_frame zero s a l = refl
no_frame (suc d) s a l = rw (drop_of_length-le s l)

named_past : (o : Source) (s : List ℕ) (a : ℕ) → length s ≤ a → named_at o a s ≡ None
named_past (S.Fields f) s a l = sym (name_at_past f s a l)
named_past (S.Frames d p) s a l = rw (no_frame d s a l) (go (leb a p))
  where
    go : (t : Bool) → ◌≡◌ {A = Option Name} (cond t None None) None
    go true = refl
    go false = refl

-- ---- the walk

pub record Walked (o : Source) (s ws : List ℕ) (at : ℕ) : Type 0 where
  pub fuel : ℕ
  pub enough : length s ≤ at + fuel
  pub inside : at ≤ length s
  pub whole : entries_of o s ≡ ws ++ entries_from o s fuel at

pub walk_starts : (o : Source) (s : List ℕ) → Walked o s [] 0
walk_starts o s = record { fuel = length s; enough = omega arith; inside = omega arith; whole = refl }

module _ (o : Source) (s ws : List ℕ) (at : ℕ) (w : Walked o s ws at) where
  ended : named_at o at s ≡ None → entries_of o s ≡ ws
  unfolding entries_from
  ended h = w.whole ∙ go w.fuel
    where
      go : (k : ℕ) → ws ++ entries_from o s k at ≡ ws
      go zero = append-nil ws
      go (suc k) = rw h (append-nil ws)

  pub walk_ends : length s ≤ at → entries_of o s ≡ ws
  walk_ends l = ended (named_past o s at l)

  module _ (x : Option Name) (e : x ≡ named_at o at s) where
    pub walk_stops : x ≡ None → entries_of o s ≡ ws
    walk_stops h = ended (sym e ∙ h)

    module _ (l : at < length s) (p : Name) (h : x ≡ Some p) where
      onward : Named o s at p.begin p.end p.next
      onward = named_on o s at p (omega arith) (sym e ∙ h)

      pub walk_less : length s - p.next < length s - at
      walk_less = omega (arith, onward.onward, onward.inside)

      pub walk_on : Walked o s (ws ++ (entry_of s p.begin p.end ∷ [])) p.next
      unfolding entries_from
      walk_on = go w.fuel w.enough w.whole
        where
          go : (k : ℕ) → length s ≤ at + k → entries_of o s ≡ ws ++ entries_from o s k at → Walked o s (ws ++ (entry_of s p.begin p.end ∷ [])) p.next
          go zero q i = absurd (omega arith)
          go (suc k) q i =
              record {
                fuel = k;
                enough = omega (arith, onward.onward);
                inside = onward.inside;
                whole = i ∙ ap (λ (y : Option Name). ws ++ entries_after s y (λ m. entries_from o s k m)) (sym e ∙ h)
                    ∙ sym (append_assoc ws (entry_of s p.begin p.end ∷ []) (entries_from o s k p.next));
              }

      pub walk_in : In (entry_of s p.begin p.end) (entries_of o s)
      walk_in = same (entries_of o s) _ walk_on.whole (in_left (ws ++ (entry_of s p.begin p.end ∷ [])) _ (in_last ws (entry_of s p.begin p.end)))
        where
          same : (xs ys : List ℕ) → xs ≡ ys → In (entry_of s p.begin p.end) ys → In (entry_of s p.begin p.end) xs
          same xs ys e i = rw e i
