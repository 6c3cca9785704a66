-- What a pass and the whole search answer at each return.
use Rattle.std.specs.Prelude.{Option, None}
use Prim.Native.Nat.{ℕ, ◌-◌, ◌/◌, ◌≤◌, ◌<◌}
use native.Mathlib.Omega.{arith}
use mathlib.Core.Path.{◌≡◌, refl, ap, ◌∙◌, subst}
use mathlib.Core.Bool.{Bool, true, false, not}
use mathlib.Core.List.{List, [], ◌∷◌, ◌++◌}
use lib.ListN.{length}
use Rattle.std.proofs.Common.{Option, None, Some}
use Rattle.std.specs.Option.{is_some}
use Rattle.number.proofs.Clash.{clash}
use Rattle.entries.specs.Least.{least}
use Rattle.entries.specs.Entry.{entry_of}
use Rattle.entries.specs.Among.{In}
use Rattle.select.specs.declared.Source.{Source}
use Rattle.select.specs.declared.Pass.{Pass}
use Rattle.select.specs.Source.{named_at, entries_of, first_twin}
use Rattle.select.specs.Passes.{Covered, Settled, Reached, Standing, Adds, Finishes, Passes}
use Rattle.select.proofs.HalfLaws.{none_in}
use Rattle.select.proofs.WalkLaws.{Walked, walk_starts, walk_ends, walk_stops, walk_on, walk_in, walk_less}
use Rattle.select.proofs.PassLaws.{first_pass, next_pass, last_pass, left, left_less}
use Rattle.names.specs.declared.Name.{Name}

-- ---- the loop of a pass

pub record Gathering (o : Source) (s : List ℕ) (low : Option ℕ) (t₀ t : List ℕ) (at : ℕ) (p : Pass) : Type 0 where
  pub met : List ℕ
  pub kept : length t ≡ length t₀
  pub walked : Walked o s met at
  pub standing : Standing s (entries_of o s) met low t p

module _ (o : Source) (s : List ℕ) (low : Option ℕ) (t₀ : List ℕ) where
  nothing : {X : Type 0} (e : ℕ) → In e [] → X
  nothing e i = none_in e [] i refl

  pub gather_starts : (stop : ℕ) → Covered s (entries_of o s) low stop → Gathering o s low t₀ t₀ 0 (record { high = None; count = 0; stop = stop })
  gather_starts stop c =
      record {
        met = [];
        kept = refl;
        walked = walk_starts o s;
        standing =
            record {
              inside = λ e i. nothing e i;
              covered = c;
              holds = record { few = omega arith; there = λ e i. nothing e i; all = λ e i v. nothing e i };
              reached = tt;
            };
      }

  module _ (t : List ℕ) (at : ℕ) (p : Pass) (g : Gathering o s low t₀ t at p) where
    pub gather_few : p.count ≤ length t / 2
    gather_few = g.standing.holds.few

    ends : entries_of o s ≡ g.met → (t' : List ℕ) (q : Pass) → Finishes s t t' p q → Passes s (entries_of o s) low t₀ t' q
    ends h t' q f =
        let st : Standing s (entries_of o s) (entries_of o s) low t p = whole (entries_of o s) g.met h g.standing in
        record { kept = f.kept ∙ g.kept; settled = f.is (entries_of o s) low st; reached = bound q.high f.bound }
      where
        whole : (es ws : List ℕ) → es ≡ ws → Standing s es ws low t p → Standing s es es low t p
        whole es ws d st = rw (← d) at st

        bound : (h : Option ℕ) → h ≡ p.high → Reached s (entries_of o s) low h
        bound h d = rw d g.standing.reached

    pub gather_ends : length s ≤ at → (t' : List ℕ) (q : Pass) → Finishes s t t' p q → Passes s (entries_of o s) low t₀ t' q
    gather_ends l = ends (walk_ends o s g.met at g.walked l)

    module _ (x : Option Name) (e : x ≡ named_at o at s) where
      pub gather_stops : x ≡ None → (t' : List ℕ) (q : Pass) → Finishes s t t' p q → Passes s (entries_of o s) low t₀ t' q
      gather_stops h = ends (walk_stops o s g.met at g.walked x e h)

      module _ (l : at < length s) (m : Name) (h : x ≡ Some m) where
        pub gather_on : (y : ℕ) → y ≡ entry_of s m.begin m.end → (t' : List ℕ) (q : Pass) → Adds s t t' low y p q → Gathering o s low t₀ t' m.next q
        gather_on y d t' q a =
            let i = walk_in o s g.met at g.walked x e l m h in
            record {
              met = g.met ++ (entry_of s m.begin m.end ∷ []);
              kept = a.kept ∙ g.kept;
              walked = walk_on o s g.met at g.walked x e l m h;
              standing = rw d at (a.is (entries_of o s) g.met (rw d i) g.standing);
            }

        pub gather_less : length s - m.next < length s - at
        gather_less = walk_less o s g.met at g.walked x e l m h

-- ---- pass after pass

pub record Searching (o : Source) (s : List ℕ) (t₀ t : List ℕ) (low : Option ℕ) (stop : ℕ) : Type 0 where
  pub kept : length t ≡ length t₀
  pub covered : Covered s (entries_of o s) low stop

pub search_starts : (o : Source) (s t : List ℕ) → Searching o s t t None 16777216
search_starts o s t = record { kept = refl; covered = first_pass s (entries_of o s) }

module _ (o : Source) (s t₀ t : List ℕ) (low : Option ℕ) (stop : ℕ) (g : Searching o s t₀ t low stop) (t' : List ℕ) (p : Pass)
    (w : Passes s (entries_of o s) low t t' p)
    (q : Bool) (e : is_some p.high ≡ not q) where
  pub search_ends : q ≡ true → (p.stop ≡ first_twin o s) × (length t' ≡ length t₀)
  unfolding first_twin
  search_ends h = go p.high refl (e ∙ ap not h)
    where
      go : (b : Option ℕ) → p.high ≡ b → is_some b ≡ false → (p.stop ≡ least s (entries_of o s)) × (length t' ≡ length t₀)
      go None d i = (last_pass s (entries_of o s) p.stop (subst (λ b. Settled s (entries_of o s) b p.stop) d w.settled), w.kept ∙ g.kept)
      go (Some y) d i = clash cc

  pub search_on : q ≡ false → Searching o s t₀ t' p.high p.stop
  search_on h = go p.high refl (e ∙ ap not h)
    where
      go : (b : Option ℕ) → p.high ≡ b → is_some b ≡ true → Searching o s t₀ t' b p.stop
      go None d i = clash cc
      go (Some y) d i =
          let settled : Settled s (entries_of o s) (Some y) p.stop = subst (λ b. Settled s (entries_of o s) b p.stop) d w.settled in
          record { kept = w.kept ∙ g.kept; covered = next_pass s (entries_of o s) y p.stop settled }

  pub search_less : q ≡ false → left s p.high (entries_of o s) < left s low (entries_of o s)
  search_less h = go p.high refl (e ∙ ap not h)
    where
      go : (b : Option ℕ) → p.high ≡ b → is_some b ≡ true → left s b (entries_of o s) < left s low (entries_of o s)
      go None d i = clash cc
      go (Some y) d i =
          let reached : Reached s (entries_of o s) low (Some y) = subst (λ b. Reached s (entries_of o s) low b) d w.reached in
          left_less s low y reached.1 (entries_of o s) reached.0
