-- What the passes know of the names. No public contract cites it.
use Rattle.std.specs.Prelude.{ℕ, ◌/◌, ◌≤◌, ◌<◌, ◌≡◌, true, false, List, [], ◌∷◌, ◌++◌, length, take, drop, Option, None, Some}
use Rattle.entries.specs.Entry.{begin_in}
use Rattle.entries.specs.Least.{is_first, least}
use Rattle.entries.specs.Among.{In}
use Rattle.select.specs.declared.Pass.{Pass}
use Rattle.select.specs.Range.{above, up_to, wanted}

-- of the entries es, those that are not above a bound are dealt with: no twin among them begins before `stop`, which does not stand before the first twin
-- of all
pub record Covered (s es : List ℕ) (low : Option ℕ) (stop : ℕ) : Type 0 where
  pub bound : stop ≤ 16777216
  pub late : least s es ≤ stop
  pub done : (x e : ℕ) → In x es → In e es → is_first s x e ≡ true → above s low e ≡ false → stop ≤ begin_in e

-- the same of those up to a bound
pub record Settled (s es : List ℕ) (high : Option ℕ) (stop : ℕ) : Type 0 where
  pub bound : stop ≤ 16777216
  pub late : least s es ≤ stop
  pub done : (x e : ℕ) → In x es → In e es → is_first s x e ≡ true → up_to s high e ≡ true → stop ≤ begin_in e

-- a table of n entries: those of ws that are wanted
pub record Holds (s ws : List ℕ) (low high : Option ℕ) (stop n : ℕ) (t : List ℕ) : Type 0 where
  pub few : n ≤ length t / 2
  pub there : (e : ℕ) → In e (take n t) → In e ws × (wanted s low high stop e ≡ true)
  pub all : (e : ℕ) → In e ws → wanted s low high stop e ≡ true → In e (take n t)

-- a bound that a pass comes to is a name that it took
abbrev pub Reached : List ℕ → List ℕ → Option ℕ → Option ℕ → Type 0
Reached s es low None = Unit {0}
Reached s es low (Some y) = In y es × (above s low y ≡ true)

-- a pass that has met the entries ws of es
pub record Standing (s es ws : List ℕ) (low : Option ℕ) (t : List ℕ) (p : Pass) : Type 0 where
  pub inside : (e : ℕ) → In e ws → In e es
  pub covered : Covered s es low p.stop
  pub holds : Holds s ws low p.high p.stop p.count t
  pub reached : Reached s es low p.high

-- a full table is cut
pub record Cuts (s t t' : List ℕ) (p p' : Pass) : Type 0 where
  pub kept : length t' ≡ length t
  pub less : p'.count < p.count
  pub is : (es ws : List ℕ) (low : Option ℕ) → Standing s es ws low t p → Standing s es ws low t' p'

-- one entry more
pub record Adds (s t t' : List ℕ) (low : Option ℕ) (x : ℕ) (p p' : Pass) : Type 0 where
  pub kept : length t' ≡ length t
  pub is : (es ws : List ℕ) → In x es → Standing s es ws low t p → Standing s es (ws ++ (x ∷ [])) low t' p'

-- all entries were met
pub record Finishes (s t t' : List ℕ) (p p' : Pass) : Type 0 where
  pub kept : length t' ≡ length t
  pub bound : p'.high ≡ p.high
  pub is : (es : List ℕ) (low : Option ℕ) → Standing s es es low t p → Settled s es p'.high p'.stop

-- the whole pass
pub record Passes (s es : List ℕ) (low : Option ℕ) (t t' : List ℕ) (p : Pass) : Type 0 where
  pub kept : length t' ≡ length t
  pub settled : Settled s es p.high p.stop
  pub reached : Reached s es low p.high

-- a table filled with the entries es, if it holds so many; else with the first of them
abbrev pub Fills : List ℕ → List ℕ → List ℕ → Option ℕ → Type 0
Fills es t t' (Some n) = (n ≡ length es) × (length t' ≡ length t) × (n ≤ length t) × (take n t' ≡ es) × (drop n t' ≡ drop n t)
Fills es t t' None = (length t < length es) × (length t' ≡ length t) × (t' ≡ take (length t) es)
