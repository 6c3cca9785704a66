-- The small functions, by cases.
use Prim.Native.Nat.{ℕ, ◌+◌, ◌≤◌}
use mathlib.Core.Path.{◌≡◌, refl, sym, ◌∙◌}
use mathlib.Core.Bool.{Bool, true, false, cond}
use mathlib.Core.List.{List}
use lib.ListN.{length, set}
use lib.Dec.{eqb}
use borrow.Author.Tests.{eqb-false}
use Rattle.number.proofs.Clash.{clash}
use Rattle.number.specs.VarUInt.{encoded}
use Rattle.number.proofs.VarUIntLaws.{encoded_length}
use Rattle.format.specs.declared.Kind.{Kind}
use Rattle.format.specs.declared.Kind.TheVariants.{Object, Array}
use Rattle.format.specs.Kinds.{id}
use Rattle.frames.specs.Container.{container_id, size_by, packed}
use Rattle.frames.proofs.Used.{kind_object, kind_array}
use Rattle.run.specs.Run.{uniform}
use Rattle.measure.specs.Passes.{is_leaf, ClosedBy}
use Rattle.settle.specs.Made.{measured}

-- a width
pub width_some : (n w : ℕ) → w ≡ length (encoded n) → 1 ≤ w
width_some n w e = rw e (encoded_length n).0

pub width_most : (n w : ℕ) → w ≡ length (encoded n) → w ≤ 9
width_most n w e = rw e (encoded_length n).1

pub ruleset width_laws = (width_some, width_most)

-- it has no contents
pub record Plain (k : Kind) : Type 0 where
  pub object : id k ≡ 2 → ⊥
  pub array : id k ≡ 4 → ⊥

pub plain_by : (k : Kind) → (k ≡ Object → ⊥) → (k ≡ Array → ⊥) → Plain k
plain_by k a b = record { object = λ z. a (kind_object k z); array = λ z. b (kind_array k z) }

pub plain_told : (k : Kind) (b : Bool) → b ≡ is_leaf k → b ≡ true → Plain k
plain_told k b e i = go (eqb (id k) 2) refl (eqb (id k) 4) refl (sym i ∙ e)
  where
    go : (x : Bool) → eqb (id k) 2 ≡ x → (y : Bool) → eqb (id k) 4 ≡ y → true ≡ cond x false (cond y false true) → Plain k
    go true p y q h = clash cc
    go false p true q h = clash cc
    go false p false q h = record { object = eqb-false (id k) 2 p; array = eqb-false (id k) 4 q }

-- a container that is closed
pub closed_by : (named : Bool) (c n sum at before k j : ℕ) (w w' : List ℕ) (size v i z : ℕ) (u : Bool) → size ≡ size_by named c n sum
    → v ≡ packed named c n size → w' ≡ set w k v → u ≡ uniform named c → i ≡ container_id named u → z ≡ length (encoded size)
    → ClosedBy named c n sum at before k j w w' (measured (at + 1) i (before + (z + size)) j)
closed_by named c n sum at before k j w w' size v i z u es ev ew eu ei ez =
    record { answer = rw (ei, eu, ez, es); work = rw (← es, ← ev) ew }
