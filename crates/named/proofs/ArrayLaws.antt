-- The items of an array, as the loop reads them. They have no names, and the table is only lent down.
use Rattle.std.specs.Prelude.{Err, Ok, Result}
use Prim.Native.Nat.{ℕ, ◌+◌, ◌-◌, ◌≤◌, ◌<◌}
use native.Mathlib.Omega.{arith}
use mathlib.Core.Path.{◌≡◌, refl, ap, ◌∙◌}
use mathlib.Core.List.{List}
use lib.ListN.{length}
use Rattle.format.specs.declared.Kind.{Kind}
use Rattle.format.specs.declared.Form.{Form}
use Rattle.format.specs.declared.Stop.{Stop}
use Rattle.format.specs.declared.Stop.TheVariants.{Early}
use Rattle.faults.specs.declared.Modes.{Modes}
use Rattle.faults.specs.declared.Faults.{Faults}
use Rattle.format.specs.Kinds.{id}
use Rattle.format.specs.Payload.{items_in}
use Rattle.front.specs.Between.{between}
use Rattle.run.specs.Run.{join}
use Rattle.contents.specs.Contents.{array_end}
use Rattle.checks.specs.Checks.{contents_at}
use Rattle.checks.proofs.LoopLaws.{Items, items_start, items_fault, items_step, items_left, items_end}
use Rattle.named.specs.Named.{named_at, field_in, Kept}
use Rattle.named.proofs.NamedCases.{named_field}
use Rattle.named.specs.declared.Named.{Named}
use Rattle.named.specs.Made.{named_read}

pub record Array (f : Form) (c : ℕ) (m : Modes) (d : ℕ) (g : Faults) (s t₀ t : List ℕ) (at room : ℕ) (h : Faults) (u : ℕ) : Type 0 where
  pub items : Items f c m d g s at room h u
  pub kept : length t ≡ length t₀

module _ (f : Form) (n : ℕ) (m : Modes) (d : ℕ) (g : Faults) (s t₀ : List ℕ) where
  pub array_start : Array f n m d g s t₀ t₀ 0 n g 0
  array_start = record { items = items_start f n m d g s; kept = refl }

  module _ (t : List ℕ) (at room : ℕ) (h : Faults) (u : ℕ) (l : Array f n m d g s t₀ t at room h u) where
    pub array_kept : Kept t₀ t
    array_kept = record { is = l.kept }

    pub array_back : (t₁ : List ℕ) → Kept t t₁ → Kept t₀ t₁
    array_back t₁ w = record { is = w.is ∙ l.kept }

    pub array_at : at ≤ length s
    array_at = l.items.inside

    module _ (i : 0 < room) (x : Result Named Stop) (e : x ≡ named_at f m d h (between at (length s) s)) where
      pub array_fault : (k : Stop) → x ≡ Err k → Err k ≡ contents_at (items_in f n s) m d g
      array_fault k q = items_fault f n m d g s at room h u l.items i (field_in x) (named_field f m h (between at (length s) s) d x e) k (ap field_in q)

      module _ (p : Named) (q : x ≡ Ok p) where
        stepped : Items f n m d g s (at + p.end) (room - 1) p.faults (join u (id p.kind))
        stepped =
            items_step f n m d g s at room h u l.items i (field_in x) (named_field f m h (between at (length s) s) d x e)
            (record { kind = p.kind; end = p.end; faults = p.faults }) (ap field_in q)

        pub array_inside : at + p.end ≤ length s
        array_inside = stepped.inside

        pub array_step : (t₁ : List ℕ) → Kept t t₁ → (u' : ℕ) → u' ≡ join u (id p.kind) → Array f n m d g s t₀ t₁ (at + p.end) (room - 1) p.faults u'
        array_step t₁ w u' r = rw r (record { items = stepped; kept = w.is ∙ l.kept })

    pub array_left : room ≤ 0 → at < length s → Err Early ≡ contents_at (items_in f n s) m d g
    array_left i j = items_left f n m d g s at room h u l.items (omega arith) j

    pub array_end_law : room ≤ 0 → length s ≤ at → (v : Faults) → v ≡ array_end f m h u → Ok v ≡ contents_at (items_in f n s) m d g
    array_end_law i j v e = items_end f n m d g s at room h u l.items (omega arith) j v e
