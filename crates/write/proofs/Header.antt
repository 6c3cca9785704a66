-- The second pass, a container's header.
use Prim.Native.Nat.{ℕ, ◌+◌, ◌≤◌, ◌<◌}
use native.Mathlib.Omega.{arith}
use native.Mathlib.Nat.{add-zero}
use mathlib.Core.Path.{◌≡◌, sym, ◌∙◌}
use mathlib.Core.Bool.{Bool, true, false}
use mathlib.Core.List.{List}
use lib.ListN.{length, set, length-set}
use lib.Seq.{sets, length-sets}
use Rattle.number.specs.VarUInt.{encoded}
use Rattle.format.specs.Kinds.{flags}
use Rattle.frames.specs.Container.{shared_mark, shared_part, size_in, width_in, shared_in, uniform_in}
use Rattle.write.specs.declared.Opened.{Opened}
use Rattle.write.specs.Passes.{HasOpened, CanOpen}

abbrev opened : ℕ → ℕ → Bool → Opened
opened q e f = record { count = q; to = e; typed = f }

module _ (named : Bool) (to k : ℕ) (out w : List ℕ) (x : ℕ) (r : CanOpen named to k out w x) where
  pub open_mine : k < length w
  open_mine = r.mine

  pub open_number : (n z : ℕ) → n ≡ size_in x → z ≡ n → to + length (encoded z) ≤ length out
  open_number n z e i = rw (i, e) (omega (arith, r.room))

  module _ (n z q m v : ℕ) (out₁ : List ℕ) (en : n ≡ size_in x) (ez : z ≡ n) (eq : q ≡ to + length (encoded z)) (em : m ≡ width_in x) (ev : v ≡ m)
      (eo : out₁ ≡ sets out to (encoded z)) where
    kept : length out₁ ≡ length out
    kept = rw (eo, length-sets)

    count_is : q ≡ to + length (encoded (size_in x))
    count_is = rw (ez, en) at eq

    out_is : out₁ ≡ sets out to (encoded (size_in x))
    out_is = rw (ez, en) at eo

    width_is : v ≡ width_in x
    width_is = ev ∙ em

    pub open_e : q + v ≤ length out₁
    open_e = rw (kept, width_is) (omega (arith, r.room, count_is))

    module _ (u : Bool) (eu : u ≡ uniform_in x) where
      pub open_typed : u ≡ false → (s : ℕ) → s ≡ size_in x → (w' : List ℕ) → w' ≡ set w k s → HasOpened named to k out out₁ w w' x (opened q (q + v) true)
      unfolding shared_part
      open_typed h s es w' e = let off : uniform_in x ≡ false = sym eu ∙ h in
          record { is_count = count_is; is_to = rw (off, width_is, add-zero); is_typed_law = rw off; is_out = rw off out_is; is_work = rw es at e }

      module _ (h : u ≡ true) where
        on : uniform_in x ≡ true
        on = sym eu ∙ h

        pub open_at : q + v < length out₁
        unfolding shared_part
        open_at = let z : to + length (encoded (size_in x)) + width_in x + 1 ≤ length out = rw on at r.room in rw (kept, width_is) (omega (arith, count_is))

        pub open_kept : (i : ℕ) → length (set out₁ (q + v) i) ≡ length out
        open_kept i = length-set out₁ (q + v) i ∙ kept

        pub open_shared : (f c : ℕ) → f ≡ flags (shared_mark named) → c ≡ shared_in x → (s : ℕ) → s ≡ size_in x → (w' : List ℕ) → w' ≡ set w k s
            → HasOpened named to k out (set out₁ (q + v) (f + c)) w w' x (opened q (q + v + 1) false)
        unfolding shared_part
        open_shared f c ef ec s es w' e = record {
          is_count = count_is;
          is_to = rw (on, width_is);
          is_typed_law = rw on;
          is_out = rw
              (out_is, on, width_is, ef, ec);
          is_work = rw es at e;
        }
