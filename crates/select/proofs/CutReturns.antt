-- What a cut of a full table answers, what a pass answers at its end, and one entry more: at each return.
use Prim.Native.Nat.{ℕ, suc, ◌+◌, ◌-◌, ◌/◌, ◌≤◌, ◌<◌}
use native.Mathlib.Omega.{arith}
use mathlib.Core.Path.{◌≡◌, refl, sym, ◌∙◌}
use mathlib.Core.Bool.{Bool, true, false}
use mathlib.Core.List.{List}
use lib.ListN.{length, get_or, set}
use Rattle.std.proofs.Common.{Option, None, Some}
use Rattle.order.specs.declared.Arranged.{Arranged}
use Rattle.entries.specs.Least.{lesser}
use Rattle.order.specs.Arranged.{afterwards, arranged}
use Rattle.select.specs.declared.Pass.{Pass}
use Rattle.select.specs.Range.{wanted}
use Rattle.select.specs.Passes.{Standing, Cuts, Adds, Finishes}
use Rattle.select.proofs.CutLaws.{never_full, arranged_kept, cut_whole, cut_half}
use Rattle.select.proofs.PassLaws.{put_in, put_out, pass_end}

module _ (s t : List ℕ) (p : Pass) (few : p.count ≤ length t / 2) (a : Option Arranged) (t' : List ℕ) (e : afterwards a t' ≡ arranged s t p.count) where
  pub cut_never : a ≡ None → (q : Pass) → Cuts s t t' p q
  cut_never h q = never_full s t p.count few a t' e h

  pub end_never : a ≡ None → (q : Pass) → Finishes s t t' p q
  end_never h q = never_full s t p.count few a t' e h

  module _ (g : Arranged) (h : a ≡ Some g) (stop : ℕ) (stop_is : stop ≡ lesser p.stop g.least) where
    pub cut_all : (half : ℕ) → half ≡ p.count / 2 → 2 ≤ p.count → g.count ≤ half → Cuts s t t' p (record { high = p.high; count = g.count; stop = stop })
    cut_all half i two j =
        record {
          kept = arranged_kept s t p.count few a t' e;
          less = omega arith;
          is = λ es ws low st. cut_whole s t p.count few a t' e g.count g.least h p refl stop stop_is es ws low st;
        }

    pub cut_lower : (half : ℕ) → half ≡ p.count / 2 → 2 ≤ p.count → half < g.count → Cuts s t t' p (record
        { high = Some (get_or t' (half - 1) 0); count = half; stop = stop })
    cut_lower half i two j =
        record {
          kept = arranged_kept s t p.count few a t' e;
          less = omega arith;
          is = λ es ws low st. at es ws low (half - 1) (let z : half ≡ suc (half - 1) = omega arith in z)
              (cut_half s t p.count few a t' e g.count g.least h p refl stop stop_is es ws low st (half - 1) (omega arith));
        }
      where
        at : (es ws : List ℕ) (low : Option ℕ) (j : ℕ) → half ≡ suc j → Standing s es ws low t' (record { high = Some (get_or t' j 0); count = suc j; stop = stop })
            → Standing s es ws low t' (record { high = Some (get_or t' j 0); count = half; stop = stop })
        at es ws low j d st = rw d st

    pub ended : Finishes s t t' p (record { high = p.high; count = 0; stop = stop })
    ended =
        record {
          kept = arranged_kept s t p.count few a t' e;
          bound = refl;
          is = λ es low st. pass_end s es t low p st a t' e g.count g.least h stop stop_is;
        }

module _ (s t : List ℕ) (low : Option ℕ) (x : ℕ) (p : Pass) (b : Bool) (e : b ≡ wanted s low p.high p.stop x) where
  pub put_none : b ≡ false → Adds s t t low x p p
  put_none h = put_out s t low x p (sym e ∙ h)

  pub put_one : b ≡ true → p.count < length t / 2 → Adds s t (set t p.count x) low x p (record { high = p.high; count = p.count + 1; stop = p.stop })
  put_one h l = put_in s t low x p (sym e ∙ h) l
