-- What the call on write lists leaves, case by case.
use Rattle.std.specs.Prelude.{Result, Err}
use Prim.Native.Nat.{ℕ, ◌<◌, ◌≤◌}
use mathlib.Core.Path.{◌≡◌, sym, ap, ◌∙◌}
use mathlib.Core.List.{List, [], ◌∷◌}
use lib.ListN.{length}
use lib.Seq.{sets}
use borrow.Author.Tests.{lt-ltb, le-ltb}
use Rattle.frames.specs.declared.Refused.{Refused}
use Rattle.frames.specs.Writer.{refusal_number, written}
use Rattle.container.specs.Numbers.{cleared}
use Rattle.replies.specs.Number.{too_few}
use Rattle.sending.specs.Sent.{code_of, number_of, sent_of, sent}

module _ (s o w l : List ℕ) where
  pub sent_none : length l < 1 → (z : List ℕ) → z ≡ cleared w → record { code = too_few; held = l; output = o; work = z } ≡ sent s o w l
  unfolding sent cleared
  sent_none h z e = rw (lt-ltb (length l) 1 h, e)

  -- what the writer answered
  pub sent_is : 1 ≤ length l → (x : Result ℕ Refused) (p q : List ℕ) → record { answer = x; output = p; work = q } ≡ written s o w → (y : Result ℕ Refused) → x ≡ y
      → record { code = code_of y; held = sets l 0 (number_of y ∷ []); output = p; work = q } ≡ sent s o w l
  unfolding sent
  sent_is h x p q e y i = rw (le-ltb (length l) 1 h)
      (ap (λ z. record { code = code_of z; held = sets l 0 (number_of z ∷ []); output = p; work = q }) (sym i) ∙ ap (λ r. sent_of r l) e)

  pub sent_refused : 1 ≤ length l → (x : Result ℕ Refused) (p q : List ℕ) → record { answer = x; output = p; work = q } ≡ written s o w → (f : Refused)
      → x ≡ Err f → (v : ℕ) → v ≡ refusal_number f.refusal
      → record { code = v; held = sets l 0 (f.place ∷ []); output = p; work = q } ≡ sent s o w l
  sent_refused h x p q e f i v j = ap (λ c. record { code = c; held = sets l 0 (f.place ∷ []); output = p; work = q }) j ∙ sent_is h x p q e (Err f) i
