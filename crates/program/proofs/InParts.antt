-- Input that is read in parts: what the program answers to it is what `program` prints of all of it.
use Rattle.std.specs.Prelude.{Option, Some}
use Prim.Native.Nat.{ℕ, ◌+◌, ◌-◌, ◌^◌, ◌≤◌, ◌<◌}
use native.Mathlib.Omega.{arith}
use mathlib.Core.Path.{◌≡◌, refl, sym, ap, subst, ◌∙◌}
use mathlib.Core.Bool.{cond}
use mathlib.Core.Logic.{◌⊎◌, inl, inr}
use mathlib.Core.List.{List, [], ◌∷◌, ◌++◌}
use lib.ListN.{length, take, drop, length-append, length-take}
use Rattle.frames.specs.Writer.{Outcome, refuse, wrote}
use Rattle.frames.specs.Program.{Typed, typed, mistyped, program_of, bytes_typed, program}
use Rattle.hexadecimal.specs.declared.Typing.{Typing}
use Rattle.hexadecimal.specs.Typing.{Fed, afterwards, start, onward, fed}
use Rattle.hexadecimal.proofs.Parts.{parts}
use Rattle.answers.specs.Answer.{is_refused, Answered, answered_of, answered}
use Rattle.program.specs.Input.{fed_parts, joined, Reached, Heard, status_of, Ran}
use Rattle.answers.proofs.WholeInput.{text_of, length_of, in_whole}

-- parts one after the other are the whole
fed_joined : (ss : List (List ℕ)) (t : Typing) (l : List ℕ) → fed_parts ss t l ≡ fed (joined ss) t l
fed_joined [] t l = refl
fed_joined (s ∷ ss) t l = fed_joined ss (fed s t l).typing (fed s t l).list ∙ sym (parts s (joined ss) t l)

-- ---- the theorem

module _ (ss : List (List ℕ)) (l text o w : List ℕ) (h : length (joined ss) < 2 ^ 64) (room : length l ≡ 65537) where
  pub in_parts : answered (fed_parts ss start l).typing (fed_parts ss start l).list text o w ≡ answered_of (bytes_typed (joined ss)) text o w
  in_parts = ap (λ (f : Fed). answered f.typing f.list text o w) (fed_joined ss start l) ∙ in_whole (joined ss) l h room text o w

  -- what it puts is exactly what the program prints of the whole input, and nothing behind it is touched
  pub what_is_printed : (answered (fed_parts ss start l).typing (fed_parts ss start l).list text o w).text
      ≡ program (joined ss) ++ drop (length (program (joined ss))) text
  unfolding program
  what_is_printed = ap (λ (a : Answered). a.text) in_parts ∙ text_of (bytes_typed (joined ss)) text o w

  pub how_much_is_printed : (answered (fed_parts ss start l).typing (fed_parts ss start l).list text o w).answer.length ≡ length (program (joined ss))
  unfolding program
  how_much_is_printed = ap (λ (a : Answered). a.answer.length) in_parts ∙ length_of (bytes_typed (joined ss)) text o w

-- ---- reading

pub reached_start : (l : List ℕ) (t : Typing) → t ≡ start → (r : Reached l t l) × (length (joined r.parts) ≡ 0)
reached_start l t e = (record { parts = []; few = omega arith; is = ap (λ x. afterwards x l) e }, refl)

fed_last : (ss : List (List ℕ)) (s : List ℕ) (t : Typing) (l : List ℕ) → fed_parts (ss ++ (s ∷ [])) t l ≡ onward (fed s) (fed_parts ss t l)
fed_last [] s t l = refl
fed_last (x ∷ ss) s t l = fed_last ss s (fed x t l).typing (fed x t l).list

length_last : (ss : List (List ℕ)) (s : List ℕ) → length (joined (ss ++ (s ∷ []))) ≡ length (joined ss) + length s
length_last [] s = omega (arith, length-append s [])
length_last (x ∷ ss) s = omega (arith, length-append x (joined (ss ++ (s ∷ []))), length-append x (joined ss), length_last ss s)

-- one part more, while all can be counted
reached_on : (before : List ℕ) (t : Typing) (l : List ℕ) (c : Reached before t l) (s : List ℕ) (r : Typing) (k : List ℕ)
    → length (joined c.parts) + length s < 2 ^ 64
    → afterwards r k ≡ fed s t l → (d : Reached before r k) × (length (joined d.parts) ≡ length (joined c.parts) + length s)
reached_on before t l c s r k h e =
    let n = length_last c.parts s in
    (record { parts = c.parts ++ (s ∷ []); few = omega arith; is = e ∙ ap (onward (fed s)) c.is ∙ sym (fed_last c.parts s start before) }, n)

-- of at most as many bytes as are left
pub reached_more : (before : List ℕ) (t : Typing) (l : List ℕ) (c : Reached before t l) (n left : ℕ) (chunk : List ℕ) (r : Typing) (k : List ℕ)
    → length (joined c.parts) + left < 2 ^ 64 → n ≤ left → afterwards r k ≡ fed (take n chunk) t l
    → (d : Reached before r k) × (length (joined d.parts) + (left - n) < 2 ^ 64)
reached_more before t l c n left chunk r k h m e =
    let few : length (take n chunk) ≤ n = omega (arith, length-take n chunk) in
    let d = reached_on before t l c (take n chunk) r k (omega arith) e in
    (d.0, omega (arith, d.1))

pub heard : (r : Option Typing) (before list : List ℕ) → Heard r before list → (t : Typing) → r ≡ Some t → Reached before t list
heard r before list h t e = subst (λ x. Heard x before list) e h

-- ---- the run

status_of_law : (x : Typed) (text o w : List ℕ) → cond (answered_of x text o w).answer.refused 1 0 ≡ status_of (program_of x)
status_of_law x text o w = at x (program_of x) refl
  where
    by : (y : Outcome) → cond (is_refused y) 1 0 ≡ status_of y
    by (refuse n p) = refl
    by (wrote e z) = refl

    at : (x : Typed) (y : Outcome) → program_of x ≡ y → cond (answered_of x text o w).answer.refused 1 0 ≡ status_of (program_of x)
    at (typed s) y e = by (program_of (typed s))
    at (mistyped n) y e = refl

status_small : (x : Outcome) → status_of x ≤ 1
status_small (refuse n p) = omega arith
status_small (wrote e z) = omega arith

pub ran_small : (status : ℕ) (text : List ℕ) → Ran status text ⊎ (status ≡ 2) → status ≤ 2
ran_small status text (inl r) = omega (arith, r.status_is, status_small (program_of (bytes_typed (joined r.parts))))
ran_small status text (inr e) = omega arith

pub ran_is : (before : List ℕ) (t : Typing) (l : List ℕ) → Reached before t l → length before ≡ 65537 → (text o w : List ℕ) (a : Answered)
    → a ≡ answered t l text o w
    → (status : ℕ) → (status ≡ cond a.answer.refused 1 0) ⊎ (status ≡ 2) → Ran status a.text ⊎ (status ≡ 2)
ran_is before t l c room text o w a f status (inr e) = inr e
ran_is before t l c room text o w a f status (inl e) =
    inl
    (record {
      parts = c.parts;
      rest = drop (length (program (joined c.parts))) text;
      text_is = ap (λ (b : Answered). b.text) from ∙ what_is_printed c.parts before text o w c.few room;
      status_is = e ∙ ap (λ (b : Answered). cond b.answer.refused 1 0) (from ∙ in_parts c.parts before text o w c.few room)
          ∙ status_of_law (bytes_typed (joined c.parts)) text o w;
    })
  where
    from : a ≡ answered (fed_parts c.parts start before).typing (fed_parts c.parts start before).list text o w
    from = f ∙ ap (λ (x : Fed). answered x.typing x.list text o w) c.is
