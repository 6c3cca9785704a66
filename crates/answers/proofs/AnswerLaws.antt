-- What was put into the text is the answer's, case by case.
use Rattle.std.specs.Prelude.{Result, Ok, Err, is_some}
use Prim.Native.Nat.{ℕ, ◌+◌, ◌*◌, ◌≤◌, min}
use native.Mathlib.Omega.{arith}
use mathlib.Core.Path.{◌≡◌, refl, sym, ap, ◌∙◌}
use mathlib.Core.Bool.{Bool, true, false, ◌||◌}
use mathlib.Core.List.{List, ◌++◌}
use lib.ListN.{length, take, drop, length-append}
use lib.Seq.{sets-eq, length-take-le, take_at, take_all, take-length}
use lib.Dec.{ltb}
use Rattle.std.specs.Prelude.{is_some}
use borrow.Author.Tests.{ltb-true, ltb-false}
use Rattle.frames.specs.declared.Refusal.{Refusal}
use Rattle.frames.specs.declared.Refusal.TheVariants.{BadFrame}
use Rattle.frames.specs.declared.Refused.{Refused}
use Rattle.format.specs.Encoding.{concat}
use Rattle.container.specs.Numbers.{cleared}
use Rattle.frames.specs.Writer.{refusal_number, Outcome, refuse, wrote, outcome, Afterwards, result_of, written, refusal_at}
use Rattle.frames.specs.Program.{hex_byte, decimal, word_refused, word_at, line_end, typed, printed}
use Rattle.hexadecimal.specs.declared.Typing.{Typing}
use Rattle.answers.specs.declared.Printed.{Printed}
use Rattle.printing.specs.Text.{Put, put, put_in}
use Rattle.answers.specs.Answer.{Answered, is_refused, told, answered_of, answered}
use Rattle.printing.proofs.TextLaws.{decimal_length, bytes_length, put_inside}

-- ---- what is put at the front of the text

told_by : (x : Outcome) (text t output work : List ℕ) (r : ℕ) → length (printed x) ≤ length text
    → record { next = r; text = t } ≡ put (printed x) text 0
    → record { answer = record { length = r; refused = is_refused x }; text = t; output = output; work = work } ≡ told x text output work
unfolding put
told_by x text t output work r h e =
    let i : r ≡ 0 + length (printed x) = ap (λ (p : Put). p.next) e in
    let j : t ≡ printed x ++ drop (0 + length (printed x)) text = ap (λ (p : Put). p.text) e ∙ sets-eq (printed x) text 0 (omega arith) in
    let k : 0 + length (printed x) ≡ length (printed x) = omega arith in
    rw (i, j, k)

refused_length : (n : Refusal) (p : ℕ) → length (printed (refuse n p)) ≤ 35
refused_length n p =
    let a = decimal 2 (refusal_number n) in
    let b = decimal 20 p in
    omega (
      arith,
      length-append (word_refused ++ a ++ word_at ++ b) line_end,
      length-append (word_refused ++ a ++ word_at) b,
      length-append (word_refused ++ a) word_at,
      length-append word_refused a,
      decimal_length 2 (refusal_number n),
      decimal_length 20 p,
    )

encoding_length : (e z : List ℕ) → length (printed (wrote e z)) ≡ 2 * length e + 1
encoding_length e z = omega (arith, length-append (concat hex_byte e) line_end, bytes_length e)

-- ---- what the writer answered

module _ (s o w text : List ℕ) (room : length o ≡ 65536) (numbers : length w ≡ 16384) (space : length text ≡ 131073)
    (x : Result ℕ Refused) (p q : List ℕ) (e : record { answer = x; output = p; work = q } ≡ written s o w) where
  by_outcome : record { answer = x; output = p; work = q } ≡ result_of (outcome 65536 16384 s) o w
  unfolding written
  by_outcome = e ∙ rw (room, numbers)

  answer_is : (y : Printed) (t : List ℕ) → record { answer = y; text = t; output = p; work = q } ≡ told (outcome 65536 16384 s) text p q
      → record { answer = y; text = t; output = p; work = q } ≡ answered_of (typed s) text o w
  answer_is y t h = h ∙ ap (λ (r : Afterwards). told (outcome 65536 16384 s) text r.output r.work) e

  module _ (n : ℕ) (i : x ≡ Ok n) where
    pub done_inside : n ≤ length p
    done_inside = at (outcome 65536 16384 s) by_outcome
      where
        at : (r : Outcome) → record { answer = x; output = p; work = q } ≡ result_of r o w → n ≤ length p
        at (refuse k m) h = absurd (let z : ◌≡◌ {A = ℕ} 0 1 = cc (ap (λ (a : Afterwards). a.answer) h, i) in omega arith)
        at (wrote f z) h =
            let y : n ≡ length f = cc (ap (λ (a : Afterwards). a.answer) h, i) in
            let v : p ≡ f ++ drop (length f) o = ap (λ (a : Afterwards). a.output) h in
            omega (arith, ap length v, length-append f (drop (length f) o))

    pub done_length : n ≡ length (take n p)
    done_length = sym (length-take-le n p done_inside)

    pub answer_done : length p ≡ length o → (r : ℕ) (t : List ℕ)
        → record { next = r; text = t } ≡ put_in (2 * length (take n p) + 1) (concat hex_byte (take n p) ++ line_end) text
        → record { answer = record { length = r; refused = false }; text = t; output = p; work = q } ≡ answered_of (typed s) text o w
    answer_done k r t f = answer_is (record { length = r; refused = false }) t (at (outcome 65536 16384 s) by_outcome)
      where
        was_put : record { next = r; text = t } ≡ put (concat hex_byte (take n p) ++ line_end) text 0
        was_put = put_inside (2 * length (take n p) + 1) _ text (omega (arith, done_length, done_inside)) _ f

        at : (b : Outcome) → record { answer = x; output = p; work = q } ≡ result_of b o w
            → record { answer = record { length = r; refused = false }; text = t; output = p; work = q } ≡ told b text p q
        at (refuse c m) h = absurd (let z : ◌≡◌ {A = ℕ} 0 1 = cc (ap (λ (a : Afterwards). a.answer) h, i) in omega arith)
        at (wrote g z) h =
            let y : n ≡ length g = cc (ap (λ (a : Afterwards). a.answer) h, i) in
            let v : p ≡ g ++ drop (length g) o = ap (λ (a : Afterwards). a.output) h in
            let u : take n p ≡ g = ap (take n) v ∙ take_at g (drop (length g) o) n (sym y) in
            told_by (wrote g z) text t p q r (omega (arith, encoding_length g z, done_inside)) (was_put ∙ ap (λ a. put (concat hex_byte a ++ line_end) text 0) u)

  pub answer_refused : (f : Refused) → x ≡ Err f → (v : ℕ) → v ≡ refusal_number f.refusal → (r : ℕ) (t : List ℕ)
      → record { next = r; text = t } ≡ put_in 35 (word_refused ++ decimal 2 v ++ word_at ++ decimal 20 f.place ++ line_end) text
      → record { answer = record { length = r; refused = true }; text = t; output = p; work = q } ≡ answered_of (typed s) text o w
  answer_refused f i v j r t g = answer_is (record { length = r; refused = true }) t (at (outcome 65536 16384 s) by_outcome)
    where
      at : (b : Outcome) → record { answer = x; output = p; work = q } ≡ result_of b o w
          → record { answer = record { length = r; refused = true }; text = t; output = p; work = q } ≡ told b text p q
      at (refuse c y) h =
          let same : refusal_at c y ≡ f = cc (ap (λ (a : Afterwards). a.answer) h, i) in
          let a : c ≡ f.refusal = ap (λ b. b.refusal) same in
          let b : y ≡ f.place = ap (λ b. b.place) same in
          told_by (refuse c y) text t p q r (omega (arith, refused_length c y)) (put_inside 35 _ text (omega arith) _ g ∙ rw (j, a, b))
      at (wrote e z) h = absurd (let z : ◌≡◌ {A = ℕ} 0 1 = cc (ap (λ (a : Afterwards). a.answer) h, i) in omega arith)

-- ---- what was typed

module _ (t : Typing) (l text o w : List ℕ) where
  pub answer_mistyped : length text ≡ 131073 → (is_some t.digit || t.wrong) ≡ true → (r : ℕ) (k z : List ℕ) → z ≡ cleared w
      → record { next = r; text = k } ≡ put_in 35 (word_refused ++ decimal 2 2 ++ word_at ++ decimal 20 t.formed ++ line_end) text
      → record { answer = record { length = r; refused = true }; text = k; output = o; work = z } ≡ answered t l text o w
  unfolding answered cleared
  answer_mistyped space h r k z e f = rw (h, e)
      (told_by (refuse BadFrame t.formed) text k o (cleared w) r (omega (arith, refused_length BadFrame t.formed))
      (put_inside 35 _ text (omega arith) _ f))

  take_min : (n : ℕ) → take (min n (length l)) l ≡ take n l
  take_min n = at (ltb n (length l)) refl
    where
      at : (b : Bool) → ltb n (length l) ≡ b → take (min n (length l)) l ≡ take n l
      at true h = let m : min n (length l) ≡ n = omega (arith, ltb-true n (length l) h) in rw m
      at false h = let m : min n (length l) ≡ length l = omega (arith, ltb-false n (length l) h) in
          rw (m, take-length l, take_all n l (ltb-false n (length l) h))

  pub held_length : (n : ℕ) → n ≡ min t.formed (length l) → n ≡ length (take n l)
  held_length n e = sym (length-take-le n l (omega arith))

  pub answer_typed : (is_some t.digit || t.wrong) ≡ false → (n : ℕ) → n ≡ min t.formed (length l) → (a : Answered)
      → a ≡ answered_of (typed (take n l)) text o w → a ≡ answered t l text o w
  unfolding answered
  answer_typed h n e a f = f ∙ rw (h, e, take_min t.formed)
