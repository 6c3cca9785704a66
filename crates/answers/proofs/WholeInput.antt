-- What the program answers to what it typed of a whole input is what `program` prints of it.
use Prim.Native.Nat.{ℕ, ◌^◌, ◌≤◌, ◌<◌}
use native.Mathlib.Omega.{arith}
use mathlib.Core.Path.{◌≡◌, refl, sym, ap, ◌∙◌}
use mathlib.Core.Bool.{Bool, true, false}
use mathlib.Core.List.{List, ◌++◌}
use lib.ListN.{length, take, drop, length-append}
use lib.Dec.{ltb}
use lib.Seq.{take_at, take_all}
use borrow.Author.Tests.{lt-ltb, ltb-true, ltb-false}
use Rattle.frames.specs.declared.Refusal.TheVariants.{ListTooLong}
use Rattle.frames.specs.Writer.{refuse, outcome, result_of, written}
use Rattle.frames.specs.Program.{Typed, typed, mistyped, printed, program_of, bytes_typed, program}
use Rattle.hexadecimal.specs.declared.Typing.{Typing}
use Rattle.hexadecimal.specs.Typing.{Fed, afterwards, start, fed}
use Rattle.hexadecimal.proofs.Parts.{whole_typed, whole_mistyped}
use Rattle.hexadecimal.proofs.TypingLaws.{fed_length}
use Rattle.answers.specs.Answer.{typed_of, Answered, answered_of, answered}

-- ---- a list that is too long, whatever its bytes

too_long : (room numbers : ℕ) (a : List ℕ) → 65536 < length a → outcome room numbers a ≡ refuse ListTooLong 0
unfolding outcome
too_long room numbers a h = rw (lt-ltb 65536 (length a) h)

long_written : (a o w : List ℕ) → 65536 < length a → written a o w ≡ result_of (refuse ListTooLong 0) o w
unfolding written
long_written a o w h = ap (λ x. result_of x o w) (too_long (length o) (length w) a h)

both_long : (a b text o w : List ℕ) → 65536 < length a → 65536 < length b → answered_of (typed a) text o w ≡ answered_of (typed b) text o w
both_long a b text o w h i = rw (too_long 65536 16384 a h, too_long 65536 16384 b i, long_written a o w h, long_written b o w i)

-- ---- what is printed of what was typed

pub text_of : (x : Typed) (text o w : List ℕ) → (answered_of x text o w).text ≡ printed (program_of x) ++ drop (length (printed (program_of x))) text
text_of (typed s) text o w = refl
text_of (mistyped n) text o w = refl

pub length_of : (x : Typed) (text o w : List ℕ) → (answered_of x text o w).answer.length ≡ length (printed (program_of x))
length_of (typed s) text o w = refl
length_of (mistyped n) text o w = refl

-- the answer's length is within the text
pub answer_inside : (t : Typing) (l text o w : List ℕ) (a : Answered) → a ≡ answered t l text o w → a.answer.length ≤ length a.text
unfolding answered
answer_inside t l text o w a f =
    let x = typed_of t l in
    let n : a.answer.length ≡ length (printed (program_of x)) = ap (λ (b : Answered). b.answer.length) f ∙ length_of x text o w in
    let m : a.text ≡ printed (program_of x) ++ drop (length (printed (program_of x))) text = ap (λ (b : Answered). b.text) f ∙ text_of x text o w in
    omega (arith, ap length m, length-append (printed (program_of x)) (drop (length (printed (program_of x))) text))

-- ---- the whole

module _ (s l : List ℕ) (h : length s < 2 ^ 64) (room : length l ≡ 65537) where
  front : (bs : List ℕ) → bytes_typed s ≡ typed bs
      → typed_of (fed s start l).typing (fed s start l).list ≡ typed (take (length bs) (fed s start l).list)
  front bs e = ap (λ t. typed_of t (fed s start l).list) (whole_typed s l bs h e).0

  -- its bytes, where there is room for them; and too many in either case
  all_typed : (bs text o w : List ℕ) → bytes_typed s ≡ typed bs
      → answered_of (typed_of (fed s start l).typing (fed s start l).list) text o w ≡ answered_of (typed bs) text o w
  all_typed bs text o w e = ap (λ x. answered_of x text o w) (front bs e) ∙ at (ltb 65536 (length bs)) refl
    where
      at : (b : Bool) → ltb 65536 (length bs) ≡ b
          → answered_of (typed (take (length bs) (fed s start l).list)) text o w ≡ answered_of (typed bs) text o w
      at false i =
          let z : (fed s start l).list ≡ bs ++ drop (length bs) l = (whole_typed s l bs h e).1 (omega (arith, ltb-false 65536 (length bs) i)) in
          ap (λ k. answered_of (typed k) text o w) (ap (take (length bs)) z ∙ take_at bs (drop (length bs) l) (length bs) refl)
      at true i =
          let n : 65536 < length bs = ltb-true 65536 (length bs) i in
          let m : length (fed s start l).list ≡ 65537 = fed_length s start l ∙ room in
          let z : take (length bs) (fed s start l).list ≡ (fed s start l).list = take_all (length bs) (fed s start l).list (omega arith) in
          ap (λ k. answered_of (typed k) text o w) z ∙ both_long (fed s start l).list bs text o w (omega arith) n

  all_mistyped : (p : ℕ) → bytes_typed s ≡ mistyped p → typed_of (fed s start l).typing (fed s start l).list ≡ mistyped p
  all_mistyped p e = let z = whole_mistyped s l p h e in rw z.1 (ap mistyped z.0)

  pub in_whole : (text o w : List ℕ) → answered (fed s start l).typing (fed s start l).list text o w ≡ answered_of (bytes_typed s) text o w
  unfolding answered
  in_whole text o w = at (bytes_typed s) refl
    where
      at : (x : Typed) → bytes_typed s ≡ x
          → answered_of (typed_of (fed s start l).typing (fed s start l).list) text o w ≡ answered_of (bytes_typed s) text o w
      at (typed bs) e = all_typed bs text o w e ∙ ap (λ x. answered_of x text o w) (sym e)
      at (mistyped p) e = ap (λ x. answered_of x text o w) (all_mistyped p e ∙ sym e)

-- what a call on the whole leaves
module _ (s l k : List ℕ) (t₀ t : Typing) (i : t₀ ≡ start) (e : afterwards t k ≡ fed s t₀ l) where
  from_start : afterwards t k ≡ fed s start l
  from_start = e ∙ ap (λ x. fed s x l) i

  pub whole_list : k ≡ (fed s start l).list
  whole_list = ap (λ (x : Fed). x.list) from_start

  pub whole_is : length s < 2 ^ 64 → length l ≡ 65537 → (text o w : List ℕ) (a : Answered) → a ≡ answered t k text o w
      → a ≡ answered_of (bytes_typed s) text o w
  whole_is h room text o w a f = f ∙ ap (λ (x : Fed). answered x.typing x.list text o w) from_start ∙ in_whole s l h room text o w

  pub whole_text : length s < 2 ^ 64 → length l ≡ 65537 → (text o w : List ℕ) (a : Answered) → a ≡ answered t k text o w
      → a.text ≡ program s ++ drop a.answer.length text
  unfolding program
  whole_text h room text o w a f =
      let z = whole_is h room text o w a f in
      let n : a.answer.length ≡ length (printed (program_of (bytes_typed s))) = ap (λ (b : Answered). b.answer.length) z
      ∙ length_of (bytes_typed s) text o w in
      rw n (ap (λ (b : Answered). b.text) z ∙ text_of (bytes_typed s) text o w)
