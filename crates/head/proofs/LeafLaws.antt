-- A leaf up to its end: the pieces of its code are the definition.
use Rattle.std.specs.Prelude.{Ok, Result, Err}
use Prim.Native.Nat.{ℕ, ◌-◌, ◌^◌, ◌≤◌}
use native.Mathlib.Omega.{arith}
use mathlib.Core.Path.{◌≡◌, refl, ◌∙◌}
use mathlib.Core.Bool.{Bool, true, false, not, cond}
use mathlib.Core.List.{List, []}
use lib.ListN.{length, take, drop, length-drop}
use lib.Dec.{ltb}
use lib.IntN.{negsuc}
use borrow.Author.Tests.{ltb-false, le-ltb}
use Rattle.number.specs.BigEndian.{from_bytes}
use Rattle.number.specs.VarUInt.{var_uint}
use Rattle.float.specs.Rule.{holds}
use Rattle.format.specs.declared.Stop.{Stop}
use Rattle.format.specs.declared.Stop.TheVariants.{Early}
use Rattle.faults.specs.declared.Modes.{Modes}
use Rattle.faults.specs.declared.Faults.{Faults}
use Rattle.format.specs.declared.Inner.{Inner}
use Rattle.format.specs.declared.Inner.TheVariants as I
use Rattle.format.specs.declared.Flaw.TheVariants.{Long, Low, Wide}
use Rattle.format.specs.Parse.{Out, fault, got, raise, make, whole, read_var_uint, fixed, sized, rest}
use Rattle.format.specs.Names.{read_text}
use Rattle.format.specs.Tree.{Leaf, integer, float, custom_by_id, custom_by_name}
use Rattle.format.specs.Payload.{float64, read_negative, read_float64, Head, value, read_custom_by_id, read_custom_by_name}
use Rattle.faults.specs.Noted.{noted, flaw_if}
use Rattle.front.specs.Code.{answer_of}
use Rattle.head.specs.Code.{heading_of}
use Rattle.front.specs.Between.{between}
use Rattle.front.specs.Pieces.{span_at, text_at}
use Rattle.front.specs.Made.{span}
use Rattle.head.specs.Pieces.{inside_of}
use Rattle.leaves.specs.Pieces.{fixed_at, positive_of, negative_of, double_at, leaf_of, id_of, name_of}
use Rattle.leaves.specs.declared.Heading.TheVariants as H
use Rattle.leaves.specs.declared.Heading.{Heading}
use Rattle.faults.proofs.NotedLaws.{noted_none}
use Rattle.front.proofs.AnswerLaws.{answer_raise, answer_bind, answer_make, answer_whole, ended}
use Rattle.front.proofs.BetweenLaws.{Inside, rest_at}
use Rattle.front.proofs.SpanLaws.{answer_number, sized_is, span_then, text_is}
use Rattle.number.proofs.NumberThenLaws.{number_same}
use Rattle.front.specs.declared.Span.{Span}

-- a head's answer, in a part of n bytes
abbrev pub head_of : ℕ → Head → Faults → List ℕ → Result Heading Stop
head_of n x h r = heading_of x h (n - length r)

module _ (m : Modes) (g : Faults) (s : List ℕ) where
  pub inside_then : (c : Inner) (l : ℕ → ℕ → Faults → Result Heading Stop) → ((a e : ℕ) (h : Faults) → l a e h ≡ inside_of c m s (span a e h)) → (x : Result Span Stop)
      → span_then Err l x ≡ inside_of c m s x
  inside_then c l f (Err j) = refl
  inside_then c l f (Ok p) = f p.begin p.end p.faults

  abbrev end_of : Leaf → Faults → List ℕ → Result Heading Stop
  end_of v h r = Ok (H.Leaf (length s - length r) h)

  past : (n : ℕ) → n ≤ length s → length s - length (drop n s) ≡ n
  past n l = rw (length-drop n s) (omega arith)

  answer_fixed : (n : ℕ) (go : List ℕ → Faults → List ℕ → Result Heading Stop) (l : Result Heading Stop) → (n ≤ length s → go (take n s) g (drop n s) ≡ l)
      → answer_of Err go m g (fixed n s) ≡ cond (ltb (length s) n) (Err Early) l
  unfolding fixed
  answer_fixed n go l f = at (ltb (length s) n) refl
    where
      at : (z : Bool) → ltb (length s) n ≡ z → answer_of Err go m g (cond z (fault Early) (got (take n s) [] (drop n s))) ≡ cond z (Err Early) l
      at true e = refl
      at false e = rw (noted_none m g) (f (ltb-false (length s) n e))

  pub fixed_is : (n : ℕ) (made : List ℕ → Leaf) → answer_of Err (head_of (length s)) m g (make value (make made (fixed n s))) ≡ fixed_at n g s
  unfolding fixed_at
  fixed_is n made = answer_make Err (head_of (length s)) m g value (make made (fixed n s))
      ∙ (answer_make Err end_of m g made (fixed n s) ∙ answer_fixed n (λ x. end_of (made x)) (Ok (H.Leaf n g)) (λ l. rw (past n l)))

  pub nothing_is : (v : Leaf) → answer_of Err (head_of (length s)) m g (make value (got v [] s)) ≡ fixed_at 0 g s
  unfolding fixed_at
  nothing_is v = let z : length s - length s ≡ 0 = omega arith in rw (noted_none m g, z, le-ltb (length s) 0 (omega arith))

  pub positive_is : (made : ℕ → Leaf) → answer_of Err (head_of (length s)) m g (make value (make made (read_var_uint s))) ≡ positive_of m g (var_uint s)
  positive_is made = answer_make Err (head_of (length s)) m g value (make made (read_var_uint s))
      ∙ (answer_make Err end_of m g made (read_var_uint s) ∙ (answer_number Err (λ v. end_of (made v)) m g s ∙ number_same _ _ _ s (λ v n x l. rw (past n l))))

  pub negative_is : answer_of Err (head_of (length s)) m g (make value (read_negative s)) ≡ negative_of m g (var_uint s)
  negative_is =
      answer_make Err (head_of (length s)) m g value (read_negative s)
      ∙ (answer_bind Err end_of m g (read_var_uint s) low ∙ (answer_number Err (λ v h r. answer_of Err end_of m h (low v r)) m g s
      ∙ number_same _ _ _ s one))
    where
      low : ℕ → List ℕ → Out Leaf
      low v r = raise (not (ltb v (2 ^ 63))) Low (got (integer (negsuc v)) [] r)

      one : (v n : ℕ) (x : Bool) → n ≤ length s
          → answer_of Err end_of m (noted m g (flaw_if (not x) Long)) (raise (not (ltb v (2 ^ 63))) Low (got (integer (negsuc v)) [] (drop n s)))
          ≡ Ok (H.Leaf n (noted m (noted m g (flaw_if (not x) Long)) (flaw_if (not (ltb v (2 ^ 63))) Low)))
      one v n x l =
          let f = noted m g (flaw_if (not x) Long) in
          let low = not (ltb v (2 ^ 63)) in
          rw (answer_raise Err end_of m f low Low (got (integer (negsuc v)) [] (drop n s)), noted_none m (noted m f (flaw_if low Low)), past n l)

  pub double_is : answer_of Err (head_of (length s)) m g (make value (read_float64 s)) ≡ double_at m g s
  double_is =
      answer_make Err (head_of (length s)) m g value (read_float64 s)
      ∙ (answer_bind Err end_of m g (fixed 8 s) wide ∙ answer_fixed 8 (λ b h r. answer_of Err end_of m h (wide b r)) (Ok (H.Leaf 8 (noted m g (flaw_if (holds (from_bytes (take 8 s))) Wide)))) one)
    where
      wide : List ℕ → List ℕ → Out Leaf
      wide b r = raise (holds (from_bytes b)) Wide (got (float (float64 (from_bytes b))) [] r)

      one : 8 ≤ length s
          → answer_of Err end_of m g (raise (holds (from_bytes (take 8 s))) Wide (got (float (float64 (from_bytes (take 8 s)))) [] (drop 8 s)))
          ≡ Ok (H.Leaf 8 (noted m g (flaw_if (holds (from_bytes (take 8 s))) Wide)))
      one l =
          rw (
            answer_raise Err end_of m g (holds (from_bytes (take 8 s))) Wide (got (float (float64 (from_bytes (take 8 s)))) [] (drop 8 s)),
            noted_none m
                (noted m g (flaw_if (holds (from_bytes (take 8 s))) Wide)),
            past 8 l,
          )

  pub sized_leaf : (made : List ℕ → Leaf)
      → answer_of Err (head_of (length s)) m g (make value (make made (sized rest s))) ≡ inside_of I.Bytes m s (span_at m g s)
  sized_leaf made =
      answer_make Err (head_of (length s)) m g value (make made (sized rest s))
      ∙ (answer_make Err end_of m g made (sized rest s) ∙ (sized_is Err m g s (λ x. end_of (made x)) rest (λ a e h. Ok (H.Leaf e h))
      (λ a e h i. rw (noted_none m h, rest_at a e s i)) ∙ inside_then I.Bytes _ (λ a e h. refl) (span_at m g s)))

  pub text_leaf : (made : List ℕ → Leaf) → answer_of Err (head_of (length s)) m g (make value (make made (read_text s))) ≡ leaf_of (text_at m g s)
  text_leaf made =
      answer_make Err (head_of (length s)) m g value (make made (read_text s))
      ∙ (answer_make Err end_of m g made (read_text s) ∙ (text_is Err m g s (λ x. end_of (made x)) (λ a e h. Ok (H.Leaf e h)) (λ a e h i. rw (rest_at a e s i)) ∙ at (text_at m g s)))
    where
      at : (x : Result Span Stop) → span_then Err (λ a e h. Ok (H.Leaf e h)) x ≡ leaf_of x
      at (Err j) = refl
      at (Ok p) = refl

  -- a custom behind its size
  custom_is : (c : Inner) (p : List ℕ → Out Leaf) → ((a e : ℕ) (h : Faults) → Inside a e s
      → answer_of Err end_of m h (whole (p (between a e s)) (drop e s)) ≡ inside_of c m s (span a e h))
      → answer_of Err (head_of (length s)) m g (make value (sized p s)) ≡ inside_of c m s (span_at m g s)
  custom_is c p f =
      answer_make Err (head_of (length s)) m g value (sized p s) ∙ (sized_is Err m g s end_of p (λ a e h. inside_of c m s (span a e h)) f
      ∙ inside_then c _ (λ a e h. refl) (span_at m g s))

  pub by_id_is : answer_of Err (head_of (length s)) m g (make value (sized read_custom_by_id s)) ≡ inside_of I.ById m s (span_at m g s)
  by_id_is = custom_is I.ById read_custom_by_id one
    where
      one : (a e : ℕ) (h : Faults) → Inside a e s → answer_of Err end_of m h (whole (read_custom_by_id (between a e s)) (drop e s))
          ≡ id_of m h e (var_uint (between a e s))
      one a e h i =
          answer_whole Err end_of m h (read_custom_by_id (between a e s)) (drop e s)
          ∙ (answer_bind Err go m h (read_var_uint (between a e s)) id
          ∙ (answer_number Err (λ n f r. answer_of Err go m f (id n r)) m h (between a e s)
          ∙ number_same _ _ _ (between a e s) (λ v n x l. rw (noted_none m (noted m h (flaw_if (not x) Long)), rest_at a e s i))))
        where
          go : Leaf → Faults → List ℕ → Result Heading Stop
          go x f q = ended q (end_of x f (drop e s)) (Err Early)

          id : ℕ → List ℕ → Out Leaf
          id n r = make (custom_by_id n) (rest r)

  pub by_name_is : answer_of Err (head_of (length s)) m g (make value (sized read_custom_by_name s)) ≡ inside_of I.ByName m s (span_at m g s)
  by_name_is = custom_is I.ByName read_custom_by_name one
    where
      one : (a e : ℕ) (h : Faults) → Inside a e s → answer_of Err end_of m h (whole (read_custom_by_name (between a e s)) (drop e s))
          ≡ name_of e (text_at m h (between a e s))
      one a e h i =
          answer_whole Err end_of m h (read_custom_by_name (between a e s)) (drop e s)
          ∙ (answer_bind Err go m h (read_text (between a e s)) named
          ∙ (text_is Err m h (between a e s) (λ n f r. answer_of Err go m f (named n r)) (λ b c f. Ok (H.Leaf e f)) (λ b c f j. rw (noted_none m f, rest_at a e s i)) ∙ at (text_at m h (between a e s))))
        where
          go : Leaf → Faults → List ℕ → Result Heading Stop
          go x f q = ended q (end_of x f (drop e s)) (Err Early)

          named : List ℕ → List ℕ → Out Leaf
          named n r = make (custom_by_name n) (rest r)

          at : (x : Result Span Stop) → span_then Err (λ b c f. Ok (H.Leaf e f)) x ≡ name_of e x
          at (Err j) = refl
          at (Ok p) = refl
