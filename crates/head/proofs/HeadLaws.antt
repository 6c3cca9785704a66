-- The pieces of a head, put together, are the definition (`head_is`).
use Rattle.std.specs.Prelude.{Err, Result}
use Prim.Native.Nat.{ℕ, suc, ◌+◌, ◌-◌, ◌≤◌}
use native.Mathlib.Omega.{arith}
use mathlib.Core.Path.{◌≡◌, refl, ◌∙◌}
use mathlib.Core.Bool.{Bool, not}
use mathlib.Core.List.{List, []}
use lib.ListN.{length, drop, length-drop}
use lib.IntN.{pos}
use borrow.Author.Tests.{lt-ltb, le-ltb}
use Rattle.number.specs.VarUInt.{var_uint}
use Rattle.format.specs.declared.Kind.{Kind}
use Rattle.format.specs.declared.Stop.{Stop}
use Rattle.format.specs.declared.Form.TheVariants.{Item}
use Rattle.format.specs.declared.Stop.TheVariants.{Early}
use Rattle.faults.specs.declared.Modes.{Modes}
use Rattle.faults.specs.declared.Faults.{Faults}
use Rattle.format.specs.declared.Inner.{Inner}
use Rattle.format.specs.declared.Inner.TheVariants as I
use Rattle.format.specs.declared.Flaw.TheVariants.{Long}
use Rattle.format.specs.Parse.{got, Out, bind, whole, read_var_uint, sized}
use Rattle.format.specs.Tree.{integer, binary, string}
use Rattle.format.specs.Payload as read
use Rattle.format.specs.Payload.{Head, items_in, payload, read_fields, read_items, read_shared_fields, read_shared_items, head, Shape, nothing, bytes, text, positive}
use Rattle.format.specs.Payload.{negative, wide, behind, shape_of, class_in, class_of, payload_in}
use Rattle.format.proofs.SharedKind.{by_fields, by_items}
use Rattle.faults.specs.Noted.{noted, flaw_if}
use Rattle.front.specs.Code.{answer_of}
use Rattle.head.specs.Code.{head_at}
use Rattle.front.specs.Between.{between}
use Rattle.front.specs.Pieces.{span_at}
use Rattle.front.specs.Made.{span}
use Rattle.head.specs.Pieces.{shared_fields_of, shared_items_of, shared_count_of, count_of, inside_of, head_by}
use Rattle.faults.proofs.NotedLaws.{noted_none}
use Rattle.front.proofs.AnswerLaws.{answer_bind, answer_whole, ended}
use Rattle.front.proofs.BetweenLaws.{Inside, part_at, part_length, past_at, rest_at}
use Rattle.front.proofs.SpanLaws.{answer_number, sized_is}
use Rattle.number.proofs.NumberThenLaws.{number_same}
use Rattle.head.proofs.LeafLaws.{by_id_is, by_name_is, double_is, fixed_is, head_of, inside_then, negative_is, nothing_is, positive_is, sized_leaf}
use Rattle.head.proofs.LeafLaws.{text_leaf}
use Rattle.leaves.specs.declared.Heading.{Heading}

module _ (m : Modes) (g : Faults) (s : List ℕ) where
  -- a kind whose payload is p behind a size
  behind_size_law : (c : Inner) (p : List ℕ → Out Head) → ((a e : ℕ) (h : Faults) → Inside a e s
      → answer_of Err (head_of (length s)) m h (whole (p (between a e s)) (drop e s)) ≡ inside_of c m s (span a e h))
      → answer_of Err (head_of (length s)) m g (sized p s) ≡ inside_of c m s (span_at m g s)
  behind_size_law c p f = sized_is Err m g s (head_of (length s)) p (λ a e h. inside_of c m s (span a e h)) f ∙ inside_then m g s c _ (λ a e h. refl) (span_at m g s)

  fields_is : answer_of Err (head_of (length s)) m g (sized read_fields s) ≡ inside_of I.Fields m s (span_at m g s)
  fields_is = behind_size_law I.Fields read_fields (λ a e h i. rw (noted_none m h, rest_at a e s i, part_at a e s i))

  items_is : answer_of Err (head_of (length s)) m g (sized read_items s) ≡ inside_of I.Items m s (span_at m g s)
  items_is = behind_size_law I.Items read_items one
    where
      one : (a e : ℕ) (h : Faults) → Inside a e s → answer_of Err (head_of (length s)) m h (whole (read_items (between a e s)) (drop e s))
          ≡ count_of m h a e (var_uint (between a e s))
      one a e h i =
          answer_whole Err (head_of (length s)) m h (read_items (between a e s)) (drop e s)
          ∙ (answer_bind Err go m h (read_var_uint (between a e s)) counted
          ∙ (answer_number Err (λ n f r. answer_of Err go m f (counted n r)) m h (between a e s)
          ∙ number_same _ _ _ (between a e s) (λ v n x l. rw (noted_none m (noted m h (flaw_if (not x) Long)), rest_at a e s i, past_at a e s i n l))))
        where
          go : Head → Faults → List ℕ → Result Heading Stop
          go x f q = ended q (head_of (length s) x f (drop e s)) (Err Early)

          counted : ℕ → List ℕ → Out Head
          counted n r = got (items_in Item n r) [] []

  shared_fields_is : answer_of Err (head_of (length s)) m g (sized read_shared_fields s) ≡ inside_of I.SharedFields m s (span_at m g s)
  shared_fields_is = behind_size_law I.SharedFields read_shared_fields one
    where
      one : (a e : ℕ) (h : Faults) → Inside a e s → answer_of Err (head_of (length s)) m h (whole (read_shared_fields (between a e s)) (drop e s))
          ≡ shared_fields_of h a e (between a e s)
      one a e h i = by_fields Same (record {
        none = λ l. refl;
        unknown = λ b t k l. rw k;
        alone = λ b k q l. rw (q, lt-ltb (e - a) 2 (omega arith));
        shared = λ b k c t q l.
            let y : e - suc (length t) ≡ a + 1 = omega (arith, i.order) in
            rw (q, le-ltb (e - a) 2 (omega arith), noted_none m h, rest_at a e s i, y);
      }) (between a e s) (part_length a e s i)
        where
          Same : List ℕ → Out Head → Type 0
          Same b o = length b ≡ e - a → answer_of Err (head_of (length s)) m h (whole o (drop e s)) ≡ shared_fields_of h a e b

  shared_items_is : answer_of Err (head_of (length s)) m g (sized (λ b. bind (read_var_uint b) read_shared_items) s) ≡ inside_of I.SharedItems m s (span_at m g s)
  shared_items_is = behind_size_law I.SharedItems (λ b. bind (read_var_uint b) read_shared_items) one
    where
      one : (a e : ℕ) (h : Faults) → Inside a e s
          → answer_of Err (head_of (length s)) m h (whole (bind (read_var_uint (between a e s)) read_shared_items) (drop e s))
          ≡ shared_count_of m h a e (between a e s) (var_uint (between a e s))
      one a e h i =
          answer_whole Err (head_of (length s)) m h (bind (read_var_uint (between a e s)) read_shared_items) (drop e s)
          ∙ (answer_bind Err go m h (read_var_uint (between a e s)) read_shared_items ∙
          (answer_number Err (λ n f b. answer_of Err go m f (read_shared_items n b)) m h (between a e s)
          ∙ number_same _ _ _ (between a e s) counted))
        where
          go : Head → Faults → List ℕ → Result Heading Stop
          go x f q = ended q (head_of (length s) x f (drop e s)) (Err Early)

          Same : ℕ → List ℕ → Out Head → Type 0
          Same n b o = (f : Faults) (at : ℕ) → e - length b ≡ at → length b ≤ e → answer_of Err go m f o ≡ shared_items_of f n at e b

          byte : (n : ℕ) (b : List ℕ) → Same n b (read_shared_items n b)
          byte = by_items Same (record {
            none = λ n f at l y. refl;
            unknown = λ n b t q f at l y. rw q;
            uncounted = λ b k t q f at l y. rw q;
            bare = λ n b k t q u f at l y. rw (q, le-ltb (suc n) 1 (omega arith), u);
            shared = λ n b k t q u f at l y.
                let z : e - length t ≡ at + 1 = omega arith in
                rw (q, le-ltb (suc n) 1 (omega arith), u, noted_none m f, rest_at a e s i, z);
          })

          counted : (v n : ℕ) (x : Bool) → n ≤ length (between a e s)
              → answer_of Err go m (noted m h (flaw_if (not x) Long)) (read_shared_items v (drop n (between a e s)))
              ≡ shared_items_of (noted m h (flaw_if (not x) Long)) v (a + n) e (drop n (between a e s))
          counted v n x l =
              byte v (drop n (between a e s)) (noted m h (flaw_if (not x) Long)) (a + n) (past_at a e s i n l)
              (rw (length-drop n (between a e s)) (omega (arith, part_length a e s i, i.order)))

-- each shape of a payload, by its class
head_shape : (f : Shape) (m : Modes) (g : Faults) (s : List ℕ) → answer_of Err (head_of (length s)) m g (read.head_by (payload_in f) s)
    ≡ head_by (class_in f) m g s
head_shape (nothing v) m g s = nothing_is m g s v
head_shape (bytes n made) m g s = fixed_is m g s n made
head_shape text m g s = text_leaf m g s string
head_shape positive m g s = positive_is m g s (λ n. integer (pos n))
head_shape negative m g s = negative_is m g s
head_shape wide m g s = double_is m g s
head_shape (behind I.Bytes) m g s = sized_leaf m g s binary
head_shape (behind I.ById) m g s = by_id_is m g s
head_shape (behind I.ByName) m g s = by_name_is m g s
head_shape (behind I.Fields) m g s = fields_is m g s
head_shape (behind I.SharedFields) m g s = shared_fields_is m g s
head_shape (behind I.Items) m g s = items_is m g s
head_shape (behind I.SharedItems) m g s = shared_items_is m g s

pub head_is : (k : Kind) (m : Modes) (g : Faults) (s : List ℕ) → head_at k m g s ≡ head_by (class_of k) m g s
unfolding head_at head payload
head_is k m g s = head_shape (shape_of k) m g s
