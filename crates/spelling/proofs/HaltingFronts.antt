-- The type byte, a text, a field's front and a leaf's payload stop exactly where specs/Halts.antt says.
use Rattle.std.specs.Prelude.{None, Some, Option}
use Prim.Native.Nat.{ℕ}
use native.Mathlib.Omega.{arith}
use mathlib.Core.Path.{◌≡◌, refl, sym, ap, subst, ◌∙◌}
use mathlib.Core.Logic.{inl, inr}
use mathlib.Core.Bool.{not}
use mathlib.Core.List.{List, [], ◌∷◌, ◌++◌}
use Rattle.number.specs.BigEndian.{Bytes}
use Rattle.text.specs.Utf8.{is_text}
use Rattle.format.specs.declared.Kind.{Kind}
use Rattle.format.specs.declared.Mark.{Mark}
use Rattle.format.specs.declared.Mark.TheVariants.{OfTop, OfField, OfItem}
use Rattle.format.specs.declared.Form.{Form}
use Rattle.format.specs.declared.Form.TheVariants.{Top, Field, Item, SharedField, SharedItem}
use Rattle.format.specs.declared.Stop.{Stop}
use Rattle.format.specs.Kinds.{type_byte, kind_at}
use Rattle.format.specs.declared.Flaw.TheVariants.{Blank, NotUtf8}
use Rattle.format.specs.Parse.{Out, fault, got, bind, make, whole, sized, rest}
use Rattle.format.specs.Names.{is_empty, read_text, read_name}
use Rattle.format.specs.Tree.{Leaf}
use Rattle.format.specs.Payload.{kind_found, read_type, value, front}
use Rattle.format.specs.Reader.{Reader, contents}
use Rattle.spelling.specs.Halts.{OrBehind, TypeHalts, TextHalts, SizedHalts, FrontHalts}
use Rattle.format.proofs.KindLaws.{kind_rt, kind_inv}
use Rattle.format.proofs.Back.{never}
use Rattle.format.proofs.Local.{bind_got}
use Rattle.spelling.proofs.GrammarFronts.{front_type}
use Rattle.spelling.proofs.SpelledNumbers.{any_clean}
use Rattle.spelling.proofs.Halting.{bind_fault, Halt, halt_as, halt_bind, halt_none, halt_make, halt_flag, halt_sized}
use Rattle.spelling.proofs.HaltingNumbers.{halt_number}

pub at_unknown : (m : Mark) (b : ℕ) → kind_at m b ≡ None → (j : Kind) → b ≡ type_byte m j → ⊥
at_unknown m b i j e = let z : kind_at m b ≡ Some j = ap (kind_at m) e ∙ kind_rt m j in let z' : ◌≡◌ {A = ℕ} 0 1 = cc in omega arith

pub unknown_at : (m : Mark) (b : ℕ) → ((j : Kind) → b ≡ type_byte m j → ⊥) → kind_at m b ≡ None
unknown_at m b f = go (kind_at m b) refl
  where
    go : (o : Option Kind) → kind_at m b ≡ o → o ≡ None
    go None i = refl
    go (Some j) i = absurd (f j (kind_inv m b j i))

pub halt_type : (m : Mark) → Halt (read_type m) (TypeHalts m)
halt_type m = record { to = to; from = from }
  where
    to : (s : List ℕ) (k : Stop) → Bytes s → read_type m s ≡ fault k → TypeHalts m k s
    to [] k y e = inl (cc, refl)
    to (b ∷ s) k y e = go (kind_at m b) refl e
      where
        go : (o : Option Kind) → kind_at m b ≡ o → kind_found o s ≡ fault k → TypeHalts m k (b ∷ s)
        go None i h = inr (cc, b, s, refl, at_unknown m b i)
        go (Some j) i h = never (sym h)

    from : (k : Stop) (s : List ℕ) → TypeHalts m k s → read_type m s ≡ fault k
    from k s (inl i) = rw (i.0, i.1)
    from k s (inr i) = rw (i.0, i.3, unknown_at m i.1 i.4)

pub halt_bytes : Halt (sized rest) TextHalts
halt_bytes =
    halt_as (sized rest) (SizedHalts (λ k b. ⊥)) TextHalts out (λ k s i. inl i)
    (halt_sized halt_number rest (λ k b. ⊥) (λ b a fs r e. cc) (halt_none rest (λ s k e. never (sym e))))
  where
    out : (k : Stop) (s : List ℕ) → Bytes s → SizedHalts (λ k b. ⊥) k s → TextHalts k s
    out k s y (inl i) = i
    out k s y (inr i) = absurd i.5

pub halt_text : Halt read_text TextHalts
halt_text = halt_flag (λ t. t) (λ t. not (is_text t)) NotUtf8 (sized rest) TextHalts halt_bytes

pub halt_name : Halt read_name TextHalts
halt_name = halt_flag (λ t. t) is_empty Blank read_text TextHalts halt_text

pub halt_front : (g : Form) → Halt (front g) (FrontHalts g)
unfolding front
halt_front Top = halt_make (λ k. ([], k)) (read_type OfTop) (TypeHalts OfTop) (halt_type OfTop)
halt_front Field = halt_as (front Field) (OrBehind (TypeHalts OfField) (λ k w. w ≡ type_byte OfField k ∷ []) (λ k. TextHalts)) (FrontHalts Field) out back
    (halt_bind (read_type OfField) (λ k r. make (λ n. (n, k)) (read_name r)) _ _ (λ k. TextHalts) (front_type any_clean OfField) (halt_type OfField)
    (λ k. halt_make (λ n. (n, k)) read_name TextHalts halt_name))
  where
    out : (k : Stop) (s : List ℕ) → Bytes s → OrBehind (TypeHalts OfField) (λ k w. w ≡ type_byte OfField k ∷ []) (λ k. TextHalts) k s → FrontHalts Field k s
    out k s y (inl i) = inl i
    out k s y (inr i) = inr (i.0, i.2, i.3 ∙ ap (λ z. z ++ i.2) i.4, i.5)

    back : (k : Stop) (s : List ℕ) → FrontHalts Field k s → OrBehind (TypeHalts OfField) (λ k w. w ≡ type_byte OfField k ∷ []) (λ k. TextHalts) k s
    back k s (inl i) = inl i
    back k s (inr i) = inr (i.0, type_byte OfField i.0 ∷ [], i.1, i.2, refl, i.3)
halt_front Item = halt_make (λ k. ([], k)) (read_type OfItem) (TypeHalts OfItem) (halt_type OfItem)
halt_front (SharedField k) = halt_make (λ n. (n, k)) read_name TextHalts halt_name
halt_front (SharedItem k) = halt_none (front (SharedItem k)) (λ s n e. never (sym e))

-- a leaf has no contents in which it could stop
pub halt_leaf : {X : Type 0} (p : Reader X) (q : List ℕ → Out Leaf) (H : Stop → List ℕ → Type 0) → Halt q H
    → Halt (λ s. bind (make value (q s)) λ h r. whole (contents p h) r) H
halt_leaf p q H h = record {
  to = λ s k y e. bind_fault (make value (q s)) (λ h r. whole (contents p h) r) e
      (λ i. bind_fault (q s) (λ v r. got (value v) [] r) i (h.to s k y) (λ v fs r _ j. never (sym j)))
      (λ d fs r i j. bind_got (q s) (λ v r. got (value v) [] r) i λ v es t gs _ j' _. let z : d ≡ value v = cc in never
      (sym (subst (λ d. whole (contents p d) r ≡ fault k) z j)));
  from = λ k s i. rw (h.from k s i);
}
