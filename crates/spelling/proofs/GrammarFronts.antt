-- The type byte, a text, a name, and a field's front are read just as the grammar spells them.
use Rattle.std.specs.Prelude.{Option, None, Some}
use Prim.Native.Nat.{ℕ}
use mathlib.Core.Path.{◌≡◌, refl, sym, ap, subst, ◌∙◌}
use mathlib.Core.Bool.{not}
use mathlib.Core.List.{List, [], ◌∷◌, ◌++◌}
use Rattle.number.specs.BigEndian.{Bytes}
use Rattle.text.specs.Utf8.{is_text}
use Rattle.format.specs.declared.Kind.{Kind}
use Rattle.format.specs.declared.Mark.{Mark}
use Rattle.format.specs.declared.Mark.TheVariants.{OfTop, OfField, OfItem}
use Rattle.format.specs.declared.Form.{Form}
use Rattle.format.specs.declared.Form.TheVariants.{Top, Field, Item, SharedField, SharedItem}
use Rattle.format.specs.Kinds.{type_byte, kind_at}
use Rattle.format.specs.declared.Flaw.{Flaw}
use Rattle.format.specs.declared.Flaw.TheVariants.{Blank, NotUtf8}
use Rattle.format.specs.Parse.{got, make, read_var_uint, sized, rest}
use Rattle.format.specs.Names.{is_empty, read_text, read_name}
use Rattle.format.specs.Payload.{kind_found, read_type, front}
use Rattle.spelling.specs.Spells.{All-of, Made, Behind, Sized, FrontSpells}
use Rattle.format.proofs.KindLaws.{kind_rt, kind_inv}
use Rattle.format.proofs.Back.{never}
use Rattle.spelling.proofs.Grammar.{Clean, Front, front_as, front_bind, front_got, part_rest, front_make, front_flag, front_sized}

module _ {C : List Flaw → Type 0} (clean : Clean C) where
  pub front_type : (m : Mark) → Front C (read_type m) (λ k w. w ≡ type_byte m k ∷ [])
  front_type m = record { to = to; from = λ k w e r. ([], clean.none, rw (e, kind_rt m k)) }
    where
      to : (s : List ℕ) (k : Kind) (fs : List Flaw) (r : List ℕ) → Bytes s → read_type m s ≡ got k fs r → C fs
          → (w : List ℕ) × (s ≡ w ++ r) × (w ≡ type_byte m k ∷ [])
      to [] k fs r y e c = never e
      to (b ∷ s) k fs r y e c = go (kind_at m b) refl e
        where
          go : (o : Option Kind) → kind_at m b ≡ o → kind_found o s ≡ got k fs r → (w : List ℕ) × (b ∷ s ≡ w ++ r) × (w ≡ type_byte m k ∷ [])
          go None i e = never e
          go (Some l) i e = let z : l ≡ k = cc in (b ∷ [], cc, ap (λ b. b ∷ []) (kind_inv m b k (rw z at i)))

  module _ {Num : ℕ → List ℕ → Type 0} (num : Front C read_var_uint Num) where
    pub front_text : Front C read_text (Sized Num All-of)
    front_text =
        front_as clean read_text (Made (λ t. t) (Sized Num All-of)) (Sized Num All-of) (λ a w y x. subst (λ a. Sized Num All-of a w) (sym x.1) x.2)
        (λ a w x. (a, refl, x))
        (front_flag clean (λ t. t) (λ t. not (is_text t)) NotUtf8 refl (sized rest) (Sized Num All-of) (front_sized clean num rest All-of (part_rest clean)))

    pub front_name : Front C read_name (Sized Num All-of)
    front_name =
        front_as clean read_name (Made (λ t. t) (Sized Num All-of)) (Sized Num All-of) (λ a w y x. subst (λ a. Sized Num All-of a w) (sym x.1) x.2)
        (λ a w x. (a, refl, x))
        (front_flag clean (λ t. t) is_empty Blank refl read_text (Sized Num All-of) front_text)

    pub front_front : (g : Form) → Front C (front g) (FrontSpells Num g)
    unfolding front
    front_front Top = front_as clean (front Top) (Made (λ k. ([], k)) (λ k w. w ≡ type_byte OfTop k ∷ [])) _
        (λ x w y i. subst (λ x. FrontSpells Num Top x w) (sym i.1) (refl, i.2)) (λ x w i. (x.1, ap (λ n. (n, x.1)) i.0, i.1))
        (front_make clean (λ k. ([], k)) (read_type OfTop) _ (front_type OfTop))
    front_front Field = front_as clean (front Field) (Behind (λ k w. w ≡ type_byte OfField k ∷ []) (λ k. Made (λ n. (n, k)) (Sized Num All-of))) _
        (λ x w y i. subst (λ x. FrontSpells Num Field x w) (sym i.5.1) (i.2, i.3 ∙ ap (λ u. u ++ i.2) i.4, i.5.2))
        (λ x w i. (x.1, type_byte OfField x.1 ∷ [], i.0, i.1, refl, (x.0, refl, i.2)))
        (front_bind clean (read_type OfField) (λ k r. make (λ n. (n, k)) (read_name r)) _ _ (front_type OfField)
        (λ k. front_make clean (λ n. (n, k)) read_name _ front_name))
    front_front Item = front_as clean (front Item) (Made (λ k. ([], k)) (λ k w. w ≡ type_byte OfItem k ∷ [])) _
        (λ x w y i. subst (λ x. FrontSpells Num Item x w) (sym i.1) (refl, i.2)) (λ x w i. (x.1, ap (λ n. (n, x.1)) i.0, i.1))
        (front_make clean (λ k. ([], k)) (read_type OfItem) _ (front_type OfItem))
    front_front (SharedField k) = front_as clean (front (SharedField k)) (Made (λ n. (n, k)) (Sized Num All-of)) _
        (λ x w y i. subst (λ x. FrontSpells Num (SharedField k) x w) (sym i.1) (refl, i.2)) (λ x w i. (x.0, ap (λ k. (x.0, k)) i.0, i.1))
        (front_make clean (λ n. (n, k)) read_name _ front_name)
    front_front (SharedItem k) = front_got clean ([], k)
