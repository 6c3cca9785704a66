-- The entries of the names that stand in a part: their bytes are the names. So a twin is told exactly if two names are equal.
use Rattle.std.specs.Prelude.{Some, None, Option}
use Prim.Native.Nat.{ℕ, zero, suc, ◌+◌, ◌≤◌, ◌<◌}
use native.Mathlib.Omega.{arith}
use mathlib.Core.Path.{◌≡◌, refl, sym, ap, ◌∙◌}
use mathlib.Core.Bool.{true}
use mathlib.Core.List.{List, [], ◌∷◌, map}
use lib.ListN.{length, drop, drop_of_length-le}
use lib.Dec.{ltb}
use Rattle.text.specs.Equal.{equal}
use Rattle.format.specs.declared.Form.{Form}
use Rattle.format.specs.Names.{twins}
use Rattle.front.specs.Between.{between}
use Rattle.names.specs.FieldNames.{name_at, names_at, field_names, twins_at}
use Rattle.names.proofs.NameFound.{found_at, none_at}
use Rattle.entries.specs.Entry.{bytes_in, name_in, entry_of}
use Rattle.entries.specs.Among.{In}
use Rattle.entries.proofs.EntryLaws.{entry_bytes, entry_same}
use Rattle.entries.proofs.LeastLaws.{named_same}
use Rattle.select.specs.declared.Source.{Source}
use Rattle.select.specs.declared.Source.TheVariants as S
use Rattle.select.specs.Source.{named_at, entries_after, entries_from, entries_of, first_twin}
use Rattle.select.proofs.HalfLaws.{none_in, in_first}
use Rattle.select.proofs.WalkLaws.{lead_of, named_on}
use Rattle.select.proofs.TwinLaws.{Keyed, twins_are}
use Rattle.select.proofs.FrontLaws.{entries_ascend}
use Rattle.names.specs.declared.Name.{Name}

-- what is known of a source: `ns a` are the names from a on
pub record Sound (o : Source) (s : List ℕ) (ns : ℕ → List (List ℕ)) : Type 0 where
  pub none : (a : ℕ) → a ≤ length s → named_at o a s ≡ None → ns a ≡ []
  pub more : (a : ℕ) (p : Name) → a ≤ length s → named_at o a s ≡ Some p → ns a ≡ between p.begin p.end s ∷ ns p.next
  pub ends : ns (length s) ≡ []

-- an entry of a name that stands in the part
abbrev Good : List ℕ → ℕ → Type 0
Good s x = (b : ℕ) × (e : ℕ) × (b ≤ e) × (e ≤ length s) × (x ≡ entry_of s b e)

module _ (o : Source) (s : List ℕ) (ns : ℕ → List (List ℕ)) (w : Sound o s ns) (short : length s < 16777216) where
  record Whole (a : ℕ) (es : List ℕ) : Type 0 where
    pub names : map (λ e. bytes_in s e) es ≡ ns a
    pub good : (x : ℕ) → In x es → Good s x

  entries_whole : (k a : ℕ) → a ≤ length s → length s ≤ a + k → Whole a (entries_from o s k a)
  unfolding entries_from
  entries_whole zero a i j =
      let z : a ≡ length s = omega arith in
      record { names = sym (ap ns z ∙ w.ends); good = λ x h. none_in x [] h refl }
  entries_whole (suc k) a i j = go (named_at o a s) refl (λ n c d. entries_whole k n c d)
    where
      go : (y : Option Name) → named_at o a s ≡ y → ((n : ℕ) → n ≤ length s → length s ≤ n + k → Whole n (entries_from o s k n))
          → Whole a (entries_after s y (λ n. entries_from o s k n))
      go None h f = record { names = sym (w.none a i h); good = λ x q. none_in x [] q refl }
      go (Some p) h f =
          let m = named_on o s a p i h in
          let r = f p.next m.inside (omega (arith, m.onward)) in
          let c : p.end ≤ length s = omega (arith, m.before, m.inside) in
          record {
            names = ap (λ (n : List ℕ). n ∷ map (λ x. bytes_in s x) (entries_from o s k p.next)) (entry_bytes s p.begin p.end m.ordered c short)
                ∙ ap (λ (t : List (List ℕ)). between p.begin p.end s ∷ t) r.names ∙ sym (w.more a p i h);
            good = λ x q. in_first x (entry_of s p.begin p.end) (entries_from o s k p.next) q (λ d. (p.begin, p.end, m.ordered, c, d)) (λ v. r.good x v);
          }

  keyed : (es : List ℕ) → ((x : ℕ) → In x es → Good s x) → Keyed s es
  keyed es f x e i j h =
      let p = f x i in
      let q = f e j in
      one x e p.0 p.1 p.2 p.3 p.4 q.0 q.1 q.2 q.3 q.4 h
    where
      one : (x e b c : ℕ) → b ≤ c → c ≤ length s → x ≡ entry_of s b c → (d f : ℕ) → d ≤ f → f ≤ length s → e ≡ entry_of s d f
          → equal (bytes_in s x) (bytes_in s e) ≡ true → name_in s x ≡ name_in s e
      one x e b c l k z d f m g y h =
          named_same s x e (rw (z, y) (entry_same s b c d f l k m g short ∙ rw (← entry_bytes s b c l k short, ← entry_bytes s d f m g short, ← z, ← y) h))

  pub twin_told : ltb (first_twin o s) 16777216 ≡ twins (ns 0)
  unfolding first_twin
  twin_told =
      let r = entries_whole (length s) 0 (omega arith) (omega arith) in
      twins_are s (lead_of o + 0) (entries_of o s) (entries_ascend o s short (length s) 0 (omega arith)) (keyed (entries_of o s) r.good) ∙ ap twins r.names

-- ---- the fields of an object

no_fields : (f : Form) (s : List ℕ) → field_names f (drop (length s) s) ≡ []
unfolding names_at
no_fields f s = rw (drop_of_length-le s {i = length s} (omega arith))

fields_sound : (f : Form) (s : List ℕ) → Sound (S.Fields f) s (λ a. field_names f (drop a s))
fields_sound f s =
    record {
      none = λ a i h. none_at f s a (name_at f a s) refl h;
      more = λ a p i h. (found_at f s a (name_at f a s) refl i p h).names;
      ends = no_fields f s;
    }

pub twins_of_fields : (f : Form) (s : List ℕ) → length s < 16777216 → ltb (first_twin (S.Fields f) s) 16777216 ≡ twins_at f s
unfolding twins_at
twins_of_fields f s h = twin_told (S.Fields f) s (λ a. field_names f (drop a s)) (fields_sound f s) h
