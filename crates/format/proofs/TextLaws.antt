-- Text and names behind their size: read back, and only they are.
use Prim.Native.Nat.{ℕ, ◌+◌, ◌^◌, ◌≤◌, ◌<◌}
use native.Mathlib.Omega.{arith}
use mathlib.Core.Path.{◌≡◌, refl, subst}
use mathlib.Core.Bool.{true, not}
use mathlib.Core.List.{List, [], ◌++◌}
use lib.ListN.{length, length-append}
use borrow.Author.Tests.{not-false}
use Rattle.number.specs.BigEndian.{Bytes}
use Rattle.number.proofs.VarUIntLaws.{encoded_length}
use Rattle.text.specs.Utf8.{is_text}
use Rattle.format.specs.declared.Flaw.TheVariants.{Blank, NotUtf8}
use Rattle.format.specs.Parse.{got, sized, rest}
use Rattle.format.specs.Names.{is_empty, read_text, read_name}
use Rattle.format.specs.Tree.{Text, NameWithin}
use Rattle.format.specs.Encoding.{with_size}
use Rattle.format.proofs.Lists.{bytes_right}
use Rattle.format.proofs.Back.{bind_case, raise_off, sized_rt, sized_case}

-- ---- lengths

pub size_some : (s r : List ℕ) → 1 ≤ length (with_size s ++ r)
size_some s r = simp length-append (omega (arith, (encoded_length (length s)).0))

pub inside_lt : (s : List ℕ) → length (with_size s) < 2 ^ 64 → length s < 2 ^ 64
inside_lt s l = omega (arith, simp length-append at l)

-- ---- text

pub text_rt : (t r : List ℕ) → is_text t ≡ true → length t < 2 ^ 64 → read_text (with_size t ++ r) ≡ got t [] r
text_rt t r e l = rw (sized_rt rest t t r l refl, e)

pub text_case : {X : Type 0} (s : List ℕ) {t r : List ℕ} → Bytes s → read_text s ≡ got t [] r
    → (s ≡ with_size t ++ r → Text t → Bytes r → length t < 2 ^ 64 → X) → X
text_case s {t} {r} w h c =
    bind_case (sized rest s) _ h λ a q e h₁. sized_case rest w e λ b e' es wb l.
    let j = raise_off (not (is_text a)) NotUtf8 (got a [] q) h₁ in
    let y : b ≡ t = cc in
    let x : a ≡ t = cc in
    let z : s ≡ with_size t ++ r = cc in
    c z (subst Bytes y wb, rw x at (not-false (is_text a) j.0)) (bytes_right s (with_size t) r w z) (rw y at l)

-- ---- a name

pub name_rt : (n r : List ℕ) → NameWithin n → length n < 2 ^ 64 → read_name (with_size n ++ r) ≡ got n [] r
name_rt n r w l = rw (text_rt n r w.0.1 l, w.1)

pub name_case : {X : Type 0} (s : List ℕ) {n r : List ℕ} → Bytes s → read_name s ≡ got n [] r → (s ≡ with_size n ++ r → NameWithin n → Bytes r → X) → X
name_case s {n} {r} w h c =
    bind_case (read_text s) _ h λ a q e h₁. text_case s w e λ es wt wq l.
    let j = raise_off (is_empty a) Blank (got a [] q) h₁ in
    let x : a ≡ n = cc in
    let y : q ≡ r = cc in
    c (cc) (subst Text x wt, rw x at j.0) (subst Bytes y wq)
