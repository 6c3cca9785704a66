-- The names of the fields in a part are those that the reader gives.
use Prim.Native.Nat.{ℕ, zero, suc, ◌+◌, ◌≤◌, ◌<◌}
use native.Mathlib.Omega.{arith}
use mathlib.Core.Path.{◌≡◌, refl, sym, ap, ◌∙◌}
use mathlib.Core.List.{List, [], ◌∷◌, ◌++◌, append_assoc}
use lib.ListN.{length, length-append}
use Rattle.format.specs.declared.Kind.{Kind}
use Rattle.format.specs.declared.Form.{Form}
use Rattle.format.specs.declared.Stop.TheVariants.{Early}
use Rattle.format.specs.declared.Flaw.{Flaw}
use Rattle.format.specs.Parse.{Out, fault, got, fill}
use Rattle.format.specs.Payload.{front, Head, head}
use Rattle.format.specs.Reader.{Named, Standing, Layout, names_in, contents, read_node, read}
use Rattle.head.specs.Code.{meeting}
use Rattle.format.proofs.Back.{never}
use Rattle.format.proofs.Local.{bind_got, whole_got, with_put}
use Rattle.format.proofs.HeadParts.{local_head, front_takes}
use Rattle.names.specs.FieldNames.{names_at, field_names}
use Rattle.names.proofs.NameBound.{met_first}

-- ---- the names that the reader gives

-- what is read is met first
read_name_law : (d : ℕ) (f : Form) (s : List ℕ) {x : Named (Standing (Layout d))} {fs : List Flaw} {r : List ℕ} → read d f s ≡ got x fs r
    → length r < length s → field_names f s ≡ x.0 ∷ field_names f r
unfolding read
read_name_law zero f s h l = never h
read_name_law (suc d) f s {x} {fs} {r} h l =
    bind_got (front f s) _ h λ y es u gs e i _. bind_got (read_node (read d) y.1 u) _ i λ t es' q gs' e' i' _.
    bind_got (head y.1 u) _ e' λ k ks v hs j j' _. whole_got (contents (read d) k) v j' λ _ z.
    let n : x.0 ≡ y.0 = sym (ap (λ o. name_in_law o y.0) i') in
    let m : v ≡ r = cc in
    let a : (List ℕ × Kind) × (List ℕ × Head) = (y, (u, k)) in
    let o : meeting f s ≡ got a (es ++ (ks ++ [])) v = rw (e, j, with_put ks [] a v, with_put es (ks ++ []) a v) in
    rw (n, ← m) (met_first f s o (rw m l))
  where
    name_in_law : {A : Type 0} → Out (Named A) → List ℕ → List ℕ
    name_in_law (fault k) m = m
    name_in_law (got x fs r) m = x.0

-- what is left behind a field is an end
pub read_ends : (d : ℕ) (f : Form) (s : List ℕ) {y : Named (Standing (Layout d))} {gs : List Flaw} {r : List ℕ} → read d f s ≡ got y gs r
    → (w : List ℕ) × (s ≡ w ++ r)
unfolding read
read_ends zero f s h = never h
read_ends (suc d) f s {y} {gs} {r} h =
    bind_got (front f s) _ h λ x es q hs i k _. bind_got (read_node (read d) x.1 q) _ k λ t es' q' hs' i' k' _.
    bind_got (head x.1 q) _ i' λ c es'' q'' hs'' i'' k'' _. whole_got (contents (read d) c) q'' k'' λ u v.
    let a = (front_takes f s i).0 in
    let b = local_head x.1 q c es'' q'' i'' in
    let z : q'' ≡ r = cc in
    (a.0 ++ (x.0 ++ b.0), rw (append_assoc a.0 (x.0 ++ b.0) r, append_assoc x.0 b.0 r, ← z, ← b.1) a.1)

-- fields that take no byte never fill a part
fill_stuck : {A : Type 0} (p : List ℕ → Out A) (b : ℕ) (s : List ℕ) (x : A) (es : List Flaw) → p (b ∷ s) ≡ got x es (b ∷ s) → (n : ℕ)
    → fill p n (b ∷ s) ≡ fault Early
fill_stuck p b s x es e zero = refl
fill_stuck p b s x [] e (suc n) = rw (e, fill_stuck p b s x [] e n)
fill_stuck p b s x (f ∷ es) e (suc n) = rw (e, fill_stuck p b s x (f ∷ es) e n)

names_filled : (d : ℕ) (f : Form) (n : ℕ) (s : List ℕ) (xs : List (Named (Standing (Layout d)))) (fs : List Flaw) (r : List ℕ) → length s ≤ n
    → fill (read d f) n s ≡ got xs fs r → field_names f s ≡ names_in xs
unfolding names_at
names_filled d f zero [] xs fs r l h = let z : xs ≡ [] = cc in rw z
names_filled d f zero (b ∷ s) xs fs r l h = absurd (omega arith)
names_filled d f (suc n) [] xs fs r l h = let z : xs ≡ [] = cc in rw z
names_filled d f (suc n) (b ∷ s) xs fs r l h =
    bind_got (read d f (b ∷ s)) _ h λ x es q gs e i _. bind_got (fill (read d f) n q) _ i λ ys es' u gs' e' i' _.
    let w = read_ends d f (b ∷ s) e in by x es q ys es' u e e' (cc) w.0 w.1 (λ j. names_filled d f n q ys es' u j e')
  where
    by : (x : Named (Standing (Layout d))) (es : List Flaw) (q : List ℕ) (ys : List (Named (Standing (Layout d)))) (es' : List Flaw) (u : List ℕ)
        → read d f (b ∷ s) ≡ got x es q → fill (read d f) n q ≡ got ys es' u → xs ≡ x ∷ ys → (w : List ℕ) → b ∷ s ≡ w ++ q
        → (length q ≤ n → field_names f q ≡ names_in ys) → field_names f (b ∷ s) ≡ names_in xs
    by x es q ys es' u e e' z [] j rest = never (sym (fill_stuck (read d f) b s x es (e ∙ ap (got x es) (sym j)) n) ∙ ap (fill (read d f) n) j ∙ e')
    by x es q ys es' u e e' z (c ∷ w) j rest =
        let k : length (b ∷ s) ≡ length (c ∷ w) + length q = simp length-append at (ap length j) in
        rw z (read_name_law d f (b ∷ s) e (omega arith) ∙ ap (λ ms. x.0 ∷ ms) (rest (omega arith)))

pub names_read : (d : ℕ) (f : Form) (s : List ℕ) {xs : List (Named (Standing (Layout d)))} {fs : List Flaw} {r : List ℕ}
    → fill (read d f) (length s) s ≡ got xs fs r → names_at f (length s) s ≡ names_in xs
names_read d f s {xs} {fs} {r} h = names_filled d f (length s) s xs fs r (omega arith) h
