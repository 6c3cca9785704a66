-- Where names begin: each behind the one before it. A name has a byte before it, its length or a type; only an item of a uniform array has none, and takes
-- a byte itself.
use Rattle.std.specs.Prelude.{Option, None, Some}
use Prim.Native.Nat.{ℕ, suc, ◌+◌, ◌-◌, ◌≤◌, ◌<◌}
use native.Mathlib.Omega.{arith}
use mathlib.Core.Path.{◌≡◌, refl, sym, ap}
use mathlib.Core.Bool.{Bool, true, false, not, cond}
use mathlib.Core.List.{List, [], ◌∷◌}
use lib.ListN.{length, drop, length-append}
use lib.Dec.{eqb}
use Rattle.number.proofs.Clash.{clash}
use Rattle.text.specs.Utf8.{is_text}
use Rattle.format.specs.declared.Kind.{Kind}
use Rattle.format.specs.declared.Mark.{Mark}
use Rattle.format.specs.declared.Mark.TheVariants.{OfTop, OfField, OfItem}
use Rattle.format.specs.declared.Form.{Form}
use Rattle.format.specs.declared.Form.TheVariants as G
use Rattle.format.specs.declared.Flaw.{Flaw}
use Rattle.format.specs.declared.Flaw.TheVariants.{Blank, NotUtf8}
use Rattle.format.specs.Parse.{Out, fault, got, bind, sized, rest}
use Rattle.format.specs.Names.{is_empty, read_text, read_name}
use Rattle.format.specs.Kinds.{kind_at}
use Rattle.format.specs.Payload.{kind_found, read_type, front, Head, head}
use Rattle.head.specs.Code.{meeting}
use Rattle.format.proofs.Back.{never}
use Rattle.format.proofs.Local.{bind_got, raise_got, sized_got}
use Rattle.format.proofs.HeadParts.{front_takes}
use Rattle.names.specs.FieldNames.{name_in, behind, name_at}
use Rattle.names.specs.Made.{name_met}
use Rattle.names.proofs.MadeLaws.{name_same}
use Rattle.names.proofs.NameFound.{name_found_law}
use Rattle.names.specs.declared.Name.{Name}

-- how many bytes there are before a name at least
abbrev pub lead : Form → ℕ
lead G.Top = 1
lead G.Field = 1
lead G.Item = 1
lead (G.SharedField k) = 1
lead (G.SharedItem k) = 0

name_leads : (s : List ℕ) {n : List ℕ} {fs : List Flaw} {q : List ℕ} → read_name s ≡ got n fs q → 1 + (length n + length q) ≤ length s
name_leads s {n} {fs} {q} h =
    bind_got (read_text s) _ h λ b es r gs e i _. raise_got (is_empty b) Blank (got b [] r) i λ _ j.
    bind_got (sized rest s) _ e λ c es' r' gs' e' i' _. raise_got (not (is_text c)) NotUtf8 (got c [] r') i' λ _ j'.
    sized_got rest s e' λ pre v _ m es l.
    let z : n ≡ v = cc in
    let y : q ≡ r' = cc in
    rw (z, y) (omega (arith, simp length-append at (ap length es)))

plain_leads : (m : Mark) (s : List ℕ) {x : List ℕ × Kind} {fs : List Flaw} {q : List ℕ} → (bind (read_type m s) λ k r. got ([], k) [] r) ≡ got x fs q →
    length q < length s
    → 1 + (length x.0 + length q) ≤ length s
plain_leads m s {x} {fs} {q} h l = bind_got (read_type m s) _ h λ k es r gs e i _. let z : x ≡ ([], k) = cc in rw z (omega arith)

shorter : (m : Mark) (s : List ℕ) {k : Kind} {fs : List Flaw} {q : List ℕ} → read_type m s ≡ got k fs q → length q ≤ length s
shorter m [] h = never h
shorter m (b ∷ s) {k} {fs} {q} h = go (kind_at m b) h
  where
    go : (o : Option Kind) → kind_found o s ≡ got k fs q → length q ≤ suc (length s)
    go None h = never h
    go (Some l) h = let z : s ≡ q = cc in rw z (omega arith)

front_leads : (f : Form) (s : List ℕ) {x : List ℕ × Kind} {fs : List Flaw} {q : List ℕ} → front f s ≡ got x fs q → lead f + (length x.0 + length q) ≤
    length s
unfolding front
front_leads G.Top s h = plain_leads OfTop s h (front_takes G.Top s h).1
front_leads G.Item s h = plain_leads OfItem s h (front_takes G.Item s h).1
front_leads G.Field s {x} {fs} {q} h = bind_got (read_type OfField s) _ h λ k es r gs e i _. bind_got (read_name r) _ i λ n es' u gs' e' i' _.
    let z : x ≡ (n, k) = cc in
    let y : u ≡ q = cc in
    rw (z, ← y) (omega (arith, name_leads r e', shorter OfField s e))
front_leads (G.SharedField k) s {x} {fs} {q} h = bind_got (read_name s) _ h λ n es u gs e i _.
    let z : x ≡ (n, k) = cc in
    let y : u ≡ q = cc in
    rw (z, ← y) (name_leads s e)
front_leads (G.SharedItem k) s {x} {fs} {q} h =
    let z : x ≡ ([], k) = cc in
    let y : s ≡ q = cc in
    rw (z, ← y) (omega arith)

-- ---- the name at a position

meeting_leads : (f : Form) (s : List ℕ) {x : (List ℕ × Kind) × (List ℕ × Head)} {fs : List Flaw} {r : List ℕ} → meeting f s ≡ got x fs r
    → lead f + (length x.0.0 + length x.1.0) ≤ length s
meeting_leads f s {x} {fs} {r} h = bind_got (front f s) _ h λ y es q gs e i _. bind_got (head y.1 q) _ i λ d es' q' gs' e' i' _.
    let z : x ≡ (y, (q, d)) = cc in
    rw z (front_leads f s e)

-- an item of a uniform array stands where it begins
item_begins : (k : Kind) (s : List ℕ) {x : (List ℕ × Kind) × (List ℕ × Head)} {fs : List Flaw} {r : List ℕ} → meeting (G.SharedItem k) s ≡ got x fs r
    → x.1.0 ≡ s
item_begins k s {x} {fs} {r} h = bind_got (front (G.SharedItem k) s) _ h λ y es q gs e i _. bind_got (head y.1 q) _ i λ d es' q' gs' e' i' _.
    let z : x ≡ (y, (q, d)) = cc in
    let w = (front_takes (G.SharedItem k) s e).1 in
    rw z (sym w)

-- what a name found says of where it begins
apart_front : (f : Form) (s : List ℕ) {b e n : ℕ} → name_in (length s) (meeting f s) ≡ name_met b e n → (lead f ≤ b) × (b < lead f + n)
apart_front f s {b} {e} {n} found = at (meeting f s) refl found
  where
    at : (o : Out ((List ℕ × Kind) × (List ℕ × Head))) → meeting f s ≡ o → name_in (length s) o ≡ name_met b e n → (lead f ≤ b) × (b < lead f + n)
    at (fault k) y h = clash cc
    at (got x fs r) y h = go (eqb (length s - length r) 0) refl h
      where
        ends : (f : Form) → meeting f s ≡ got x fs r → length s - length x.1.0 - length x.0.0 ≡ b → length s - length r ≡ n → b ≤ n → 0 < n
            → (lead f ≤ b) × (b < lead f + n)
        ends G.Top y i j l p = (omega (arith, meeting_leads G.Top s y), omega arith)
        ends G.Field y i j l p = (omega (arith, meeting_leads G.Field s y), omega arith)
        ends G.Item y i j l p = (omega (arith, meeting_leads G.Item s y), omega arith)
        ends (G.SharedField k) y i j l p = (omega (arith, meeting_leads (G.SharedField k) s y), omega arith)
        ends (G.SharedItem k) y i j l p = (omega arith, omega (arith, ap length (item_begins k s y)))

        go : (t : Bool) → eqb (length s - length r) 0 ≡ t
            → cond t None (name_met (length s - length x.1.0 - length x.0.0) (length s - length x.1.0) (length s - length r)) ≡ name_met b e n
            → (lead f ≤ b) × (b < lead f + n)
        go true q h = clash cc
        go false q h =
            let z = name_same h in
            let w = name_found_law f s found in
            ends f y z.0 z.2 (omega (arith, w.ordered, w.before)) (omega (arith, w.onward))

pub name_apart : (f : Form) (s : List ℕ) (a : ℕ) (p : Name) → name_at f a s ≡ Some p → (lead f + a ≤ p.begin) × (p.begin < lead f + p.next)
unfolding name_at
name_apart f s a p h = at (name_in (length (drop a s)) (meeting f (drop a s))) refl h
  where
    at : (y : Option Name) → name_in (length (drop a s)) (meeting f (drop a s)) ≡ y → behind a y ≡ Some p → (lead f + a ≤ p.begin) × (p.begin < lead f + p.next)
    at None i h = clash cc
    at (Some q) i h =
        let w = apart_front f (drop a s) i in
        let z = name_same h in
        (omega (arith, w.0, z.0), omega (arith, w.1, z.0, z.2))
