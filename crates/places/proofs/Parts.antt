-- Where a part of the bytes stands.
use Prim.Native.Nat.{ℕ, ◌+◌, ◌-◌, ◌≤◌}
use native.Mathlib.Omega.{arith}
use mathlib.Core.Path.{◌≡◌, refl, sym, ap, ◌∙◌, subst}
use mathlib.Core.List.{List, [], ◌++◌, append_assoc}
use lib.ListN.{length, take, drop, length-append, take-append-drop}
use lib.Seq.{slice, take-take, drop-drop, take_at, drop_at}
use Rattle.format.proofs.Lists.{append_nil, drop_take}

-- v stands at b in s
pub record Part (s : List ℕ) (b : ℕ) (v : List ℕ) : Type 0 where
  pub pre : List ℕ
  pub post : List ℕ
  pub joined : s ≡ pre ++ (v ++ post)
  pub place : length pre ≡ b

pub part_all : (s : List ℕ) → Part s 0 s
part_all s = record { pre = []; post = []; joined = sym (append_nil s); place = refl }

pub part_to : {s : List ℕ} {b c : ℕ} {v : List ℕ} → Part s b v → b ≡ c → Part s c v
part_to {s} {b} {c} {v} p e = subst (λ n. Part s n v) e p

pub part_is : {s : List ℕ} {b : ℕ} {v u : List ℕ} → Part s b v → v ≡ u → Part s b u
part_is {s} {b} {v} {u} p e = subst (λ w. Part s b w) e p

pub part_left : {s : List ℕ} {b : ℕ} (v u : List ℕ) → Part s b (v ++ u) → Part s b v
part_left v u p = record { pre = p.pre; post = u ++ p.post; joined = rw (← append_assoc v u p.post) p.joined; place = p.place }

pub part_right : {s : List ℕ} {b : ℕ} (v u : List ℕ) → Part s b (v ++ u) → Part s (b + length v) u
part_right v u p = record {
  pre = p.pre ++ v;
  post = p.post;
  joined = rw (append_assoc p.pre v (u ++ p.post), ← append_assoc v u p.post) p.joined;
  place = rw (length-append p.pre v, p.place);
}

pub part_in : {s : List ℕ} {b : ℕ} (v : List ℕ) → Part s b v → b + length v ≤ length s
part_in {s} {b} v p = omega (arith, simp length-append at (ap length p.joined), p.place)

pub part_slice : {s : List ℕ} {b : ℕ} (e : ℕ) (v : List ℕ) → Part s b v → b + length v ≡ e → slice b e s ≡ v
part_slice {s} {b} e v p h =
    let m : length (p.pre ++ v) ≡ e = rw (length-append p.pre v) (omega (arith, p.place)) in
    rw (p.joined, ← append_assoc p.pre v p.post, take_at (p.pre ++ v) p.post e m, drop_at p.pre v b p.place)

-- two parts, one behind the other
pub slice_join : (a b e : ℕ) (s : List ℕ) → a ≤ b → b ≤ e → slice a b s ++ slice b e s ≡ slice a e s
slice_join a b e s h k =
    let m = take e s in
    let n : a + (b - a) ≡ b = omega arith in
    let l : drop a (take b s) ≡ take (b - a) (drop a m) = ap (drop a) (sym (take-take b e s k)) ∙ drop_take a b m in
    let r : drop b m ≡ drop (b - a) (drop a m) = ap (λ i. drop i m) (sym n) ∙ sym (drop-drop (b - a) a m) in
    rw (l, r) (take-append-drop (b - a) (drop a m))
