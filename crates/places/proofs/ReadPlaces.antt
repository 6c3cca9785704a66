-- A place at which the reader read a field: its check finds the head that was read, and its view is the payload behind its size; and a step meets the field
-- at such a place.
use Rattle.std.specs.Prelude.{Some}
use Prim.Native.Nat.{ℕ, ◌+◌, ◌-◌, ◌≤◌, ◌<◌}
use native.Mathlib.Omega.{arith}
use mathlib.Core.Path.{◌≡◌, refl, sym, ap, ◌∙◌, subst}
use mathlib.Core.Bool.{Bool, true, false, cond}
use mathlib.Core.List.{List, [], ◌++◌}
use lib.ListN.{length, take, drop, length-append, take-append-drop}
use lib.Seq.{slice, length-take-le}
use borrow.Author.Tests.{le-ltb, ne_eqb}
use Rattle.number.specs.VarUInt.{var_uint}
use Rattle.number.proofs.NumberThenLaws.{number_all}
use Rattle.number.proofs.VarUIntLaws.{var_range}
use Rattle.format.specs.declared.Kind.{Kind}
use Rattle.format.specs.declared.Form.{Form}
use Rattle.places.specs.declared.Place.{Place}
use Rattle.format.specs.Limits.{depth_limit, length_limit}
use Rattle.format.specs.Kinds.{id, has_size}
use Rattle.format.specs.declared.Flaw.{Flaw}
use Rattle.format.specs.Parse.{got}
use Rattle.format.specs.Tree.{Node}
use Rattle.format.specs.Payload.{Head, front, head}
use Rattle.format.specs.Reader.{Standing, Named, Layout, contents, read_node, read_field, read}
use Rattle.places.specs.Places.{check, place_of, met, taken, size_length, part, view}
use Rattle.format.proofs.Lists.{append_nil}
use Rattle.format.proofs.KindLaws.{known_rt}
use Rattle.format.proofs.Local.{with_put, bind_got, whole_got}
use Rattle.format.proofs.HeadParts.{local_head, Full}
use Rattle.places.proofs.Parts.{Part, part_to, part_is, part_left, part_right, part_in, part_slice}
use Rattle.places.proofs.FieldBytes.{Stood, front_read, field_takes}
use Rattle.places.proofs.LeafShown.{behind_size}

-- ---- a place, and its payload

-- at c the field x was read: the bytes of its payload, its head, and its contents with d levels below it
pub record ReadAt (d : ℕ) (s : List ℕ) (c : Place) (x : Standing (Node (Standing (Layout d)))) : Type 0 where
  pub bytes : List ℕ
  pub above : Head
  pub above_flaws : List Flaw
  pub body_flaws : List Flaw
  pub coded : c.kind ≡ id x.0
  pub there : Part s c.start bytes
  pub ends : c.start + length bytes ≡ c.end
  pub levels : d + c.depth ≡ depth_limit
  pub deep : 1 ≤ c.depth
  pub header : head x.0 bytes ≡ got above above_flaws []
  pub body : contents (read d) above ≡ got x.1 body_flaws []

pub size_le : (k : Kind) (b : List ℕ) → size_length (Some k) b ≤ length b
size_le k b = go (has_size k)
  where
    go : (x : Bool) → cond x (taken (var_uint b)) 0 ≤ length b
    go true = number_all (λ n. n ≤ length b) 0 _ b (omega arith) (λ v n y e. (var_range b v n y e).2)
    go false = omega arith

module _ {d : ℕ} {s : List ℕ} {c : Place} {x : Standing (Node (Standing (Layout d)))} (m : length s ≤ length_limit) (i : ReadAt d s c x) where
  pub found : check s c ≡ got i.above i.above_flaws []
  unfolding check
  found =
      let l = part_in i.bytes i.there in
      rw (
        le-ltb length_limit (length s) m,
        le-ltb c.end c.start (omega (arith, i.ends)),
        le-ltb (length s) c.end (omega (arith, i.ends)),
        ne_eqb c.depth 0 (λ h. omega (arith, i.deep)),
        le-ltb depth_limit c.depth (omega (arith, i.levels)),
        i.coded,
        known_rt x.0,
        part_slice c.end i.bytes i.there i.ends,
        i.header,
      )

  pub viewed : view s c ≡ behind_size x.0 i.bytes
  unfolding view part
  viewed =
      let n = size_length (Some x.0) i.bytes in
      let l : length (take n i.bytes) ≡ n = length-take-le n i.bytes (size_le x.0 i.bytes) in
      let t : length (take n i.bytes) + length (drop n i.bytes) ≡ length i.bytes =
      sym (length-append (take n i.bytes) (drop n i.bytes)) ∙ ap length (take-append-drop n i.bytes) in
      let p = part_right (take n i.bytes) (drop n i.bytes) (part_is i.there (sym (take-append-drop n i.bytes))) in
      rw (found, i.coded, known_rt x.0, part_slice c.end i.bytes i.there i.ends)
      (part_slice c.end (drop n i.bytes) (part_to p (ap (λ k. c.start + k) l)) (omega (arith, i.ends)))

-- ---- a field that the reader reads, as a step meets it

-- in the bytes r, which stand from `at` to e; u is what is left of them
pub record MetAt (d : ℕ) (s : List ℕ) (depth e : ℕ) (f : Form) (at : ℕ) (r : List ℕ) (x : Named (Standing (Node (Standing (Layout d)))))
    (u : List ℕ) : Type 0 where
  pub place : Place
  pub name_start : ℕ
  pub flaws : List Flaw
  pub meets : met depth e f r ≡ got (x.0, place) flaws u
  pub good : ReadAt d s place x.1
  pub deeper : place.depth ≡ depth
  pub name_is : place.start - length x.0 ≡ name_start
  pub named : slice name_start place.start s ≡ x.0
  pub before : Stood f x.1.0 x.0 (slice at name_start s)
  pub begins : at ≤ name_start
  pub then_name : name_start ≤ place.start
  pub name_ends : place.start ≡ name_start + length x.0
  pub then_payload : place.start ≤ place.end
  pub some_byte : at < place.end
  pub after : Part s place.end u
  pub left : place.end + length u ≡ e

pub field_met : (d : ℕ) (s : List ℕ) (depth e : ℕ) (f : Form) (at : ℕ) (r : List ℕ) (x : Named (Standing (Node (Standing (Layout d)))))
    (fs : List Flaw) (u : List ℕ) → Full f
    → Part s at r → at + length r ≡ e → d + depth ≡ depth_limit → 1 ≤ depth → read_field (read d) f r ≡ got x fs u → MetAt d s depth e f at r x u
field_met d s depth e f at r x fs u full pr el dl dp h =
    bind_got (front f r) _ h λ y es q gs i k _. bind_got (read_node (read d) y.1 q) _ k λ t es' u' gs' i' k' _.
    bind_got (head y.1 q) _ i' λ g es'' v gs'' i'' k'' _. whole_got (contents (read d) g) v k'' λ j l.
    let z : v ≡ u = cc in
    let ex : (y.0, (y.1, t)) ≡ x = cc in
    subst (λ x. MetAt d s depth e f at r x u) ex (one y es q g es'' gs'' t i (rw z at i'') j)
  where
    one : (y : List ℕ × Kind) (es : List Flaw) (q : List ℕ) (g : Head) (gs hs : List Flaw) (t : Node (Standing (Layout d))) → front f r ≡ got y es q
        → head y.1 q ≡ got g gs u → contents (read d) g ≡ got t hs [] → MetAt d s depth e f at r (y.0, (y.1, t)) u
    one y es q g gs hs t i j k =
        let n = front_read f r i in
        let l = local_head y.1 q g gs u j in
        let o = field_takes f r full i j in
        let lr : length r ≡ length n.0 + (length y.0 + length q) = simp length-append at (ap length n.1) in
        let lq : length q ≡ length l.0 + length u = simp length-append at (ap length l.1) in
        let p₀ : Part s at (n.0 ++ (y.0 ++ q)) = part_is pr n.1 in
        let p₁ : Part s (at + length n.0) (y.0 ++ q) = part_right n.0 (y.0 ++ q) p₀ in
        let p₂ : Part s (e - length q) (l.0 ++ u) = part_to (part_is (part_right y.0 q p₁) l.1) (omega arith) in
        record {
          place = place_of depth e y.1 q u;
          name_start = at + length n.0;
          flaws = es ++ (gs ++ []);
          meets = rw (i, j, with_put gs [] _ u, with_put es (gs ++ []) _ u);
          good = record {
            bytes = l.0;
            above = g;
            above_flaws = gs;
            body_flaws = hs;
            coded = refl;
            there = part_left l.0 u p₂;
            ends = omega arith;
            levels = dl;
            deep = dp;
            header = rw (← append_nil l.0) (l.2 []);
            body = k;
          };
          deeper = refl;
          name_is = omega arith;
          named = part_slice (e - length q) y.0 (part_left y.0 q p₁) (omega arith);
          before = rw (part_slice (at + length n.0) n.0 (part_left n.0 (y.0 ++ q) p₀) refl) n.2;
          begins = omega arith;
          then_name = omega arith;
          name_ends = omega arith;
          then_payload = omega arith;
          some_byte = omega arith;
          after = part_to (part_right l.0 u p₂) (omega arith);
          left = omega arith;
        }
