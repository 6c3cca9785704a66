-- Of any payload, at fault or not, and any place, forged or not: a field that a step gives lies in its container, behind the last one, one deeper, and its
-- place passes the check.
use Rattle.std.specs.Prelude.{Option, Some, Ok}
use Prim.Native.Nat.{ℕ, ◌+◌, ◌-◌, ◌≤◌}
use native.Mathlib.Omega.{arith}
use mathlib.Core.Path.{◌≡◌, refl, ap, subst}
use mathlib.Core.List.{List, [], ◌++◌}
use lib.ListN.{length, length-append}
use lib.Seq.{slice, length-slice}
use Rattle.format.specs.declared.Kind.{Kind}
use Rattle.format.specs.declared.Form.{Form}
use Rattle.places.specs.declared.Place.{Place}
use Rattle.format.specs.Limits.{depth_limit, length_limit}
use Rattle.format.specs.Kinds.{id}
use Rattle.format.specs.declared.Flaw.{Flaw}
use Rattle.format.specs.Parse.{got}
use Rattle.format.specs.Payload.{Head, head}
use Rattle.places.specs.Places.{checked, place_of, met, step_of, from, step}
use Rattle.places.specs.Made.{step_met}
use Rattle.format.proofs.Lists.{append_nil}
use Rattle.format.proofs.KindLaws.{known_rt}
use Rattle.format.proofs.HeadParts.{local_head, front_takes}
use Rattle.places.proofs.PassedPlaces.{check_within, slice_part}
use Rattle.places.proofs.Parts.{Part, part_to, part_is, part_left, part_right, part_slice}
use Rattle.places.proofs.StepFields.{met_inv, in_inv, step_inv, in_along}

pub record Stepped (s : List ℕ) (c : Place) (l : Option Place) (q : Place) (name : ℕ) : Type 0 where
  pub good : checked s q ≡ Ok tt
  pub inside : c.start ≤ name
  pub behind : (p : Place) → l ≡ Some p → p.end ≤ name
  pub then_payload : name ≤ q.start
  pub order : q.start ≤ q.end
  pub within : q.end ≤ c.end
  pub deeper : q.depth ≡ c.depth + 1

-- ---- a field met in a part t that stands in s from `at` to e

-- a place whose bytes are v passes the check where v is a payload of its kind
passes : (s : List ℕ) (p : Place) (k : Kind) (v : List ℕ) (h : Head) (gs : List Flaw) → length s ≤ length_limit → p.start ≤ p.end → p.end ≤ length s
    → 1 ≤ p.depth → p.depth ≤ depth_limit
    → p.kind ≡ id k → slice p.start p.end s ≡ v → head k v ≡ got h gs [] → checked s p ≡ Ok tt
unfolding checked
passes s p k v h gs short order inside deep shallow kind bytes e =
    rw (check_within s p short order inside (λ z. omega arith) shallow, kind, known_rt k, bytes, e)

met_good : (s : List ℕ) (d e at : ℕ) (f : Form) (t : List ℕ) (q : Place) (n : ℕ) → length s ≤ length_limit → e ≤ length s
    → 1 ≤ d → d ≤ depth_limit → Part s at t → at + length t ≡ e
    → step_of (met d e f t) ≡ step_met q n → checked s q ≡ Ok tt
met_good s d e at f t q n short inside deep shallow there ends z = met_inv d e f t q n z λ y es r j h gs v j' pp nn.
    let a = (front_takes f t j).0 in
    let b = local_head y.1 r h gs v j' in
    let la : length t ≡ length a.0 + (length y.0 + length r) = simp length-append at (ap length a.1) in
    let lb : length r ≡ length b.0 + length v = simp length-append at (ap length b.1) in
    let p₁ : Part s (at + length a.0) (y.0 ++ r) = part_right a.0 (y.0 ++ r) (part_is there a.1) in
    let p₂ : Part s (e - length r) (b.0 ++ v) = part_to (part_is (part_right y.0 r p₁) b.1) (omega arith) in
    let bytes = part_slice (e - length v) b.0 (part_left b.0 v p₂) (omega arith) in
    let whole : head y.1 b.0 ≡ got h gs [] = subst (λ c. head y.1 c ≡ got h gs []) (append_nil b.0) (b.2 []) in
    subst (λ p. checked s p ≡ Ok tt) pp (passes s (place_of d e y.1 r v) y.1 b.0 h gs short (omega arith) (omega arith) deep shallow refl bytes whole)

-- ---- a step

last_first : (b : ℕ) (l : Option Place) (n : ℕ) → from b l ≤ n → (p : Place) → l ≡ Some p → p.end ≤ n
last_first b l n h p e = subst (λ m. from b m ≤ n) e h

pub any_step : (s : List ℕ) (c : Place) (l : Option Place) (q : Place) (name : ℕ) → step s c l ≡ step_met q name → Stepped s c l q name
any_step s c l q n z = step_inv s c l q n z λ f b i h. in_inv s c f b (from b l) q n h λ first last shallow m.
    let w = in_along s c f b (from b l) q n i.inside h in
    let there = slice_part s (from b l) c.end last i.inside in
    let k = length-slice (from b l) c.end s i.inside in
    record {
      good = met_good s (c.depth + 1) c.end (from b l) f (slice (from b l) c.end s) q n
          i.short i.inside (omega arith) shallow there (omega arith) m;
      inside = omega (arith, i.first, w.first);
      behind = last_first b l n w.first;
      then_payload = w.name;
      order = w.order;
      within = w.within;
      deeper = w.deep;
    }
