-- The place of a refusal (document 01, "The write list"): what stands before it.
use Rattle.std.specs.Prelude.{ℕ, ◌<◌, ◌≡◌, List, [], length, take}
use Rattle.frames.specs.declared.Refusal.{Refusal}
use Rattle.frames.specs.declared.Refusal.TheVariants.{ListEnds, BadFrame, EmptyName, NameUsed, NotText, TooDeep, NoneOpen, Complete, ListTooLong}
use Rattle.frames.specs.declared.Refusal.TheVariants.{FewWorkNumbers, EncodingTooLong}
use Rattle.format.specs.Limits.{depth_limit}
use Rattle.format.specs.Tree.{Tree}
use Rattle.frames.specs.WriteList.{framed, read_list}
use Rattle.frames.specs.Writer.{written, refused_at}

-- a frame begins at p, and no frame before it is faulty: the list cut there is refused with 1, at its end. (Cut inside a frame it would be refused at that
-- frame, and never with 1.)
abbrev pub AtFrame : ℕ → List ℕ → List ℕ → List ℕ → Type 0
AtFrame p list output work = (p < length list) × ((written (take p list) output work).answer ≡ refused_at ListEnds p)

-- there, but the top field is complete: the list cut there describes a tree
abbrev pub BehindTop : ℕ → List ℕ → Type 0
BehindTop p list = (p < length list) × ((t : Tree depth_limit) × (read_list depth_limit (take p list) ≡ framed t []))

abbrev pub Placed : Refusal → ℕ → List ℕ → List ℕ → List ℕ → Type 0
Placed ListEnds p list output work = p ≡ length list
Placed BadFrame p list output work = AtFrame p list output work
Placed EmptyName p list output work = AtFrame p list output work
Placed NameUsed p list output work = AtFrame p list output work
Placed NotText p list output work = AtFrame p list output work
Placed TooDeep p list output work = AtFrame p list output work
Placed NoneOpen p list output work = AtFrame p list output work
Placed Complete p list output work = BehindTop p list
Placed ListTooLong p list output work = p ≡ 0
Placed FewWorkNumbers p list output work = p ≡ 0
Placed EncodingTooLong p list output work = p ≡ 0
