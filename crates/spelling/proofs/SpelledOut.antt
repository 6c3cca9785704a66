-- The mask tied to the payload, for the page of demands: what was read, its flaws and its stopping fault, each exactly what document 01 says, with the
-- grammar of spellings (specs/Spells.antt), what breaks it (specs/Halts.antt) and the table of flaws (specs/FlawTable.antt), put together in
-- specs/MaskSaid.antt. The proofs are citations.
use Prim.Native.Nat.{ℕ, ◌+◌, ◌≤◌, ◌<◌}
use mathlib.Core.Path.{◌≡◌}
use mathlib.Core.Logic.{◌↔◌}
use mathlib.Core.Bool.{true, false}
use mathlib.Core.List.{List, [], ◌++◌}
use lib.ListN.{length}
use Rattle.number.specs.BigEndian.{Bytes}
use Rattle.format.specs.declared.Form.TheVariants.{Top}
use Rattle.format.specs.declared.Stop.{Stop}
use Rattle.format.specs.declared.Stop.TheVariants.{TooLong}
use Rattle.format.specs.Limits.{depth_limit, length_limit}
use Rattle.format.specs.declared.Flaw.{Flaw}
use Rattle.format.specs.declared.Flaw.TheVariants.{Long}
use Rattle.format.specs.Reader.{Standing, Named, Layout}
use Rattle.format.specs.Mask.{stop_value, flaws, has, sum_of, padding_of, mask, bounds_only}
use Rattle.places.specs.Show.{ShownPayload}
use Rattle.spelling.specs.Flawed.{sum_where}
use Rattle.spelling.specs.FlawTable.{HasFlaw, FlawsTold}
use Rattle.spelling.specs.Spells.{any_form, minimal_form, Spells}
use Rattle.spelling.specs.Halts.{Halts}
use Rattle.spelling.specs.MaskSaid.{MaskSaid}
use Rattle.spelling.proofs.FlawsMet as met
use Rattle.spelling.proofs.FlawsExactly as exactly
use Rattle.spelling.proofs.Spelled as spelled
use Rattle.spelling.proofs.Halted as halted
use Rattle.spelling.proofs.MaskTold as told

-- ---- every payload

-- it halts with one stopping fault, which is the whole mask whatever is asked; or it begins with a spelling of a layout, and the mask is the sum of the flaws
-- that document 01's table gives it, each once where its mode is asked, and of what is left where Padding is. No word of the reader
pub mask_told : (payload : List ℕ) → Bytes payload → MaskSaid payload (λ modes. mask modes payload)
mask_told = told.mask_told

-- and no second answer satisfies the same words
pub mask_only : (payload : List ℕ) → Bytes payload → (answer : ℕ → ℕ) → MaskSaid payload answer → (modes : ℕ) → answer modes ≡ mask modes payload
mask_only = told.mask_only

-- ---- stopping faults

-- the mask is the value of a stopping fault exactly if the payload halts with it
pub stops_exactly : (payload : List ℕ) → Bytes payload → (k : Stop) (modes : ℕ) → (mask modes payload ≡ stop_value k) ↔ Halts k payload
stops_exactly = halted.stops_exactly

-- 8 exactly if it is over the length limit
pub too_long_exactly : (payload : List ℕ) → Bytes payload → (modes : ℕ) → (mask modes payload ≡ stop_value TooLong) ↔ (length_limit < length payload)
too_long_exactly = halted.too_long_exactly

-- one of them at most, and none of a payload that begins with a spelling
pub one_stop : (payload : List ℕ) (k l : Stop) → Halts k payload → Halts l payload → k ≡ l
one_stop = halted.one_stop

pub halts_not_spells : (payload : List ℕ) (k : Stop) (x : Named (Standing (Layout depth_limit))) (w left : List ℕ)
    → Halts k payload → length payload ≤ length_limit → payload ≡ w ++ left → Spells any_form depth_limit Top x w → ⊥
halts_not_spells = halted.halts_not_spells

-- ---- spellings

-- the bounds check passes a payload exactly if it is within the length limit and begins with a spelling of a layout of at most 32 levels, with any form of
-- each VarUInt
pub bounds_exactly_spellings : (payload : List ℕ) → Bytes payload
    → (mask bounds_only payload ≡ 0) ↔ ((length payload ≤ length_limit) × (x : Named (Standing (Layout depth_limit))) × (w left : List ℕ) × (payload ≡ w ++ left)
    × Spells any_form depth_limit Top x w)
bounds_exactly_spellings = spelled.bounds_exactly_spellings

-- of one layout at most, and what is left is told
pub one_layout : (d : ℕ) (x y : Named (Standing (Layout d))) (w u left rest : List ℕ)
    → Spells any_form d Top x w → Spells any_form d Top y u → w ++ left ≡ u ++ rest → (x ≡ y) × (left ≡ rest)
one_layout = spelled.one_layout

-- its mask
pub mask_of_spelling : (x : Named (Standing (Layout depth_limit))) (w left : List ℕ) → Bytes (w ++ left) → length (w ++ left) ≤ length_limit
    → Spells any_form depth_limit Top x w → (t : FlawsTold x w) × ((modes : ℕ) → mask modes (w ++ left) ≡ sum_where modes t.so flaws + padding_of modes left)
mask_of_spelling = told.spelling_told

-- ---- what was read

-- the mask is the sum of the flaws that were met and of what is left
pub mask_of_shown : (payload : List ℕ) (shown : ShownPayload payload) (modes : ℕ)
    → mask modes payload ≡ sum_of modes shown.flaws flaws + padding_of modes shown.left
mask_of_shown = met.mask_of_shown

-- each but 64 was met exactly if some field of the layout shown has what the table says
pub met_exactly : (payload : List ℕ) (shown : ShownPayload payload) (f : Flaw) → (f ≡ Long → ⊥)
    → (has f shown.flaws ≡ true) ↔ HasFlaw f depth_limit (shown.kind, shown.layout)
met_exactly = exactly.met_exactly

-- 64 was not met exactly if every VarUInt is in its minimal form
pub long_exactly : (payload : List ℕ) → Bytes payload → (shown : ShownPayload payload)
    → (has Long shown.flaws ≡ false)
    ↔ ((w : List ℕ) × (payload ≡ w ++ shown.left) × Spells minimal_form depth_limit Top ([], (shown.kind, shown.layout)) w)
long_exactly = spelled.long_exactly
