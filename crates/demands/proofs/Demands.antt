-- What the owner demands, sentence by sentence, each as a theorem about the definitions of documents 01 and 02. The proofs are citations: what stands
-- behind them is in the proofs/ of the crates that the `use` lines below name. What the calls have to do with it, their contracts say: each is one
-- equation with a definition.
use Rattle.std.specs.Prelude.{Ok, Err, Option, None, Some}
use Prim.Native.Nat.{ℕ, suc, ◌+◌, ◌-◌, ◌%◌, ◌^◌, ◌≤◌, ◌<◌}
use mathlib.Core.Path.{◌≡◌}
use mathlib.Core.Bool.{Bool, true, false}
use mathlib.Core.Logic.{◌↔◌}
use mathlib.Core.Option as math
use mathlib.Core.Option.{some}
use mathlib.Core.List.{List, [], ◌++◌}
use lib.ListN.{length, take, drop}
use lib.Seq.{slice}
use lib.Ieee.{binary32, binary64, of_bits}
use Rattle.number.specs.BigEndian.{All, Bytes}
use Rattle.number.specs.VarUInt.{var_uint, whole, cut}
use Rattle.number.proofs.MissingLaws as missing
use Rattle.number.proofs.PinnedVarUInts as numbers-pinned
use Rattle.float.specs.Width.{is_nan32, is_nan64, widen}
use Rattle.format.specs.declared.Kind.{Kind}
use Rattle.format.specs.declared.Form.TheVariants as Fo
use Rattle.format.specs.declared.Stop.{Stop}
use Rattle.format.specs.declared.Stop.TheVariants.{TooLong}
use Rattle.places.specs.declared.Place.{Place}
use Rattle.frames.specs.declared.Refusal.{Refusal}
use Rattle.frames.specs.declared.Refusal.TheVariants.{ListEnds}
use Rattle.format.specs.Limits.{depth_limit, length_limit}
use Rattle.format.specs.declared.Flaw.{Flaw}
use Rattle.format.specs.declared.Flaw.TheVariants.{Long}
use Rattle.format.specs.Parse.{fill}
use Rattle.format.specs.Tree.{Tree, object}
use Rattle.format.specs.Encoding.{encoding, sizes_of, WithinLimits}
use Rattle.format.specs.Reader.{Standing, Named, Layout, read, tree_of}
use Rattle.format.specs.Mask.{stop_value, flaws, has, sum_of, padding_of, mask, bounds_only, strict}
use Rattle.places.specs.Places.{checked, top, step, name_view, part, view, lookup, look_from}
use Rattle.frames.specs.WriteList.{framed, read_list, read_frames, until_close}
use Rattle.frames.specs.Writer.{refusal_number, zeros, written, refused_at}
use Rattle.frames.specs.Program.{program}
use Rattle.places.specs.Show.{Shown, ShownPayload}
use Rattle.places.specs.Stepping.{field_at, place_at, Agree, Event, steps_from, stepping, events, IsFirst}
use Rattle.places.specs.Siblings.{Inside}
use Rattle.places.specs.Views.{Seen}
use Rattle.places.specs.Made.{step_met}
use Rattle.format.proofs.Spelling as spelling
use Rattle.places.proofs.Walk as walk
use Rattle.places.proofs.Siblings as siblings
use Rattle.places.proofs.Views as views
use Rattle.places.proofs.Bounds as bounds
use Rattle.float.proofs.Numbers as numbers
use Rattle.spelling.specs.Flawed.{sum_where}
use Rattle.spelling.specs.FlawTable.{HasFlaw, FlawsTold}
use Rattle.spelling.specs.Spells.{any_form, minimal_form, Spells}
use Rattle.spelling.specs.Halts.{Halts}
use Rattle.spelling.specs.MaskSaid.{MaskSaid}
use Rattle.spelling.proofs.SpelledOut as spelled
use Rattle.spelling.proofs.SpelledNumbers as spelled-numbers
use Rattle.hexadecimal.specs.Typing.{start}
use Rattle.answers.specs.Answer.{answered}
use Rattle.program.specs.Input.{fed_parts, joined}
use Rattle.program.proofs.InParts as programs
use Rattle.sending.specs.Sent.{sent}
use Rattle.sending.proofs.Refusals as calls
use Rattle.read.proofs.AnyStep.{Stepped}
use Rattle.read.proofs.AnyStep as steps
use Rattle.frames.specs.Describe.{list_of}
use Rattle.frames.specs.Refused.{Placed}
use Rattle.frames.proofs.Answers.{Wrote}
use Rattle.frames.proofs.Answers as answers
use Rattle.frames.proofs.Writable.{success}
use Rattle.frames.proofs.Writable as writable
use Rattle.frames.proofs.WrittenAs.{WrittenAs}
use Rattle.frames.proofs.WrittenAs as written_as
use Rattle.frames.proofs.RefusedPlaces as refusals
use Rattle.frames.proofs.FirstFaulty as faulty
use Rattle.frames.proofs.Refusals as frames

-- ---- 1. "Whatever bytes, modes, place or write list arrive, every public call ends, reads only what it was lent, and refuses what is bad by itself."
-- That a call ends, stays inside its slices and has this answer for every input is what the prover shows of a function that has no `requires`.
-- tests/contracts, a part of the gate, lists every public call with its contract, and fails on a `requires`, on a missing `ensures`, and on a call that is not
-- named here:
--   validate::validate                                  r ≡ mask modes payload                                        crates/validate/src/lib.rt
--   validate::validate_with                             answer, table ≡ mask_with modes payload table
--   Place::top                                          r ≡ top payload                                               crates/places/src/lib.rt
--   open::checked                                       r ≡ checked payload place                                     crates/open/src/lib.rt
--   read::step, lookup                                  r ≡ step payload container last, ...                          crates/read/src/lib.rt
--   views::part                                         r ≡ part payload place                                        crates/views/src/lib.rt
--   views::view, name_view                              r.now ≡ view payload place, name_view payload container last
--   values::double, signed, unsigned, ticks             r ≡ double payload place, ...                                 crates/values/src/lib.rt
--   write::write                                        answer, output, work ≡ written list output work               crates/write/src/lib.rt
--   answers::whole                                      text ≡ program input ++ what stood behind it                  crates/answers/src/lib.rt
--   answers::answer                                     text, output, work ≡ answered typing list text output work
-- The calls for C answer the same in numbers (crates/cabi/src/lib.rt; the numbers are in the specs/ of replies and place_replies), and what is lent for an
-- answer holds that answer or what it held:
--   ajuqvane_validate, ajuqvane_validate_with, ajuqvane_check, ajuqvane_top, ajuqvane_step, ajuqvane_view, ajuqvane_lookup, ajuqvane_double, ajuqvane_signed,
--   ajuqvane_unsigned, ajuqvane_ticks, ajuqvane_write, ajuqvane_varuint, ajuqvane_is_text, ajuqvane_are_equal, ajuqvane_float32_holds, ajuqvane_widen
-- What these calls share, crate by crate from the bottom up:
--   number::read, read32, read64, minus_plus_one, ticks; encode::length, put; text::is_text, are_equal;
--   float::float32_holds, is_nan32, is_nan64, widen, narrow, of_integer; format::known_of, flags_of, kind_at, id_of, is_bare, stop_value, class_of;
--   faults::no_faults, note, has, sum_of; run::join, add, is_uniform; front::span_of, text_of, front_of, name_of; frames::refusal_number; Refusal::at;
--   hexadecimal::character_of, nothing, feed;
--   container::container_id, type_flags, shared_flags, size_of, pack, size_in, width_in, shared_in, is_uniform_in, store, number_at, clear;
--   leaves::fixed, positive, negative, float64, text_leaf, custom_by_id, custom_by_name; printing::put_refused, put_encoding;
--   head::fixed_size, meet_of, head_of; Place::of, places::placed; names::name_at;
--   entries::entry, begin_of, length_of, lesser, clear; compare::compare, is_upto, ascends; pairs::is_first, first_twin;
--   order::arrange; tables::second, are_fit; divide::first_twin;
--   passing::name_at; select::name_at, first_twin; notes::held, add, first_twin; used::place_of; naming::note, ended;
--   frame::kind_of, name_of, name_at, name_end, front_at, leaf_of, leaf_at, leaf_end, bits_of; open::open_place; settle::decided; measure::measure;
--   output::copy, bits_at, final_id;
--   replies::number_of, place_code, told, varuint, number, signed, ticks;
--   contents::close, end_object, end_array, item_size, check_sizes; checks::check; named::check, check_with;
--   place_replies::after_of, checked, top, step, part, found;
--   basic_calls::varuint, is_text, are_equal, float32_holds; place_calls::check, top, step, view, lookup; value_calls::double, signed, unsigned, ticks;
--   sending::send
-- ajuqvane_write_list is the program: it reads, calls `hexadecimal::feed` and `answers::answer`, and writes; no contract can say what is read or written.
-- "A refused read writes nothing": none of the reading calls is lent anything to write to. The calls for C write their answer's numbers only (`told`,
-- crates/replies/specs/Reply.antt).

-- 1. "a refused write gives its number and place, leaves the output untouched and zeroes the work numbers."
pub refused_leaves : (list output work : List ℕ) (r : Refusal) (p : ℕ) → (written list output work).answer ≡ refused_at r p
    → ((written list output work).output ≡ output) × ((written list output work).work ≡ zeros (length work))
refused_leaves = answers.refused_leaves

-- 1. and so for C, whenever the answer is not 0, also where no number is lent for it
pub refused_call_leaves : (list output work answer : List ℕ) → ((sent list output work answer).code ≡ 0 → ⊥)
    → ((sent list output work answer).output ≡ output) × ((sent list output work answer).work ≡ zeros (length work))
refused_call_leaves = calls.refused_leaves

-- 1. its place: the list's length for 1; 0 for 9, 10 and 11; otherwise the first byte of a frame, and no frame before it is faulty
pub refusal_placed : (list output work : List ℕ) (r : Refusal) (p : ℕ) → (written list output work).answer ≡ refused_at r p → Placed r p list output work
refusal_placed = refusals.refusal_placed

-- 1. and it is the first faulty frame: where frames are not faulty so far, none of them is refused, whatever follows
pub refused_no_earlier : (output work list more : List ℕ) → (written list output work).answer ≡ refused_at ListEnds (length list)
    → (r : Refusal) (p : ℕ) → (written (list ++ more) output work).answer ≡ refused_at r p → refusal_number r ≤ 8 → length list ≤ p
refused_no_earlier = faulty.refused_no_earlier

-- ---- 2. "For every input and mode set the mask is the one that document 01 derives."
-- The contract of `validate` is the definition `mask`. `MaskSaid` is what 01 says of it, told of the payload without the reader: it halts with one stopping
-- fault (Halts.antt: a spelled beginning, and then what breaks), which is the whole mask; or it begins with a spelling of a layout (Spells.antt), and the mask
-- is the sum of what 01's table (FlawTable.antt) says of it, each once where its mode is asked, and of what is left.
-- It holds of the mask, and of no other answer
pub mask_told : (payload : List ℕ) → Bytes payload → MaskSaid payload (λ modes. mask modes payload)
mask_told = spelled.mask_told

pub mask_only : (payload : List ℕ) → Bytes payload → (answer : ℕ → ℕ) → MaskSaid payload answer → (modes : ℕ) → answer modes ≡ mask modes payload
mask_only = spelled.mask_only

-- 2. the mask is a stopping fault's exactly if the payload halts with it; 8 exactly if it is too long; no payload halts with two,
-- nor halts and begins with a spelling
pub stops_exactly : (payload : List ℕ) → Bytes payload → (k : Stop) (modes : ℕ) → (mask modes payload ≡ stop_value k) ↔ Halts k payload
stops_exactly = spelled.stops_exactly

pub too_long_exactly : (payload : List ℕ) → Bytes payload → (modes : ℕ) → (mask modes payload ≡ stop_value TooLong) ↔ (length_limit < length payload)
too_long_exactly = spelled.too_long_exactly

pub one_stop : (payload : List ℕ) (k l : Stop) → Halts k payload → Halts l payload → k ≡ l
one_stop = spelled.one_stop

pub halts_not_spells : (payload : List ℕ) (k : Stop) (x : Named (Standing (Layout depth_limit))) (w left : List ℕ)
    → Halts k payload → length payload ≤ length_limit → payload ≡ w ++ left → Spells any_form depth_limit Fo.Top x w → ⊥
halts_not_spells = spelled.halts_not_spells

-- 2. the bounds check passes exactly the spellings of layouts of at most 32 levels, with any form of each VarUInt and something after them,
-- within the length limit; of one layout
pub bounds_exactly_spellings : (payload : List ℕ) → Bytes payload
    → (mask bounds_only payload ≡ 0) ↔ ((length payload ≤ length_limit) × (x : Named (Standing (Layout depth_limit))) × (w left : List ℕ) × (payload ≡ w ++ left)
    × Spells any_form depth_limit Fo.Top x w)
bounds_exactly_spellings = spelled.bounds_exactly_spellings

pub one_layout : (d : ℕ) (x y : Named (Standing (Layout d))) (w u left rest : List ℕ)
    → Spells any_form d Fo.Top x w → Spells any_form d Fo.Top y u → w ++ left ≡ u ++ rest → (x ≡ y) × (left ≡ rest)
one_layout = spelled.one_layout

pub mask_of_spelling : (x : Named (Standing (Layout depth_limit))) (w left : List ℕ) → Bytes (w ++ left) → length (w ++ left) ≤ length_limit
    → Spells any_form depth_limit Fo.Top x w → (t : FlawsTold x w) × ((modes : ℕ) → mask modes (w ++ left) ≡ sum_where modes t.so flaws + padding_of modes left)
mask_of_spelling = spelled.mask_of_spelling

-- 2. of what the calls show of a payload that passes the bounds check: the mask is the sum over the flaws met and what is left; each flaw but 64 was met
-- exactly if a field of the layout has what 01's table says, and 64 was not met exactly if every VarUInt is in its minimal form
pub mask_of_shown : (payload : List ℕ) (shown : ShownPayload payload) (modes : ℕ)
    → mask modes payload ≡ sum_of modes shown.flaws flaws + padding_of modes shown.left
mask_of_shown = spelled.mask_of_shown

pub met_exactly : (payload : List ℕ) (shown : ShownPayload payload) (f : Flaw) → (f ≡ Long → ⊥)
    → (has f shown.flaws ≡ true) ↔ HasFlaw f depth_limit (shown.kind, shown.layout)
met_exactly = spelled.met_exactly

pub long_exactly : (payload : List ℕ) → Bytes payload → (shown : ShownPayload payload)
    → (has Long shown.flaws ≡ false)
    ↔ ((w : List ℕ) × (payload ≡ w ++ shown.left) × Spells minimal_form depth_limit Fo.Top ([], (shown.kind, shown.layout)) w)
long_exactly = spelled.long_exactly

-- 2. a stopping fault is the whole mask, whatever is asked; bits that are no mode's are ignored
pub stop_is_whole : (payload : List ℕ) → (mask bounds_only payload ≡ 0 → ⊥) → (modes : ℕ) → mask modes payload ≡ mask bounds_only payload
stop_is_whole = spelling.stop_is_whole

pub other_bits : (modes : ℕ) (payload : List ℕ) → mask modes payload ≡ mask (modes % 8) payload
other_bits = spelling.other_bits

-- 2. "Every field reached from the top of a payload that passes the bounds check shows the kind, name and value that the layout gives it."
pub every_field_shown : (payload : List ℕ) → mask bounds_only payload ≡ 0 → ShownPayload payload
every_field_shown = walk.every_field_shown

-- 2. path by path: steps reach a place exactly where the tree has a field, the name met is its name, and the place shows its kind and value
pub every_field_reached : (payload : List ℕ) (shown : ShownPayload payload) (path : List ℕ)
    → Agree payload (field_at path depth_limit ([], (shown.kind, shown.layout))) (place_at path payload ([], shown.place))
every_field_reached = walk.every_field_reached

-- 2. its view is a part of the payload, from behind its size to the field's end: a leaf's value, a container's count and shared byte and contents. The name
-- that a step meets is a part of it too. A refused view is empty
pub every_view : (payload : List ℕ) → mask bounds_only payload ≡ 0 → (t : Place) → top payload ≡ Ok t
    → (path name : List ℕ) (c : Place) → place_at path payload ([], t) ≡ Some (name, c) → Seen path payload c
every_view = views.every_view

pub refused_view : (payload : List ℕ) (place : Place) (fault : Stop) → checked payload place ≡ Err fault
    → (part payload place ≡ Err fault) × (view payload place ≡ [])
refused_view = views.refused_view

pub name_viewed : (payload : List ℕ) (c : Place) (last : Option Place) (q : Place) (a : ℕ) → step payload c last ≡ step_met q a
    → name_view payload c last ≡ slice a q.start payload
name_viewed = views.name_viewed

pub refused_name_view : (payload : List ℕ) (c : Place) (last : Option Place) → ((q : Place) (a : ℕ) → step payload c last ≡ step_met q a → ⊥)
    → name_view payload c last ≡ []
refused_name_view = views.refused_name_view

-- 2. floats by exact value with the sign of zero kept: widening keeps the number, and patterns that are no NaN stand for different numbers, the two zeros too
pub widening_keeps : (b : ℕ) → b < 2 ^ 32 → is_nan32 b ≡ false → of_bits binary64 (widen b) ≡ of_bits binary32 b
widening_keeps = numbers.widening_keeps

pub numbers_apart : (a b : ℕ) → a < 2 ^ 64 → b < 2 ^ 64 → is_nan64 a ≡ false → is_nan64 b ≡ false → of_bits binary64 a ≡ of_bits binary64 b → a ≡ b
numbers_apart = numbers.numbers_apart

-- 2. "From every write list that is not refused the writer makes the encoding of the described tree, and strict validation passes it."
-- `Wrote` says: the tree that the list describes, that it is within the limits, that the output begins with its encoding and is untouched behind it, that the
-- work numbers are the containers' sizes in order of opening and zero behind them, and that the encoding has strict mask 0 and is read as that tree
pub written_is_encoding : (list output work : List ℕ) (n : ℕ) → Bytes list → (written list output work).answer ≡ Ok n
    → Wrote list output work n (written list output work)
written_is_encoding = answers.written_is_encoding

-- 2. a list that describes a tree is written, where it is no longer than a list may be, the encoding no longer than a payload may be, and there is room
pub described_written : (list : List ℕ) (t : Tree depth_limit) → read_list depth_limit list ≡ framed t [] → length list ≤ length_limit
    → length (encoding depth_limit t) ≤ length_limit
    → (output work : List ℕ) → length (encoding depth_limit t) ≤ length output → length (sizes_of depth_limit t) ≤ length work
    → WrittenAs t output work (written list output work)
described_written = written_as.described_list_written

-- 2. every tree within the limits is described by a list, `list_of`, and so written with the same provisos
pub tree_written : (t : Tree depth_limit) → WithinLimits t → length (list_of depth_limit t) ≤ length_limit
    → (output work : List ℕ) → length (encoding depth_limit t) ≤ length output → length (sizes_of depth_limit t) ≤ length work
    → written (list_of depth_limit t) output work ≡ success t output work
tree_written = writable.tree_written

-- 2. and distinct trees give distinct outputs, whatever stands behind them
pub outputs_apart : (t u : Tree depth_limit) → WithinLimits t → WithinLimits u → (a b : List ℕ)
    → encoding depth_limit t ++ a ≡ encoding depth_limit u ++ b → t ≡ u
outputs_apart = writable.outputs_apart

-- 2. the program: what `answer` puts into the text, after input in any parts, is what `program` prints of the whole input, and nothing behind it is touched
pub what_is_printed : (parts : List (List ℕ)) (list text output work : List ℕ) → length (joined parts) < 2 ^ 64 → length list ≡ 65537
    → (answered (fed_parts parts start list).typing (fed_parts parts start list).list text output work).text ≡ program (joined parts)
    ++ drop (length (program (joined parts))) text
what_is_printed = programs.what_is_printed

-- ---- 3. "Strict passes a payload exactly if it is the encoding of some tree within the limits;"
pub strict_exactly_encodings : (payload : List ℕ) → Bytes payload
    → (mask strict payload ≡ 0) ↔ ((t : Tree depth_limit) × WithinLimits t × (payload ≡ encoding depth_limit t))
strict_exactly_encodings = spelling.strict_exactly_encodings

-- 3. "two passed payloads are byte-identical exactly if their ordered trees are equal;"
pub equal_bytes_equal_trees : (one other : List ℕ) → Bytes one → Bytes other → mask strict one ≡ 0 → mask strict other ≡ 0
    → (one ≡ other) ↔ (tree_of one ≡ tree_of other)
equal_bytes_equal_trees = spelling.equal_bytes_equal_trees

-- 3. every tree within the limits has an encoding that passes under every mode set, and the tree read from it is that tree
pub encoding_passes : (t : Tree depth_limit) → WithinLimits t
    → ((modes : ℕ) → mask modes (encoding depth_limit t) ≡ 0) × (tree_of (encoding depth_limit t) ≡ some t)
encoding_passes = spelling.encoding_passes

-- 3. "and in any payload that the bounds check passes, stepping from the top meets each field of its tree once, in order,"
pub walk_meets_each_once : (payload : List ℕ) → mask bounds_only payload ≡ 0
    → (i : ShownPayload payload) × (stepping depth_limit payload i.place ≡ events depth_limit 2 (i.kind, i.layout))
walk_meets_each_once payload h = let i = walk.every_field_shown payload h in (i, walk.walk_meets_each_once payload i)

-- 3. "wholly inside its container, no two siblings overlapping.", at every place that steps reach: `Inside` says that steps there meet one place for each
-- field, that each field lies in the contents and its payload in the container, that no two overlap, neither whole nor as their places say, and that nothing
-- between them is left out
pub stepping_inside : (payload : List ℕ) → mask bounds_only payload ≡ 0 → (t : Place) → top payload ≡ Ok t
    → (path name : List ℕ) (c : Place) → place_at path payload ([], t) ≡ Some (name, c) → Inside path payload c
stepping_inside = siblings.stepping_inside

-- ---- and of any payload, at fault or not, and any place, forged or not: a field that a step gives lies in its container, behind the last one, one deeper,
-- and its place passes the check
pub any_step : (payload : List ℕ) (c : Place) (last : Option Place) (q : Place) (name : ℕ)
    → step payload c last ≡ step_met q name → Stepped payload c last q name
any_step = steps.any_step

-- ---- lookup, of every object that is shown, and any name: it finds the first field of that name, and "not there" exactly if there is none
module _ (d : ℕ) (payload : List ℕ) (c : Place) (k : Kind) (xs : List (Named (Standing (Layout d))))
    (i : Shown (suc d) payload c (k, object xs)) (name : List ℕ) where
  pub lookup_finds_first : (q : Place) → (lookup payload c name ≡ Ok (Some q)) ↔ IsFirst name q i.node.fields.places xs
  lookup_finds_first = walk.lookup_finds_first d payload c k xs i name

  pub not_there_exactly : (lookup payload c name ≡ Ok None) ↔ All (λ x. x.0 ≡ name → ⊥) xs
  not_there_exactly = walk.not_there_exactly d payload c k xs i name

-- ---- the numbers that bound a recursion in the definitions are large enough: more of them change nothing
pub fields_enough : (d n : ℕ) (s : List ℕ) → length s ≤ n → fill (read d Fo.Field) n s ≡ fill (read d Fo.Field) (length s) s
fields_enough = bounds.fields_enough

pub shared_fields_enough : (d : ℕ) (k : Kind) (n : ℕ) (s : List ℕ) → length s ≤ n
    → fill (read d (Fo.SharedField k)) n s ≡ fill (read d (Fo.SharedField k)) (length s) s
shared_fields_enough = bounds.shared_fields_enough

pub look_enough : (payload : List ℕ) (c : Place) (name : List ℕ) (n : ℕ) → c.end < n
    → look_from n payload c name None ≡ look_from (suc c.end) payload c name None
look_enough = bounds.look_enough

pub steps_enough : (payload : List ℕ) (c : Place) (below : Place → List Event) (n : ℕ) → c.end < n
    → steps_from below n payload c None ≡ steps_from below (suc c.end) payload c None
steps_enough = bounds.steps_from_enough

pub frames_enough : (d : ℕ) (names : List (List ℕ) → math.Option (List (List ℕ))) (n : ℕ) (used : List (List ℕ)) (s : List ℕ) → length s ≤ n
    → until_close (λ u. read_frames d (names u)) n used s ≡ until_close (λ u. read_frames d (names u)) (length s) used s
frames_enough = frames.frames_enough

-- ---- document 02, M-107: "for a cut value, how many of the bytes its first byte calls for are still missing": of a value that is cut in two, as many as were
-- cut off
pub cut_off : (held more : List ℕ) (v : ℕ) (minimal : Bool) → 1 ≤ length held → 1 ≤ length more
    → var_uint (held ++ more) ≡ whole v (length held + length more) minimal → var_uint held ≡ cut (length more)
cut_off = missing.cut_off

-- "(one for an empty rest)"
pub empty_rest : var_uint [] ≡ cut 1
empty_rest = numbers-pinned.nothing_there

-- at least one is missing, and a value has 9 bytes at most
pub missing_range : (held : List ℕ) (missing : ℕ) → var_uint held ≡ cut missing → (1 ≤ missing) × (length held + missing ≤ 9)
missing_range = missing.missing_range

-- "and for a whole value also whether it is minimal.": exactly if no shorter form holds the value
pub minimal_exactly : (s : List ℕ) (v n : ℕ) (minimal : Bool) → Bytes s → var_uint s ≡ whole v n minimal → (minimal ≡ true) ↔ minimal_form v (take n s)
minimal_exactly = spelled-numbers.minimal_exactly

-- "Our receiver must know how many bytes to wait for.": as many as are missing, whichever they are, make it whole once a first byte is held
pub missing_joined : (held more : List ℕ) (missing : ℕ) → var_uint held ≡ cut missing → 1 ≤ length held → missing ≤ length more
    → (v : ℕ) × (minimal : Bool) × (var_uint (held ++ more) ≡ whole v (length held + missing) minimal)
missing_joined = missing.missing_joined

-- fewer do not
pub fewer_joined : (held more : List ℕ) (missing : ℕ) → var_uint held ≡ cut missing → length more < missing
    → var_uint (held ++ more) ≡ cut (missing - length more)
fewer_joined = missing.fewer_joined

-- it never waits past the end of the value, whatever comes
pub never_too_many : (held more : List ℕ) (missing v n : ℕ) (minimal : Bool) → var_uint held ≡ cut missing → var_uint (held ++ more) ≡ whole v n minimal
    → length held + missing ≤ n
never_too_many = missing.never_too_many

-- and it is told to wait again only if it held no byte before
pub told_again : (held more : List ℕ) (missing again : ℕ) → var_uint held ≡ cut missing → missing ≤ length more → var_uint (held ++ more) ≡ cut again
    → held ≡ []
told_again = missing.told_again
