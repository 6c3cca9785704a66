-- What the code answers of the pieces of a frame, by what stands behind a position of the list.
use Rattle.std.specs.Prelude.{ℕ, ◌-◌, true, false, cond, List, length, take, drop, ltb, Option, None, Some, Result, Err, Ok}
use Rattle.number.specs.BigEndian.{from_bytes}
use Rattle.format.specs.declared.Kind.{Kind}
use Rattle.format.specs.declared.Flaw.TheVariants.{Blank, Long, NotUtf8}
use Rattle.format.specs.declared.Stop.{Stop}
use Rattle.faults.specs.declared.Modes.{Modes}
use Rattle.faults.specs.Noted.{nothing}
use Rattle.head.specs.Code.{head_at}
use Rattle.frames.specs.declared.Refusal.TheVariants.{BadFrame, EmptyName, NotText}
use Rattle.frames.specs.declared.Refusal.{Refusal}
use Rattle.format.specs.Kinds.{id, known}
use Rattle.format.specs.Mask.{has}
use Rattle.format.specs.Parse.{Out, fault, got}
use Rattle.format.specs.Names.{read_name}
use Rattle.format.specs.Payload.{payload}
use Rattle.format.specs.Tree.{Leaf}
use Rattle.format.specs.Encoding.{leaf_kind, leaf_payload}
use Rattle.frames.specs.WriteList.{Frames, refused, framed}
use Rattle.frames.specs.FramePieces.{leaf_by}
use Rattle.frame.specs.declared.Name.{Name}
use Rattle.frame.specs.declared.LeafFrame.{LeafFrame}
use Rattle.frame.specs.Made.{name_read, leaf_read}
use Rattle.leaves.specs.declared.Heading.TheVariants as H
use Rattle.leaves.specs.declared.Heading.{Heading}

abbrev pub all_modes : Modes
all_modes = record { names = true; format = true }

abbrev pub no_modes : Modes
no_modes = record { names = false; format = false }

-- ---- a name

abbrev pub name_by : ℕ → Out (List ℕ) → Result Name Refusal
name_by total (fault k) = Err BadFrame
name_by total (got n fs r) =
    cond (has Long fs) (Err BadFrame)
    (cond (has Blank fs) (Err EmptyName)
    (cond (has NotUtf8 fs) (Err NotText)
    (name_read (total - length r - length n) (total - length r))))

-- the name whose length stands first
unfoldable pub name_of : List ℕ → Result Name Refusal
name_of s = name_by (length s) (read_name s)

-- the name whose length stands at a position
unfoldable pub name_at : List ℕ → ℕ → Result Name Refusal
name_at s at = name_by (length s) (read_name (drop at s))

abbrev pub name_end_by : ℕ → Out (List ℕ) → ℕ
name_end_by total (fault k) = 0
name_end_by total (got n fs r) = total - length r

unfoldable pub name_end : List ℕ → ℕ
name_end s = name_end_by (length s) (read_name s)

-- ---- a leaf

abbrev pub leaf_met : ℕ → Frames Leaf → Result LeafFrame Refusal
leaf_met total (refused n r) = Err n
leaf_met total (framed v r) = leaf_read (total - length r) (id (leaf_kind v)) (length (leaf_payload v))

-- a container is refused
unfoldable pub leaf_frame_of : Kind → List ℕ → Result LeafFrame Refusal
leaf_frame_of k s = leaf_met (length s) (leaf_by (payload k) s)

-- at a position
unfoldable pub leaf_frame_at : Kind → List ℕ → ℕ → Result LeafFrame Refusal
leaf_frame_at k s at = leaf_met (length s) (leaf_by (payload k) (drop at s))

abbrev pub end_in : Result Heading Stop → ℕ
end_in (Err j) = 0
end_in (Ok (H.Leaf e g)) = e
end_in (Ok (H.Fields f a e g)) = 0
end_in (Ok (H.Items f n a e g)) = 0

abbrev pub end_known : Option Kind → List ℕ → ℕ
end_known None s = 0
end_known (Some k) s = end_in (head_at k no_modes nothing s)

unfoldable pub leaf_end : ℕ → List ℕ → ℕ
leaf_end b s = end_known (known b) s

unfoldable pub bits_in : List ℕ → ℕ
bits_in s = cond (ltb (length s) 8) 0 (from_bytes (take 8 s))
