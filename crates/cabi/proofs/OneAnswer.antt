-- No second answer, for the calls for C: the number answered, and all that the lent numbers, the output and the work numbers hold afterwards.
use Prim.Native.Nat.{ℕ}
use mathlib.Core.List.{List}
use Rattle.number.proofs.OneAnswer.{One, one}
use Rattle.text.specs.Equal.{equal}
use Rattle.text.specs.Utf8.{is_text}
use Rattle.float.specs.Rule.{holds}
use Rattle.float.specs.Width.{widen}
use Rattle.places.specs.declared.Place.{Place}
use Rattle.format.specs.Mask.{mask}
use Rattle.validate.specs.Asked.{mask_with}
use Rattle.places.specs.Places.{checked, top, step, part, lookup}
use Rattle.places.specs.Values.{double, signed, unsigned, ticks}
use Rattle.replies.specs.Number.{truth}
use Rattle.sending.specs.Sent.{sent}
use Rattle.replies.specs.Reply.{told, varuint, number_reply, signed_reply, ticks_reply}
use Rattle.place_replies.specs.PlaceReply.{place_of, after_of, checked_reply, top_reply, step_reply, part_reply, found_reply}

pub varuint_one : (s answer : List ℕ) → One (varuint s answer)
varuint_one s answer = one (varuint s answer)

pub is_text_one : (s : List ℕ) → One (truth (is_text s))
is_text_one s = one (truth (is_text s))

pub are_equal_one : (a b : List ℕ) → One (truth (equal a b))
are_equal_one a b = one (truth (equal a b))

pub float32_holds_one : (bits : ℕ) → One (truth (holds bits))
float32_holds_one bits = one (truth (holds bits))

pub widen_one : (bits : ℕ) → One (widen bits)
widen_one bits = one (widen bits)

module _ (payload : List ℕ) where
  pub validate_one : (modes : ℕ) → One (mask modes payload)
  validate_one modes = one (mask modes payload)

  pub validate_with_one : (modes : ℕ) (table : List ℕ) → One (mask_with modes payload table)
  validate_with_one modes table = one (mask_with modes payload table)

  pub top_one : (answer : List ℕ) → One (told 4 (top_reply (top payload)) answer)
  top_one answer = one (told 4 (top_reply (top payload)) answer)

  module _ (kind start end depth : ℕ) where
    abbrev at : Place
    at = place_of kind start end depth

    pub check_one : One (checked_reply (checked payload at)).code
    check_one = one (checked_reply (checked payload at)).code

    module _ (answer : List ℕ) where
      pub step_one : (some last : ℕ) → One (told 5 (step_reply (step payload at (after_of some last))) answer)
      step_one some last = one (told 5 (step_reply (step payload at (after_of some last))) answer)

      pub view_one : One (told 2 (part_reply (part payload at)) answer)
      view_one = one (told 2 (part_reply (part payload at)) answer)

      pub lookup_one : (name : List ℕ) → One (told 4 (found_reply (lookup payload at name)) answer)
      lookup_one name = one (told 4 (found_reply (lookup payload at name)) answer)

      pub double_one : One (told 1 (number_reply (double payload at)) answer)
      double_one = one (told 1 (number_reply (double payload at)) answer)

      pub signed_one : One (told 1 (signed_reply (signed payload at)) answer)
      signed_one = one (told 1 (signed_reply (signed payload at)) answer)

      pub unsigned_one : One (told 1 (number_reply (unsigned payload at)) answer)
      unsigned_one = one (told 1 (number_reply (unsigned payload at)) answer)

      pub ticks_one : One (told 1 (ticks_reply (ticks payload at)) answer)
      ticks_one = one (told 1 (ticks_reply (ticks payload at)) answer)

pub write_one : (list output work answer : List ℕ) → One (sent list output work answer)
write_one list output work answer = one (sent list output work answer)
