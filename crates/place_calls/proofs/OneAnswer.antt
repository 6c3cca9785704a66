-- No second answer, for the calls on places: the number answered, and all that the lent numbers hold afterwards.
use Prim.Native.Nat.{ℕ}
use mathlib.Core.List.{List}
use Rattle.number.proofs.OneAnswer.{One, one}
use Rattle.places.specs.declared.Place.{Place}
use Rattle.places.specs.Places.{checked, top, step, part, lookup}
use Rattle.replies.specs.Reply.{told}
use Rattle.place_replies.specs.PlaceReply.{place_of, after_of, checked_reply, top_reply, step_reply, part_reply, found_reply}

module _ (payload : List ℕ) where
  pub top_one : (answer : List ℕ) → One (told 4 (top_reply (top payload)) answer)
  top_one answer = one (told 4 (top_reply (top payload)) answer)

  module _ (kind start end depth : ℕ) where
    abbrev at : Place
    at = place_of kind start end depth

    pub check_one : One (checked_reply (checked payload at)).code
    check_one = one (checked_reply (checked payload at)).code

    module _ (answer : List ℕ) where
      pub step_one : (some last : ℕ) → One (told 5 (step_reply (step payload at (after_of some last))) answer)
      step_one some last = one (told 5 (step_reply (step payload at (after_of some last))) answer)

      pub view_one : One (told 2 (part_reply (part payload at)) answer)
      view_one = one (told 2 (part_reply (part payload at)) answer)

      pub lookup_one : (name : List ℕ) → One (told 4 (found_reply (lookup payload at name)) answer)
      lookup_one name = one (told 4 (found_reply (lookup payload at name)) answer)
