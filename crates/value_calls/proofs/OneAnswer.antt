-- No second answer, for the values of places: the number answered, and all that the lent numbers hold afterwards.
use Prim.Native.Nat.{ℕ}
use mathlib.Core.List.{List}
use Rattle.number.proofs.OneAnswer.{One, one}
use Rattle.places.specs.declared.Place.{Place}
use Rattle.places.specs.Values.{double, signed, unsigned, ticks}
use Rattle.replies.specs.Reply.{told, number_reply, signed_reply, ticks_reply}
use Rattle.place_replies.specs.PlaceReply.{place_of}

module _ (payload : List ℕ) (kind start end depth : ℕ) (answer : List ℕ) where
  abbrev at : Place
  at = place_of kind start end depth

  pub double_one : One (told 1 (number_reply (double payload at)) answer)
  double_one = one (told 1 (number_reply (double payload at)) answer)

  pub signed_one : One (told 1 (signed_reply (signed payload at)) answer)
  signed_one = one (told 1 (signed_reply (signed payload at)) answer)

  pub unsigned_one : One (told 1 (number_reply (unsigned payload at)) answer)
  unsigned_one = one (told 1 (number_reply (unsigned payload at)) answer)

  pub ticks_one : One (told 1 (ticks_reply (ticks payload at)) answer)
  ticks_one = one (told 1 (ticks_reply (ticks payload at)) answer)
