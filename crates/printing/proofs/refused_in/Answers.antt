use native.Mathlib.Omega.{arith}
use mathlib.Core.List.{◌++◌}
use Rattle.frames.specs.Program.{word_refused, word_at, line_end, decimal}
use Rattle.printing.proofs.TextLaws.{put_then, put_next, put_length}
use Rattle.printing.proofs.refused_in.Goals as goal

pub put_decimal-word_at-requires : goal.put_decimal-word_at-requires
put_decimal-word_at-requires c =
    omega (
      arith,
      put_length _ _ _ _ _ c.put_word-number_at.ensures,
      put_next _ _ _ _ _
          c.put_word-number_at.ensures,
      c.requires,
    )

pub put_word-place_at-requires : goal.put_word-place_at-requires
put_word-place_at-requires c =
    omega (
      arith,
      put_length _ _ _ _ _ c.put_word-number_at.ensures,
      put_next _ _ _
          _ _ c.put_word-number_at.ensures,
      put_length _ _ _ _ _
          c.put_decimal-word_at.ensures.text_after,
      c.put_decimal-word_at.ensures.upper_bound,
      c.requires,
    )

pub put_decimal-end_at-requires : goal.put_decimal-end_at-requires
put_decimal-end_at-requires c =
    omega (
      arith,
      put_length _ _ _ _ _
          c.put_word-number_at.ensures,
      put_next _ _ _ _ _
          c.put_word-number_at.ensures,
      put_length _ _ _ _ _
          c.put_decimal-word_at.ensures.text_after,
      c.put_decimal-word_at.ensures.upper_bound,
      put_length _ _ _ _ _
          c.put_word-place_at.ensures,
      put_next _ _ _ _ _ c.put_word-place_at.ensures,
      c.requires,
    )

pub put_word-requires : goal.put_word-requires
put_word-requires c =
    omega (
      arith,
      put_length _ _ _ _ _
          c.put_word-number_at.ensures,
      put_next _ _ _ _ _
          c.put_word-number_at.ensures,
      put_length _ _ _ _ _
          c.put_decimal-word_at.ensures.text_after,
      c.put_decimal-word_at.ensures.upper_bound,
      put_length _ _ _ _ _ c.put_word-place_at.ensures,
      put_next _ _ _ _ _ c.put_word-place_at.ensures,
      put_length _ _ _ _ _ c.put_decimal-end_at.ensures.text_after,
      c.put_decimal-end_at.ensures.upper_bound,
      c.requires,
    )

pub returns : goal.returns
returns c =
    put_then (word_refused ++ decimal 2
    c.args.number ++ word_at ++ decimal 20 c.args.place)
    (line_end) _ _ _ _ _ _ (put_then (word_refused ++ decimal 2 c.args.number ++ word_at)
    (decimal 20 c.args.place) _ _ _ _ _ _
    (put_then (word_refused ++ decimal 2 c.args.number) (word_at) _ _ _ _ _ _
    (put_then (word_refused) (decimal 2 c.args.number) _ _ _ _ _ _ c.put_word-number_at.ensures
    c.put_decimal-word_at.ensures.text_after) c.put_word-place_at.ensures)
    c.put_decimal-end_at.ensures.text_after) c.put_word.ensures
