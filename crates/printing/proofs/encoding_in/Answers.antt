use native.Mathlib.Omega.{arith}
use Rattle.printing.proofs.TextLaws.{put_then, put_next, put_length, bytes_length}
use Rattle.printing.proofs.encoding_in.Goals as goal

pub put_word-requires : goal.put_word-requires
put_word-requires c =
    omega (
      arith,
      put_next _ _ _ _ _ c.put_bytes-end_at.ensures,
      put_length _ _ _ _ _
          c.put_bytes-end_at.ensures,
      bytes_length
          c.args.encoding.now,
      c.requires,
    )

pub returns : goal.returns
returns c = put_then _ _ _ _ _ _ _ _ c.put_bytes-end_at.ensures c.put_word.ensures
