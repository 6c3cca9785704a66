-- What a write list comes to once its top field is measured (document 01, "The write list"): 8, then 10, then 11.
use Rattle.std.specs.Prelude.{ℕ, ◌+◌, cond, ltb, leb, Err, Ok, Result}
use Rattle.frames.specs.declared.Refusal.TheVariants.{Complete, FewWorkNumbers, EncodingTooLong}
use Rattle.frames.specs.declared.Refused.{Refused}
use Rattle.frames.specs.Writer.{refused_at}
use Rattle.format.specs.Limits.{length_limit}
use Rattle.settle.specs.declared.Measured.{Measured}
use Rattle.settle.specs.declared.Settled.{Settled}
use Rattle.settle.specs.Made.{ready}

-- what the measured field comes to: its own refusal; those that only the whole list shows, or the encoding's length
abbrev pub decided_of : Result Measured Refused → ℕ → ℕ → ℕ → Result Settled Refused
decided_of (Err q) total room numbers = refused_at q.refusal q.place
decided_of (Ok p) total room numbers =
    cond (ltb p.next total) (refused_at Complete p.next)
    (cond (ltb numbers p.opened) (refused_at FewWorkNumbers 0)
    (cond (leb room p.size) (refused_at EncodingTooLong 0)
    (cond (leb length_limit p.size) (refused_at EncodingTooLong 0)
    (ready p.id (p.size + 1)))))
