-- What the code answers inside, of the definitions of opening. Nothing here has to be believed: no public contract names it.
use Rattle.std.specs.Prelude.{ℕ}
use Rattle.leaves.specs.declared.Heading.{Heading}
use Rattle.leaves.specs.declared.Heading.TheVariants as H

-- where a payload ends
abbrev pub end_of : Heading → ℕ
end_of (H.Leaf e v) = e
end_of (H.Fields f b e v) = e
end_of (H.Items f c b e v) = e
