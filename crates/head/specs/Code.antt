-- What the code answers, of the definitions' readers: positions in the part that was lent for what is left, and the flaws as faults keeps them.
use Rattle.std.specs.Prelude.{ℕ, ◌-◌, List, length, Result, Ok, Err}
use Rattle.format.specs.declared.Kind.{Kind}
use Rattle.format.specs.declared.Form.{Form}
use Rattle.format.specs.declared.Stop.{Stop}
use Rattle.faults.specs.declared.Modes.{Modes}
use Rattle.faults.specs.declared.Faults.{Faults}
use Rattle.format.specs.Parse.{Out, bind, make}
use Rattle.format.specs.Payload.{front, Head, value, fields_in, items_in, head}
use Rattle.front.specs.Code.{answer_of}
use Rattle.leaves.specs.declared.Heading.TheVariants as H
use Rattle.leaves.specs.declared.Heading.{Heading}
use Rattle.head.specs.declared.Met.TheVariants as M
use Rattle.head.specs.declared.Met.{Met}

-- a payload up to its contents
abbrev pub heading_of : Head → Faults → ℕ → Result Heading Stop
heading_of (value v) h e = Ok (H.Leaf e h)
heading_of (fields_in f b) h e = Ok (H.Fields f (e - length b) e h)
heading_of (items_in f n b) h e = Ok (H.Items f n (e - length b) e h)

unfoldable pub head_at : Kind → Modes → Faults → List ℕ → Result Heading Stop
head_at k m g s = answer_of Err (λ x h r. heading_of x h (length s - length r)) m g (head k s)

-- a field up to its contents: what was met is its name and kind, its payload and what follows, and the payload's head
abbrev pub meeting : Form → List ℕ → Out ((List ℕ × Kind) × (List ℕ × Head))
meeting f s = bind (front f s) λ x r. make (λ h. (x, (r, h))) (head x.1 r)

abbrev pub met_of : Kind → ℕ → ℕ → Head → Faults → ℕ → Result Met Stop
met_of k a b (value v) h e = Ok (M.Leaf k a b e h)
met_of k a b (fields_in f c) h e = Ok (M.Fields k a b f (e - length c) e h)
met_of k a b (items_in f n c) h e = Ok (M.Items k a b f n (e - length c) e h)

-- in a part of n bytes
abbrev pub met_in : ℕ → (List ℕ × Kind) × (List ℕ × Head) → Faults → List ℕ → Result Met Stop
met_in n x h q = met_of x.0.1 (n - length x.1.0 - length x.0.0) (n - length x.1.0) x.1.1 h (n - length q)

unfoldable pub meet_at : Form → Modes → Faults → List ℕ → Result Met Stop
meet_at f m g s = answer_of Err (met_in (length s)) m g (meeting f s)
