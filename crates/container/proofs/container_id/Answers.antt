use borrow.Author.Rules.{rules}
use Rattle.frames.specs.Container.{container_id}
use Rattle.container.proofs.container_id.Goals as goal

pub returns-in-true-false : goal.returns-in-true-false
unfolding container_id
returns-in-true-false c = search rules

pub returns-in-true-true : goal.returns-in-true-true
unfolding container_id
returns-in-true-true c = search rules

pub returns-in-false-false : goal.returns-in-false-false
unfolding container_id
returns-in-false-false c = search rules

pub returns-in-false-true : goal.returns-in-false-true
unfolding container_id
returns-in-false-true c = search rules
