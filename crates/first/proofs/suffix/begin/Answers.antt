-- `first::suffix::begin` meets its contract.
use borrow.Author.Rules.{rules}
use Rattle.first.proofs.Begins.{begins_put, begins_empty}
use Rattle.first.proofs.suffix.begin.Goals as goal

pub returns-clause-work_after : goal.returns-clause-work_after
returns-clause-work_after c = search (rules, begins_put)

pub returns-clause-value : goal.returns-clause-value
returns-clause-value c = search (rules, begins_empty)
