-- `conflicts::is_held` meets its contract.
use borrow.Author.Rules.{rules}
use Rattle.conflicts.proofs.Turns.{held_out, held_shifted}
use Rattle.conflicts.proofs.is_held.Goals as goal

pub returns-then-contains : goal.returns-then-contains
returns-then-contains c = search (rules, held_shifted)

pub returns-else-contains : goal.returns-else-contains
returns-else-contains c = search (rules, held_out)
