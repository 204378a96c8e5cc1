-- `lr::links::lead_at` meets its contract.
use borrow.Author.Rules.{rules}
use Rattle.lr.proofs.Leading.{led_there, led_not}
use Rattle.lr.proofs.links.lead_at.Goals as goal

pub returns-then-before : goal.returns-then-before
returns-then-before c = search (rules, led_there)

pub returns-else-before : goal.returns-else-before
returns-else-before c = search (rules, led_not)
