-- `driver::moves::step` meets its contract.
use borrow.Author.Rules.{rules}
use Rattle.driver.proofs.Ways.{at_limit}
use Rattle.driver.proofs.moves.step.Goals as goal

pub returns-then-limit-s : goal.returns-then-limit-s
returns-then-limit-s c = search (rules, at_limit)
