-- `first::suffix::first1` meets its contract.
use borrow.Author.Rules.{rules}
use Rattle.first.proofs.Begins.{ahead_left, ahead_joined}
use Rattle.first.proofs.suffix.first1.Goals as goal

pub returns-then-begin : goal.returns-then-begin
returns-then-begin c = search (rules, ahead_joined)

pub returns-else-begin : goal.returns-else-begin
returns-else-begin c = search (rules, ahead_left)
