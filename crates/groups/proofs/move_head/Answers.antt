-- `groups::move_head` meets its contract.
use Rattle.groups.proofs.Moves.{head_stays, head_moves}
use borrow.Author.Rules.{rules}
use Rattle.groups.proofs.move_head.Goals as goal

pub returns-then-head-from : goal.returns-then-head-from
returns-then-head-from c = search (rules, head_stays)

pub returns : goal.returns
returns c = search (rules, head_moves)
