-- `lane_table::trace::enter_start` meets its contract.
use borrow.Author.Rules.{rules}
use Rattle.lane.proofs.Cells.{start_other, start_entered_lem}
use Rattle.lane.proofs.trace.enter_start.Goals as goal

pub returns-then-symbol-start : goal.returns-then-symbol-start
returns-then-symbol-start c = search (rules, start_other)

pub returns : goal.returns
returns c = search (rules, start_entered_lem)
