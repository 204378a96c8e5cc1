-- `lane_table::action::trace_reduce` meets its contract.
use borrow.Author.Rules.{rules}
use Rattle.lane_table.proofs.Acts.{reduce_ready, reduce_acted}
use Rattle.lane_table.proofs.action.trace_reduce.Goals as goal

pub go_back-requires : goal.go_back-requires
go_back-requires c = search (rules, reduce_ready)

pub returns : goal.returns
returns c = search (rules, reduce_acted)
