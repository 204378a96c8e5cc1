-- `lane_table::action::trace_action` meets its contract.
use borrow.Author.Rules.{rules}
use Rattle.lane_table.proofs.Acts.{reduction_ready, reduction_acted, shift_low, shift_by_number}
use Rattle.lane_table.proofs.action.trace_action.Goals as goal

pub trace_shift-requires : goal.trace_shift-requires
trace_shift-requires c = search (rules, shift_low)

pub returns-in-Shift : goal.returns-in-Shift
returns-in-Shift c = search (rules, shift_by_number)

pub trace_reduce-requires : goal.trace_reduce-requires
trace_reduce-requires c = search (rules, reduction_ready)

pub returns-in-Reduce : goal.returns-in-Reduce
returns-in-Reduce c = search (rules, reduction_acted)
