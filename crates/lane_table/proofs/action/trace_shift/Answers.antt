-- `lane_table::action::trace_shift` meets its contract.
use borrow.Author.Rules.{rules}
use Rattle.lane_table.proofs.Acts.{shift_acted}
use Rattle.lane_table.proofs.action.trace_shift.Goals as goal

pub returns : goal.returns
returns c = search (rules, shift_acted)
