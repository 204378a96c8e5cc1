-- `lane_table::clear::clear_row` meets its contract.
use borrow.Author.Rules.{rules}
use Rattle.lane_table.proofs.Clears.{row_cleared}
use Rattle.lane_table.proofs.clear.clear_row.Goals as goal

pub returns : goal.returns
returns c = search (rules, row_cleared)
