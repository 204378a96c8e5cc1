-- `lane_table::table::add_lookahead` meets its contract.
use borrow.Author.Rules.{rules}
use Rattle.lane.proofs.Cells.{cell_entered}
use Rattle.lane.proofs.table.add_lookahead.Goals as goal

pub returns : goal.returns
returns c = search (rules, cell_entered)
