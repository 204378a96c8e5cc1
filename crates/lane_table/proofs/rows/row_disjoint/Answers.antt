-- `lane_table::rows::row_disjoint` meets its contract.
use borrow.Author.Rules.{rules}
use Rattle.lane_table.proofs.Columns.{row_disjoint_lem}
use Rattle.lane_table.proofs.rows.row_disjoint.Goals as goal

pub returns : goal.returns
returns c = search (rules, row_disjoint_lem)
