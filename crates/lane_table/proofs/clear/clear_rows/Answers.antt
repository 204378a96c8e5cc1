use borrow.Author.Rules.{rules}
use Rattle.lane_table.proofs.Clears.{rows_start, rows_turn, rows_end}
use Rattle.lane_table.proofs.clear.clear_rows.Goals as goal

pub loop-s-init : goal.loop-s-init
loop-s-init c = search (rules, rows_start)

pub loop-s-preserved : goal.loop-s-preserved
loop-s-preserved c = search (rules, rows_turn)

pub returns : goal.returns
returns c = search (rules, rows_end)
