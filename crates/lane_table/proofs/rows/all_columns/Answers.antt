use mathlib.Core.Path.{refl}
use borrow.Author.Rules.{rules}
use Rattle.lane_table.proofs.Columns.{columns_begun, columns_more, columns_turn, columns_end}
use Rattle.lane_table.proofs.rows.all_columns.Goals as goal

pub loop-s-init : goal.loop-s-init
loop-s-init c = (search rules, search rules, search rules, search (rules, columns_begun), refl)

pub loop-s-preserved : goal.loop-s-preserved
loop-s-preserved c = (search rules, c.loop-s.invariant.1, search rules, columns_more _ _ _ _ _ _ c.loop-s.invariant.3 c.join_columns.ensures, columns_turn _ _ _ _ _ _ c.loop-s.invariant.1 c.loop-s.invariant.3 _ _ _ c.loop-s-test.true c.row_slot-row.ensures c.join_columns.ensures c.loop-s.invariant.4)

pub returns : goal.returns
returns c = search (rules, columns_end)
