-- `lane_table::rows::is_successor` meets its contract.
use mathlib.Core.Path.{◌∙◌}
use borrow.Author.Rules.{rules}
use borrow.Author.Tests.{tests}
use Rattle.base.proofs.Chains.{some_over}
use Rattle.room.specs.Areas.{view}
use Rattle.lane.specs.Table.{row_in}
use Rattle.lane_table.proofs.Columns.{links, successor_whole}
use Rattle.lane_table.proofs.rows.is_successor.Goals as goal

pub returns : goal.returns
unfolding row_in
returns c = some_over (links c.args.state.0) (row_in (view c.args.work.now) c.args.lanes.columns) _ _ _ _ c.any.ensures.ran (λ x q b k. search (rules, tests)) ∙ successor_whole _ _ _ _
