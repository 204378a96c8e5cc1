-- `lane_table::rows::rows_disjoint` meets its contract.
use mathlib.Core.Path.{◌∙◌}
use borrow.Author.Rules.{rules}
use borrow.Author.Tests.{tests}
use Rattle.base.proofs.Chains.{each_over}
use Rattle.room.specs.Areas.{view}
use Rattle.lane.specs.Table.{row_in}
use Rattle.lane_table.proofs.Columns.{is_disjoint, disjoint_whole}
use Rattle.lane_table.proofs.rows.rows_disjoint.Goals as goal

pub returns : goal.returns
returns c = each_over is_disjoint (row_in (view c.args.work.now) c.args.lanes.columns) _ _ _ _ c.all.ensures.ran (λ x q b k. search (rules, tests)) ∙ disjoint_whole _ _ _
