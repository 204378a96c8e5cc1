-- `lane_table::rows::is_beachhead` meets its contract.
use borrow.Author.Rules.{rules}
use Rattle.lane_table.proofs.Columns.{none_entered, some_entered}
use Rattle.lane_table.proofs.rows.is_beachhead.Goals as goal

pub returns-then-get-ne0 : goal.returns-then-get-ne0
returns-then-get-ne0 c = search (rules, some_entered)

pub returns-else-get-ne0 : goal.returns-else-get-ne0
returns-else-get-ne0 c = search (rules, none_entered)
