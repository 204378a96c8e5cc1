-- `takings::column_of` meets its contract.
use borrow.Author.Rules.{rules}
use borrow.Author.Tests.{tests}
use native.Mathlib.Omega.{arith}
use mathlib.Core.Path.{ap, ◌∙◌}
use Rattle.base.specs.Loops.{place_below}
use Rattle.base.proofs.Chains.{first_over_range}
use Rattle.rules.specs.Lanes.{is_reduce}
use Rattle.room.specs.Areas.{view}
use Rattle.lane_table.specs.Actions.{action_at}
use Rattle.takings.proofs.Places.{column_is}
use Rattle.takings.proofs.column_of.Goals as goal

pub returns : goal.returns
returns c =
    first_over_range (λ k. is_reduce c.args.i (action_at (view c.args.work.now) k)) _ _ _ _ c.find.ensures.ran (omega arith) (λ x q b k. search (rules, tests))
    ∙ ap (place_below c.args.width) (column_is (view c.args.work.now) c.args.width c.args.i)
