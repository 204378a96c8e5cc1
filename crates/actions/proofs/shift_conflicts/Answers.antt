-- `actions::shift_conflicts` meets its contract.
use mathlib.Core.Path.{◌∙◌}
use borrow.Author.Rules.{rules}
use borrow.Author.Tests.{tests}
use Rattle.base.proofs.Chains.{some_over}
use Rattle.rules.specs.Records.{records}
use Rattle.room.specs.Areas.{view}
use Rattle.states.specs.StatesIn.{entry_in}
use Rattle.actions.specs.Conflicting.{reduces_on}
use Rattle.actions.proofs.Tests.{shift_whole}
use Rattle.actions.proofs.shift_conflicts.Goals as goal

pub returns : goal.returns
returns c =
    some_over (reduces_on (records c.args.g.now) c.args.t) (entry_in (view c.args.work.now)) _ _ _ _ c.any.ensures.ran (λ x q b k. search (rules, tests))
    ∙ shift_whole _ _ _ _ _
