-- `actions::meets_some` meets its contract.
use mathlib.Core.Path.{◌∙◌}
use borrow.Author.Rules.{rules}
use borrow.Author.Tests.{tests}
use Rattle.base.proofs.Chains.{some_over}
use Rattle.rules.specs.Records.{records}
use Rattle.room.specs.Areas.{view}
use Rattle.states.specs.StatesIn.{entry_in}
use Rattle.actions.specs.Conflicting.{meets_other}
use Rattle.actions.proofs.Tests.{meets_whole}
use Rattle.actions.proofs.meets_some.Goals as goal

pub returns : goal.returns
returns c =
    some_over (meets_other (records c.args.g.now) (entry_in (view c.args.work.now) c.args.k)) (entry_in (view c.args.work.now)) _ _ _ _ c.any.ensures.ran (λ x q b k. search (rules, tests))
    ∙ meets_whole _ _ _ _ _
