-- `collection::build::unless_conflict` meets its contract.
use borrow.Author.Rules.{rules}
use Rattle.collection.proofs.Modes.{conflicts_refused, no_conflicts}
use Rattle.collection.proofs.build.unless_conflict.Goals as goal

pub returns-then-conflicts-ne0 : goal.returns-then-conflicts-ne0
returns-then-conflicts-ne0 c = search (rules, conflicts_refused)

pub returns : goal.returns
returns c = search (rules, no_conflicts)
