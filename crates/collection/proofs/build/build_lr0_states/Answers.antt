-- `collection::build::build_lr0_states` meets its contract.
use borrow.Author.Rules.{rules}
use Rattle.collection.proofs.Modes.{lr0_built}
use Rattle.collection.proofs.build.build_lr0_states.Goals as goal

pub returns : goal.returns
returns c = search (rules, lr0_built)
