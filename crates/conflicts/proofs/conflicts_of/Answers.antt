-- `conflicts::conflicts_of` meets its contract.
use borrow.Author.Rules.{rules}
use Rattle.states.proofs.Places.{item_fits, run_behind}
use Rattle.conflicts.proofs.Turns.{no_reduction, reduction}
use Rattle.conflicts.proofs.conflicts_of.Goals as goal

pub at_end-requires : goal.at_end-requires
at_end-requires c = search (rules, item_fits)

pub returns-then-not-at_end : goal.returns-then-not-at_end
returns-then-not-at_end c = search (rules, no_reduction)

pub meeting-requires : goal.meeting-requires
meeting-requires c = search (rules, run_behind)

pub returns : goal.returns
returns c = search (rules, reduction)
