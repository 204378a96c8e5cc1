-- `conflicts::meets` meets its contract.
use borrow.Author.Rules.{rules}
use Rattle.states.proofs.Places.{item_fits}
use Rattle.conflicts.proofs.Turns.{meets_not, meets_as}
use Rattle.conflicts.proofs.meets.Goals as goal

pub at_end-requires : goal.at_end-requires
at_end-requires c = search (rules, item_fits)

pub returns-then-at_end : goal.returns-then-at_end
returns-then-at_end c = search (rules, meets_as)

pub returns-else-at_end : goal.returns-else-at_end
returns-else-at_end c = search (rules, meets_not)
