-- `actions::put::is_put` meets its contract.
use borrow.Author.Rules.{rules}
use Rattle.states.proofs.Places.{item_fits}
use Rattle.actions.proofs.put.is_put.Goals as goal

pub at_end-requires : goal.at_end-requires
at_end-requires c = search (rules, item_fits)
