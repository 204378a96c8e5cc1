-- `merging::begin_state` meets its contract.
use Rattle.merging.proofs.Beginnings.{state_begun}
use borrow.Author.Rules.{rules}
use Rattle.merging.proofs.begin_state.Goals as goal

pub returns : goal.returns
returns c = search (rules, state_begun)
