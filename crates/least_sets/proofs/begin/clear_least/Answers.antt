-- `least_sets::begin::clear_least` meets its contract.
use borrow.Author.Rules.{rules}
use Rattle.least_sets.proofs.Begins.{least_cleared}
use Rattle.least_sets.proofs.begin.clear_least.Goals as goal

pub returns : goal.returns
returns c = search (rules, least_cleared)
