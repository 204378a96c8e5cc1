-- `final_check::final_check` meets its contract.
use borrow.Author.Rules.{rules}
use Rattle.least_sets.proofs.Frames.{ready_only}
use Rattle.final_check.proofs.Failing.{fails_found}
use Rattle.final_check.proofs.final_check.Goals as goal

pub first_failing-requires : goal.first_failing-requires
first_failing-requires c = (search rules, search (rules, ready_only), search rules)

pub returns-clause-value : goal.returns-clause-value
returns-clause-value c = search (rules, fails_found)
