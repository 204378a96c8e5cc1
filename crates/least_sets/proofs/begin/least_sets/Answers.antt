-- `least_sets::begin::least_sets` meets its contract.
use borrow.Author.Rules.{rules}
use Rattle.least_steps.proofs.Frames.{only_both}
use Rattle.least_sets.proofs.Frames.{ready_only}
use Rattle.least_sets.proofs.Begins.{rounds_found}
use Rattle.least_sets.proofs.begin.least_sets.Goals as goal

pub rounds-requires : goal.rounds-requires
rounds-requires c = (search rules, search (rules, ready_only), search rules)

pub returns-clause-work_after : goal.returns-clause-work_after
returns-clause-work_after c = search (rules, rounds_found)

pub returns-clause-only_least : goal.returns-clause-only_least
returns-clause-only_least c = search (rules, only_both)
