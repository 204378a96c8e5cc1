-- `least_steps::give::give` meets its contract.
use borrow.Author.Rules.{rules}
use Rattle.states.proofs.Places.{placed_at, run_read}
use Rattle.least_steps.proofs.Frames.{only_none}
use Rattle.least_steps.proofs.Given.{given_least_lem, given_only, given_lacked, given_past, lacked_past}
use Rattle.least_steps.proofs.give.give.Goals as goal

pub returns-then-count-state-clause-work_after : goal.returns-then-count-state-clause-work_after
returns-then-count-state-clause-work_after c = search (rules, given_past)

pub returns-then-count-state-clause-only_least : goal.returns-then-count-state-clause-only_least
returns-then-count-state-clause-only_least c = search (rules, only_none)

pub returns-then-count-state-clause-value : goal.returns-then-count-state-clause-value
returns-then-count-state-clause-value c = search (rules, lacked_past)

pub give_run-requires : goal.give_run-requires
give_run-requires c = search (rules, placed_at, run_read)

pub returns-clause-work_after : goal.returns-clause-work_after
returns-clause-work_after c = search (rules, given_least_lem)

pub returns-clause-only_least : goal.returns-clause-only_least
returns-clause-only_least c = search (rules, given_only)

pub returns-clause-value : goal.returns-clause-value
returns-clause-value c = search (rules, given_lacked)
