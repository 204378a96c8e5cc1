use borrow.Author.Rules.{rules}
use Rattle.least_steps.proofs.Given.{given_none, next_placed, next_within, given_more, given_end, lacked_more, lacked_end}
use Rattle.least_steps.proofs.give.give_run.Goals as goal

pub loop-k-init : goal.loop-k-init
loop-k-init c = search (rules, given_none)

pub give_entry-lacked-requires : goal.give_entry-lacked-requires
give_entry-lacked-requires c = (search rules, search (rules, next_placed), search (rules, next_within))

pub loop-k-preserved : goal.loop-k-preserved
loop-k-preserved c = (search rules, search rules, search rules, search (rules, given_more), search (rules, lacked_more))

pub returns-clause-run_given : goal.returns-clause-run_given
returns-clause-run_given c = search (rules, given_end)

pub returns-clause-value : goal.returns-clause-value
returns-clause-value c = search (rules, lacked_end)
