-- `least_sets::rounds::settle_entry` meets its contract.
use borrow.Author.Rules.{rules}
use Rattle.least_steps.proofs.Frames.{only_both}
use Rattle.least_sets.proofs.Frames.{ready_only, entry_only}
use Rattle.least_sets.proofs.Rests.{settle_both, settle_says}
use Rattle.least_sets.proofs.rounds.settle_entry.Goals as goal

pub close_entry-closed-requires-clause-long_enough : goal.close_entry-closed-requires-clause-long_enough
close_entry-closed-requires-clause-long_enough c = (search rules, search (rules, ready_only), (search rules, search (rules, entry_only)))

pub returns-clause-work_after : goal.returns-clause-work_after
returns-clause-work_after c = search (rules, settle_both)

pub returns-clause-only_least : goal.returns-clause-only_least
returns-clause-only_least c = search (rules, only_both)

pub returns-clause-value : goal.returns-clause-value
returns-clause-value c = search (rules, settle_says)
