-- `least_steps::give::give_entry` meets its contract.
use borrow.Author.Rules.{rules}
use Rattle.least_steps.proofs.Tested.{passed_room, passed_says, joined_room, joined_says}
use Rattle.least_steps.proofs.give.give_entry.Goals as goal

pub returns-then-not-is_given-clause-work_after : goal.returns-then-not-is_given-clause-work_after
returns-then-not-is_given-clause-work_after c = search (rules, passed_room)

pub returns-then-not-is_given-clause-value : goal.returns-then-not-is_given-clause-value
returns-then-not-is_given-clause-value c = search (rules, passed_says)

pub returns-clause-work_after : goal.returns-clause-work_after
returns-clause-work_after c = search (rules, joined_room)

pub returns-clause-value : goal.returns-clause-value
returns-clause-value c = search (rules, joined_says)
