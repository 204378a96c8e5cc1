-- `first::rounds::add_first_at` meets its contract.
use borrow.Author.Rules.{rules}
use Rattle.first.proofs.Growth.{known_true}
use Rattle.first.proofs.Frames.{only_none}
use Rattle.first.proofs.rounds.add_first_at.Goals as goal

pub add_first-requires-clause-in_range : goal.add_first-requires-clause-in_range
add_first-requires-clause-in_range c = search (rules, known_true)

pub add_first-requires-clause-long_enough : goal.add_first-requires-clause-long_enough
add_first-requires-clause-long_enough c = search (rules, known_true)

pub returns-then-at_start-clause-work_after : goal.returns-then-at_start-clause-work_after
returns-then-at_start-clause-work_after c = rw (← c.at_start.ensures, c.if-at_start.true) c.add_first.ensures.work_after

pub returns-then-at_start-clause-value : goal.returns-then-at_start-clause-value
returns-then-at_start-clause-value c = rw (← c.at_start.ensures, c.if-at_start.true) c.add_first.ensures.value

pub returns-else-at_start-clause-work_after : goal.returns-else-at_start-clause-work_after
returns-else-at_start-clause-work_after c = rw (← c.at_start.ensures, c.if-at_start.false)

pub returns-else-at_start-clause-only_firsts : goal.returns-else-at_start-clause-only_firsts
returns-else-at_start-clause-only_firsts c = search (rules, only_none)

pub returns-else-at_start-clause-value : goal.returns-else-at_start-clause-value
returns-else-at_start-clause-value c = rw (← c.at_start.ensures, c.if-at_start.false)
