-- `least_steps::steps::move_at` meets its contract.
use borrow.Author.Rules.{rules}
use Rattle.states.proofs.Changes.{set_placed}
use Rattle.least_steps.proofs.Frames.{only_both, only_own, dot_moved}
use Rattle.least_steps.proofs.Moves.{moved_from_lem, moved_lacked}
use Rattle.least_steps.proofs.steps.move_at.Goals as goal

pub overflow_add-x : goal.overflow_add-x
overflow_add-x c = search (rules, dot_moved)

pub give-requires : goal.give-requires
give-requires c = (search rules, set_placed _ _ _ _ _ _ c.before.before.requires.1 c.put_own.ensures)

pub returns-clause-work_after : goal.returns-clause-work_after
returns-clause-work_after c = search (rules, moved_from_lem)

pub returns-clause-only_least : goal.returns-clause-only_least
returns-clause-only_least c = only_both _ _ _ (only_own _ _ _ c.put_own.ensures) c.give.ensures.only_least

pub returns-clause-value : goal.returns-clause-value
returns-clause-value c = search (rules, moved_lacked)
