-- `least_sets::rounds::move_entry` meets its contract.
use borrow.Author.Rules.{rules}
use Rattle.least_steps.proofs.Frames.{only_none}
use Rattle.least_sets.proofs.Frames.{few_states, place_area, at_area, at_recorded}
use Rattle.least_sets.proofs.Moves.{unmoved, unmoved_says, moved, moved_says}
use Rattle.least_sets.proofs.rounds.move_entry.Goals as goal

pub place-at-requires : goal.place-at-requires
place-at-requires c = search (rules, few_states, place_area)

pub moves-requires : goal.moves-requires
moves-requires c = search (rules, at_area, at_recorded)

pub returns-then-not-moves-clause-work_after : goal.returns-then-not-moves-clause-work_after
returns-then-not-moves-clause-work_after c = search (rules, unmoved)

pub returns-then-not-moves-clause-only_least : goal.returns-then-not-moves-clause-only_least
returns-then-not-moves-clause-only_least c = search (rules, only_none)

pub returns-then-not-moves-clause-value : goal.returns-then-not-moves-clause-value
returns-then-not-moves-clause-value c = search (rules, unmoved_says)

pub move_at-requires : goal.move_at-requires
move_at-requires c = search (rules, at_area)

pub returns-clause-work_after : goal.returns-clause-work_after
returns-clause-work_after c = search (rules, moved)

pub returns-clause-value : goal.returns-clause-value
returns-clause-value c = search (rules, moved_says)
