-- `least_sets::rounds::close_entry` meets its contract.
use borrow.Author.Rules.{rules}
use Rattle.least_steps.proofs.Frames.{only_none}
use Rattle.least_steps.proofs.Moves.{closes_here}
use Rattle.least_sets.proofs.Frames.{few_states, place_area, at_area, at_recorded}
use Rattle.least_sets.proofs.Moves.{unclosed, unclosed_says, closed, closed_says}
use mathlib.Core.Path.{ap}
use mathlib.Core.Bool.{not}
use Rattle.least_sets.proofs.rounds.close_entry.Goals as goal

pub place-at-requires : goal.place-at-requires
place-at-requires c = search (rules, few_states, place_area)

pub closes-requires : goal.closes-requires
closes-requires c = search (rules, at_area, at_recorded)

pub returns-then-not-closes-clause-work_after : goal.returns-then-not-closes-clause-work_after
returns-then-not-closes-clause-work_after c = search (rules, unclosed)

pub returns-then-not-closes-clause-only_least : goal.returns-then-not-closes-clause-only_least
returns-then-not-closes-clause-only_least c = search (rules, only_none)

pub returns-then-not-closes-clause-value : goal.returns-then-not-closes-clause-value
returns-then-not-closes-clause-value c = search (rules, unclosed_says)

pub close_at-requires-clause-long_enough : goal.close_at-requires-clause-long_enough
close_at-requires-clause-long_enough c = let behind = closes_here _ _ _ _ c.closes.ensures (ap not c.if-not-closes.false) in
    (search rules, search rules, search (rules, at_area))

pub close_at-requires-clause-faultless : goal.close_at-requires-clause-faultless
close_at-requires-clause-faultless c = let behind = closes_here _ _ _ _ c.closes.ensures (ap not c.if-not-closes.false) in
    (search rules, search rules, behind)

pub returns-clause-work_after : goal.returns-clause-work_after
returns-clause-work_after c = search (rules, closed)

pub returns-clause-value : goal.returns-clause-value
returns-clause-value c = search (rules, closed_says)
