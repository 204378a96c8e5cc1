use native.Mathlib.Omega.{arith}
use borrow.Author.Rules.{rules}
use Rattle.base.proofs.ListLoops.{until_over}
use Rattle.least_steps.proofs.Frames.{only_none, only_both, few_terminals}
use Rattle.least_sets.proofs.Turns.{rounds_begin, rounds_fit, rounds_turn, rounds_stop}
use Rattle.least_sets.proofs.Frames.{ready_only}
use Rattle.least_sets.proofs.rounds.rounds.Goals as goal

pub overflow_add-bound : goal.overflow_add-bound
overflow_add-bound c = omega (arith, few_terminals _ _ c.requires.1.clean c.requires.2)

pub overflow_mul-bound : goal.overflow_mul-bound
overflow_mul-bound c = omega (arith, rounds_fit _ _ _ _ _ c.requires.1 c.requires.2 c.first_entry-entries.ensures)

pub loop-turn-init : goal.loop-turn-init
loop-turn-init c = (search rules, search (rules, rounds_fit), search rules, search (rules, only_none), search (rules, rounds_begin))

pub round-requires : goal.round-requires
round-requires c = (search rules, search (rules, ready_only), search rules)

pub returns-then-not-round-clause-work_after : goal.returns-then-not-round-clause-work_after
returns-then-not-round-clause-work_after c = search (rules, rounds_stop)

pub returns-then-not-round-clause-only_least : goal.returns-then-not-round-clause-only_least
returns-then-not-round-clause-only_least c = search (rules, only_both)

pub loop-turn-preserved : goal.loop-turn-preserved
loop-turn-preserved c = (search rules, search rules, search rules, search (rules, only_both), search (rules, rounds_turn))

pub returns-clause-work_after : goal.returns-clause-work_after
returns-clause-work_after c = search (rules, until_over)
