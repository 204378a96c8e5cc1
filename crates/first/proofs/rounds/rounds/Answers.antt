use native.Mathlib.Omega.{arith}
use borrow.Author.Rules.{rules}
use Rattle.base.proofs.ListLoops.{until_over}
use Rattle.first.proofs.Frames.{only_none, only_both}
use Rattle.first.proofs.Growth.{rounds_start, rounds_fit, rounds_turn, rounds_stop}
use Rattle.first.proofs.rounds.rounds.Goals as goal

pub overflow_mul-bound : goal.overflow_mul-bound
overflow_mul-bound c = omega (arith, rounds_fit c.args.m c.args.n c.requires.faultless.1.few_nonterminals c.requires.faultless.1.few_terminals)

pub loop-turn-init : goal.loop-turn-init
loop-turn-init c = (search rules, search (rules, rounds_fit), search rules, search (rules, only_none), search (rules, rounds_start))

pub returns-then-not-round-clause-work_after : goal.returns-then-not-round-clause-work_after
returns-then-not-round-clause-work_after c = search (rules, rounds_stop)

pub returns-then-not-round-clause-only_firsts : goal.returns-then-not-round-clause-only_firsts
returns-then-not-round-clause-only_firsts c = search (rules, only_both)

pub loop-turn-preserved : goal.loop-turn-preserved
loop-turn-preserved c = (search rules, search rules, search rules, search (rules, only_both), search (rules, rounds_turn))

pub returns-clause-work_after : goal.returns-clause-work_after
returns-clause-work_after c = search (rules, until_over)
