use native.Mathlib.Omega.{arith}
use borrow.Author.Rules.{rules}
use Rattle.first.proofs.Growth.{rounds_fit}
use Rattle.closures.proofs.Frames.{closable_kept}
use Rattle.closures.proofs.LeftSides.{rounds_begin, rounds_turn, rounds_stop, rounds_over}
use Rattle.closures.proofs.rounds.rounds.Goals as goal

pub overflow_mul-bound : goal.overflow_mul-bound
overflow_mul-bound c = omega (arith, rounds_fit c.args.m c.args.n c.requires.1 c.requires.0.few)

pub loop-turn-init : goal.loop-turn-init
loop-turn-init c = (search (rules, rounds_fit), search (rules, rounds_begin))

pub round-requires : goal.round-requires
round-requires c = search (rules, closable_kept)

pub returns-then-not-round : goal.returns-then-not-round
returns-then-not-round c = search (rules, rounds_stop)

pub loop-turn-preserved : goal.loop-turn-preserved
loop-turn-preserved c = (search rules, search (rules, rounds_turn))

pub returns : goal.returns
returns c = search (rules, rounds_over)
