use borrow.Author.Rules.{rules}
use Rattle.first.proofs.Clears.{clear_start, clear_turn, clear_end}
use Rattle.first.proofs.rounds.clear_firsts.Goals as goal

pub loop-a-init : goal.loop-a-init
loop-a-init c = search (rules, clear_start)

pub loop-a-preserved : goal.loop-a-preserved
loop-a-preserved c = search (rules, clear_turn)

pub returns : goal.returns
returns c = search (rules, clear_end)
