use borrow.Author.Rules.{rules}
use Rattle.base.proofs.ListLoops.{kept_fold_end}
use Rattle.productive.proofs.Laws.{round_start, round_turn}
use Rattle.productive.proofs.round.Goals as goal

pub loop-i-init : goal.loop-i-init
loop-i-init c = search (rules, round_start)

pub loop-i-preserved : goal.loop-i-preserved
loop-i-preserved c = search (rules, round_turn)

pub returns : goal.returns
returns c = search (rules, kept_fold_end)
