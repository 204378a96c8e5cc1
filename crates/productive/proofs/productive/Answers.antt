use borrow.Author.Rules.{rules}
use Rattle.base.proofs.ListLoops.{until_whole, until_turn, until_end, until_over}
use Rattle.rules.specs.Grammar.{productive}
use Rattle.productive.proofs.productive.Goals as goal

pub loop-turn-init : goal.loop-turn-init
unfolding productive
loop-turn-init c = search (rules, until_whole)

pub returns-then-all_collected : goal.returns-then-all_collected
returns-then-all_collected c = search (rules, until_end)

pub loop-turn-preserved : goal.loop-turn-preserved
loop-turn-preserved c = search (rules, until_turn)

pub returns : goal.returns
returns c = search (rules, until_over)
