use borrow.Author.Rules.{rules}
use Rattle.lane_table.proofs.Clears.{visits_start, visits_turn, visits_end}
use Rattle.lane_table.proofs.clear.clear_visits.Goals as goal

pub loop-s-init : goal.loop-s-init
loop-s-init c = search (rules, visits_start)

pub loop-s-preserved : goal.loop-s-preserved
loop-s-preserved c = search (rules, visits_turn)

pub returns : goal.returns
returns c = search (rules, visits_end)
