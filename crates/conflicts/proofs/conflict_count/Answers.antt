use borrow.Author.Rules.{rules}
use Rattle.base.proofs.EachLeft.{each_sum_turn, each_sum_end}
use Rattle.states.proofs.Places.{placed_at}
use Rattle.conflicts.proofs.Turns.{all_start}
use Rattle.conflicts.proofs.conflict_count.Goals as goal

pub loop-s-init : goal.loop-s-init
loop-s-init c = search (rules, all_start)

pub conflicts_at-conflicts-requires : goal.conflicts_at-conflicts-requires
conflicts_at-conflicts-requires c = search (rules, placed_at)

pub loop-s-preserved : goal.loop-s-preserved
loop-s-preserved c = search (rules, each_sum_turn)

pub returns : goal.returns
returns c = search (rules, each_sum_end)
