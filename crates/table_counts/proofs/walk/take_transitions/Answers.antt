use borrow.Author.Rules.{rules}
use Rattle.table_counts.proofs.Targets.{no_targets}
use Rattle.table_counts.proofs.Walks.{turn_holds, turn_left, turns_over}
use Rattle.table_counts.proofs.Takes.{targets_left}
use Rattle.table_counts.proofs.walk.take_transitions.Goals as goal

pub gather-requires : goal.gather-requires
gather-requires g c = search (rules, no_targets)

pub loop-x-init : goal.loop-x-init
loop-x-init g c = search (rules, targets_left g.S.Sink.taken g.S.Sink.holds g.met.S.Sink.laws)

pub take_over-to-requires : goal.take_over-to-requires
take_over-to-requires g c = search (rules, turn_holds g.S.Sink.taken g.S.Sink.holds g.met.S.Sink.laws)

pub loop-x-preserved : goal.loop-x-preserved
loop-x-preserved g c = search (rules, turn_left g.S.Sink.taken g.S.Sink.holds g.met.S.Sink.laws)

pub returns : goal.returns
returns g c = search (rules, turns_over g.S.Sink.taken g.S.Sink.holds g.met.S.Sink.laws)
