use borrow.Author.Rules.{rules}
use Rattle.table_counts.proofs.Walks.{left_start, turn_holds, turn_left, turns_over}
use Rattle.table_counts.proofs.walk.take_reductions.Goals as goal

pub loop-t-init : goal.loop-t-init
loop-t-init g c = search (rules, left_start g.S.Sink.taken g.S.Sink.holds)

pub take_on-to-requires-clause-holds : goal.take_on-to-requires-clause-holds
take_on-to-requires-clause-holds g c = search (rules, turn_holds g.S.Sink.taken g.S.Sink.holds g.met.S.Sink.laws)

pub loop-t-preserved : goal.loop-t-preserved
loop-t-preserved g c = search (rules, turn_left g.S.Sink.taken g.S.Sink.holds g.met.S.Sink.laws)

pub returns : goal.returns
returns g c = search (rules, turns_over g.S.Sink.taken g.S.Sink.holds g.met.S.Sink.laws)
