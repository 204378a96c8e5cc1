use borrow.Author.Rules.{rules}
use Rattle.table_counts.proofs.Entries.{entry_readable}
use Rattle.table_counts.proofs.Walks.{turn_holds, turn_left, turns_over}
use Rattle.table_counts.proofs.Takes.{entries_left}
use Rattle.table_counts.proofs.walk.take_on.Goals as goal

pub loop-k-init : goal.loop-k-init
loop-k-init g c = search (rules, entries_left g.S.Sink.taken g.S.Sink.holds g.met.S.Sink.laws)

pub take_entry-to-requires-clause-readable : goal.take_entry-to-requires-clause-readable
take_entry-to-requires-clause-readable g c = search (rules, entry_readable)

pub take_entry-to-requires-clause-holds : goal.take_entry-to-requires-clause-holds
take_entry-to-requires-clause-holds g c = search (rules, turn_holds g.S.Sink.taken g.S.Sink.holds g.met.S.Sink.laws)

pub loop-k-preserved : goal.loop-k-preserved
loop-k-preserved g c = search (rules, turn_left g.S.Sink.taken g.S.Sink.holds g.met.S.Sink.laws)

pub returns : goal.returns
returns g c = search (rules, turns_over g.S.Sink.taken g.S.Sink.holds g.met.S.Sink.laws)
