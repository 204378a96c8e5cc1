-- `table_counts::walk::take_over` meets its contract.
use borrow.Author.Rules.{rules}
use Rattle.table_counts.proofs.Takes.{none_takes, some_holds, some_takes}
use Rattle.table_counts.proofs.walk.take_over.Goals as goal

pub returns-in-None : goal.returns-in-None
returns-in-None g c = search (rules, none_takes g.S.Sink.taken g.S.Sink.holds g.met.S.Sink.laws)

pub take-requires : goal.take-requires
take-requires g c = search (rules, some_holds g.S.Sink.taken g.S.Sink.holds g.met.S.Sink.laws)

pub returns-in-Some : goal.returns-in-Some
returns-in-Some g c = search (rules, some_takes g.S.Sink.taken g.S.Sink.holds g.met.S.Sink.laws)
