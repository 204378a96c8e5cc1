-- `table_counts::walk::take_entry` meets its contract.
use borrow.Author.Rules.{rules}
use Rattle.table_counts.proofs.Takes.{incomplete_takes, not_held_takes, held_holds, held_takes}
use Rattle.table_counts.proofs.walk.take_entry.Goals as goal

pub returns-then-not-at_end : goal.returns-then-not-at_end
returns-then-not-at_end g c = search (rules, incomplete_takes g.S.Sink.taken g.S.Sink.holds g.met.S.Sink.laws)

pub returns-then-not-contains : goal.returns-then-not-contains
returns-then-not-contains g c = search (rules, not_held_takes g.S.Sink.taken g.S.Sink.holds g.met.S.Sink.laws)

pub take-requires : goal.take-requires
take-requires g c = search (rules, held_holds g.S.Sink.taken g.S.Sink.holds g.met.S.Sink.laws)

pub returns : goal.returns
returns g c = search (rules, held_takes g.S.Sink.taken g.S.Sink.holds g.met.S.Sink.laws)
