use borrow.Author.Rules.{rules}
use Rattle.table_counts.proofs.States.{few_terminals, few_nonterminals, state_readable}
use Rattle.table_counts.proofs.Walks.{turn_holds, turn_left, turns_over}
use Rattle.table_counts.proofs.Takes.{table_left}
use Rattle.table_counts.proofs.walk.take_records.Goals as goal

pub loop-s-init : goal.loop-s-init
loop-s-init g c = search (rules, few_terminals, few_nonterminals, table_left g.S.Sink.taken g.S.Sink.holds g.met.S.Sink.laws)

pub take_state-at-requires-clause-readable : goal.take_state-at-requires-clause-readable
take_state-at-requires-clause-readable g c = search (rules, state_readable)

pub take_state-at-requires-clause-holds : goal.take_state-at-requires-clause-holds
take_state-at-requires-clause-holds g c = search (rules, turn_holds g.S.Sink.taken g.S.Sink.holds g.met.S.Sink.laws)

pub loop-s-preserved : goal.loop-s-preserved
loop-s-preserved g c = search (rules, turn_left g.S.Sink.taken g.S.Sink.holds g.met.S.Sink.laws)

pub returns : goal.returns
returns g c = search (rules, turns_over g.S.Sink.taken g.S.Sink.holds g.met.S.Sink.laws)
