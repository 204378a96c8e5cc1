-- `table_counts::walk::take_state` meets its contract.
use borrow.Author.Rules.{rules}
use Rattle.table_counts.proofs.Takes.{shifts_hold, gotos_hold, reductions_hold, state_taken}
use Rattle.table_counts.proofs.walk.take_state.Goals as goal

pub take_transitions-shifted-requires-clause-holds : goal.take_transitions-shifted-requires-clause-holds
take_transitions-shifted-requires-clause-holds g c = search (rules, shifts_hold g.S.Sink.taken g.S.Sink.holds g.met.S.Sink.laws)

pub take_transitions-gone-requires-clause-holds : goal.take_transitions-gone-requires-clause-holds
take_transitions-gone-requires-clause-holds g c = search (rules, gotos_hold g.S.Sink.taken g.S.Sink.holds g.met.S.Sink.laws)

pub take_reductions-requires-clause-holds : goal.take_reductions-requires-clause-holds
take_reductions-requires-clause-holds g c =
    reductions_hold g.S.Sink.taken g.S.Sink.holds g.met.S.Sink.laws _ _ _ _ _ c.requires.n_value.0 c.requires.n_value.1 _ _ c.requires.holds _ _ c.take_transitions-shifted.ensures _ _ c.take_transitions-gone.ensures

pub returns : goal.returns
returns g c = search (rules, state_taken g.S.Sink.taken g.S.Sink.holds g.met.S.Sink.laws)
