use borrow.Author.Rules.{rules}
use Rattle.states.proofs.Places.{placed_at}
use Rattle.state_graph.proofs.Linking.{only_none, only_both, still_placed, linked_none, linked_more, linked_all}
use Rattle.state_graph.proofs.link_states.Goals as goal

pub loop-p-init : goal.loop-p-init
loop-p-init c = (search rules, search rules, search (rules, still_placed), search (rules, only_none), search (rules, linked_none))

pub link_state-requires : goal.link_state-requires
link_state-requires c = search (rules, placed_at)

pub loop-p-preserved : goal.loop-p-preserved
loop-p-preserved c = (search rules, search rules, still_placed _ _ c.link_state.ensures.more.only _ _ c.loop-p.invariant.2, only_both _ _ _ c.loop-p.invariant.3 c.link_state.ensures.more.only, linked_more _ _ _ _ c.loop-p.invariant.4 c.link_state.ensures)

pub returns : goal.returns
returns c = search (rules, linked_all)
