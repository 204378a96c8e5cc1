-- `state_graph::link_entry` meets its contract.
use borrow.Author.Rules.{rules}
use Rattle.state_graph.proofs.Edges.{recorded_fits}
use Rattle.state_graph.proofs.Linking.{entry_ended, entry_outside, entry_linked}
use Rattle.state_graph.proofs.link_entry.Goals as goal

pub at_end-requires : goal.at_end-requires
at_end-requires c = search (rules, recorded_fits)

pub returns-then-at_end : goal.returns-then-at_end
returns-then-at_end c = search (rules, entry_ended)

pub returns-then-to-ge-MAX_STATES : goal.returns-then-to-ge-MAX_STATES
returns-then-to-ge-MAX_STATES c = search (rules, entry_outside)

pub returns : goal.returns
returns c = search (rules, entry_linked)
