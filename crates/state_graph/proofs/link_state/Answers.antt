use borrow.Author.Rules.{rules}
use Rattle.state_graph.proofs.Linking.{linking_starts, linking_goes, linking_ends, place_low, place_recorded}
use Rattle.state_graph.proofs.link_state.Goals as goal

pub loop-k-init : goal.loop-k-init
loop-k-init c = search (rules, linking_starts)

pub link_entry-requires : goal.link_entry-requires
link_entry-requires c = search (rules, place_low, place_recorded)

pub loop-k-preserved : goal.loop-k-preserved
loop-k-preserved c = search (rules, linking_goes)

pub returns : goal.returns
returns c = search (rules, linking_ends)
