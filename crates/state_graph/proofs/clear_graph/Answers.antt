use borrow.Author.Rules.{rules}
use Rattle.state_graph.proofs.Linking.{only_none, only_cleared}
use Rattle.state_graph.proofs.clear_graph.Goals as goal

pub loop-s-init : goal.loop-s-init
loop-s-init c = search (rules, only_none)

pub loop-s-preserved : goal.loop-s-preserved
loop-s-preserved c = search (rules, only_cleared)
