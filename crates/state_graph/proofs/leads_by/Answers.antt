-- `state_graph::leads_by` meets its contract.
use borrow.Author.Rules.{rules}
use Rattle.state_graph.proofs.Edges.{recorded_fits}
use Rattle.state_graph.proofs.leads_by.Goals as goal

pub before_symbol-requires : goal.before_symbol-requires
before_symbol-requires c = search (rules, recorded_fits)
