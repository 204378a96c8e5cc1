-- `state_graph::leads` meets its contract.
use borrow.Author.Rules.{rules}
use borrow.Author.Tests.{tests}
use Rattle.base.proofs.Chains.{some_over}
use Rattle.rules.specs.Records.{records}
use Rattle.room.specs.Areas.{view}
use Rattle.states.specs.StatesIn.{entry_in}
use Rattle.state_graph.specs.Graph.{leads_to, symbol_at}
use Rattle.state_graph.proofs.Edges.{some_in_state}
use Rattle.state_graph.proofs.Linking.{unlinked}
use Rattle.state_graph.proofs.leads.Goals as goal

pub returns-then-has : goal.returns-then-has
returns-then-has c =
    some_in_state _ _ _ _ _ _ c.first_entry.ensures c.end_entry.ensures
    (some_over (leads_to (records c.args.g.now) c.args.state.0 (symbol_at c.args.g.now c.args.i)) (entry_in (view c.args.work.now)) _ _ _ _ c.any.ensures.ran (λ x q b k. search (rules, tests)))

pub returns-else-has : goal.returns-else-has
returns-else-has c = search (rules, unlinked)
