-- `first::suffix::first0` meets its contract.
use borrow.Author.Rules.{rules}
use Rattle.first.proofs.Collects.{slot_cleared, collect_cleared}
use Rattle.first.proofs.suffix.first0.Goals as goal

pub collect-requires-clause-in_range : goal.collect-requires-clause-in_range
collect-requires-clause-in_range c = search (rules, slot_cleared)

pub collect-requires-clause-long_enough : goal.collect-requires-clause-long_enough
collect-requires-clause-long_enough c = search (rules, slot_cleared)

pub returns : goal.returns
returns c = search (rules, collect_cleared)
