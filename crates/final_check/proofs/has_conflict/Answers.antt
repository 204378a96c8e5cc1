-- `final_check::has_conflict` meets its contract.
use borrow.Author.Rules.{rules}
use Rattle.least_sets.proofs.Frames.{few_states}
use Rattle.final_check.proofs.Lacking.{state_placed}
use Rattle.final_check.proofs.has_conflict.Goals as goal

pub conflicts_at-requires-clause-faultless : goal.conflicts_at-requires-clause-faultless
conflicts_at-requires-clause-faultless c = search (rules, few_states, state_placed)

pub conflicts_at-requires-clause-long_enough : goal.conflicts_at-requires-clause-long_enough
conflicts_at-requires-clause-long_enough c = search (rules, few_states, state_placed)

pub returns : goal.returns
returns c = search (rules, ← c.conflicts_at.ensures.0)
