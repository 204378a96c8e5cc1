-- `least_steps::steps::close_at` meets its contract.
use borrow.Author.Rules.{rules}
use Rattle.states.proofs.Changes.{set_placed}
use Rattle.least_steps.proofs.Frames.{only_both, only_put, few_terminals}
use Rattle.least_steps.proofs.Moves.{open_here, closed_from_lem, closed_lacked}
use Rattle.least_steps.proofs.steps.close_at.Goals as goal

pub symbol_behind-a-requires : goal.symbol_behind-a-requires
symbol_behind-a-requires c = search (rules, open_here)

pub put_closing-requires-clause-long_enough : goal.put_closing-requires-clause-long_enough
put_closing-requires-clause-long_enough c = search (rules, few_terminals)

pub give-requires : goal.give-requires
give-requires c = search (rules, set_placed)

pub returns-clause-work_after : goal.returns-clause-work_after
returns-clause-work_after c = search (rules, closed_from_lem)

pub returns-clause-only_least : goal.returns-clause-only_least
returns-clause-only_least c = search (rules, only_both, only_put)

pub returns-clause-value : goal.returns-clause-value
returns-clause-value c = search (rules, closed_lacked)
