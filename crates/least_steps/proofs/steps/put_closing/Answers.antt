-- `least_steps::steps::put_closing` meets its contract.
use borrow.Author.Rules.{rules}
use Rattle.grammar.proofs.Laws.{behind_dot}
use Rattle.least_steps.proofs.Frames.{own_slot, own_apart, dot_moved}
use Rattle.least_steps.proofs.Moves.{open_here, closing_put_lem}
use Rattle.least_steps.proofs.steps.put_closing.Goals as goal

pub overflow_add-i : goal.overflow_add-i
overflow_add-i c = search (rules, dot_moved)

pub first1-requires-clause-in_range : goal.first1-requires-clause-in_range
first1-requires-clause-in_range c = search (rules, behind_dot, open_here, own_slot, own_apart)

pub first1-requires-clause-long_enough : goal.first1-requires-clause-long_enough
first1-requires-clause-long_enough c = search (rules, behind_dot, open_here, own_slot, own_apart)

pub returns : goal.returns
returns c = search (rules, closing_put_lem)
