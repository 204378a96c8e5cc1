-- `lane_table::trace::enter_past` meets its contract.
use native.Mathlib.Omega.{arith}
use borrow.Author.Rules.{rules}
use Rattle.grammar.proofs.Laws.{behind_dot}
use Rattle.lane.proofs.Cells.{past_entered_lem, past_empty}
use Rattle.lane.proofs.trace.enter_past.Goals as goal

pub overflow_add-j : goal.overflow_add-j
overflow_add-j c = omega (arith, behind_dot _ _ c.requires.j_value.0)

pub begin-empty-requires-clause-in_range : goal.begin-empty-requires-clause-in_range
begin-empty-requires-clause-in_range c = search (rules, behind_dot)

pub begin-empty-requires-clause-long_enough : goal.begin-empty-requires-clause-long_enough
begin-empty-requires-clause-long_enough c = search (rules, behind_dot)

pub returns-clause-work_after : goal.returns-clause-work_after
returns-clause-work_after c = search (rules, past_entered_lem)

pub returns-clause-value : goal.returns-clause-value
returns-clause-value c = search (rules, past_entered_lem, past_empty)
