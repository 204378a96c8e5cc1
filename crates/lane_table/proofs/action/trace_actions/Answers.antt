use mathlib.Core.Path.{refl}
use borrow.Author.Rules.{rules}
use Rattle.lane_table.proofs.Builds.{acting_none, acting_on, action_fits, actions_turn, actions_end}
use Rattle.lane_table.proofs.action.trace_actions.Goals as goal

pub loop-c-init : goal.loop-c-init
loop-c-init c = (search rules, search rules, search (rules, acting_none), refl)

pub trace_action-requires-clause-tracing : goal.trace_action-requires-clause-tracing
trace_action-requires-clause-tracing c = (c.loop-c.invariant.2.tracing, c.loop-c.invariant.2.linked)

pub trace_action-requires-clause-long_enough : goal.trace_action-requires-clause-long_enough
trace_action-requires-clause-long_enough c = (search rules, search rules, action_fits _ _ _ _ _ c.loop-c.invariant.2 _ _ c.loop-c-test.true c.read_action-action.ensures)

pub loop-c-preserved : goal.loop-c-preserved
loop-c-preserved c = (search rules, search rules, search (rules, acting_on), actions_turn _ _ _ _ _ c.loop-c.invariant.2 _ _ c.loop-c-test.true c.read_action-action.ensures _ _ c.trace_action.ensures c.loop-c.invariant.3)

pub returns : goal.returns
returns c = search (rules, actions_end)
