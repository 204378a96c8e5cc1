-- `lane_table::action::trace_actions` meets its contract. The loop's invariant: what is left of the actions, from the room at hand, gives the same table. The measure is what is left of the columns.
use Prim.Native.Nat.{◌≤◌}
use mathlib.Core.Path.{◌≡◌}
use lib.ListN.{length}
use Rattle.room.specs.Areas.{view}
use Rattle.lane_table.specs.Actions.{table_of}
use Rattle.lane_table.proofs.Builds.{Acting, actions_rest}
use Rattle.lane_table.proofs.action.trace_actions.Given as goal

abbrev pub invariant-loop-c : goal.invariant-loop-c
invariant-loop-c l =
    (l.c ≤ l.lanes.columns) × (length l.work ≡ length l.initial.work) × Acting l.g l.lanes l.state.0 (view l.initial.work) (view l.work)
    × (actions_rest l.g l.lanes l.state.0 (view l.initial.work) l.c (table_of l.lanes (view l.work)) ≡ actions_rest l.g l.lanes l.state.0 (view l.initial.work) 0 (table_of l.lanes (view l.initial.work)))
