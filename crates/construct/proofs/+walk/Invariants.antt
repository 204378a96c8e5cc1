-- `construct::walk` meets its contract. It calls itself with fewer states to walk. The loop's invariant: what is left of the successors,
-- walked from the merge as it stands, gives the outcome of all of them.
use Prim.Native.Nat.{◌≤◌}
use mathlib.Core.Path.{◌≡◌}
use lib.ListN.{length}
use Rattle.rules.specs.Limits.{limits}
use Rattle.room.specs.Areas.{view}
use Rattle.room.specs.Bounds.{LongEnough}
use Rattle.walks.specs.Whole.{walks_left}
use Rattle.groups.specs.MergeIn.{merge_in}
use Rattle.construct.proofs.Going.{Going, walk_rest}
use Rattle.construct.proofs.+walk.Given as goal

abbrev pub decreases-walk : goal.decreases-walk
decreases-walk l = walks_left limits (merge_in (view l.work.now) l.states)

abbrev pub invariant-loop-next : goal.invariant-loop-next
invariant-loop-next l =
    (l.next ≤ l.lanes.states) × (LongEnough l.work) × (length l.work ≡ length l.initial.work) × Going l.g l.lanes l.state.0 l.row.0 l.states l.count (view l.initial.work) (view l.work)
    × (walk_rest l.g l.lanes l.state.0 l.row.0 (view l.initial.work) l.next (merge_in (view l.work) l.count) ≡ walk_rest l.g l.lanes l.state.0 l.row.0 (view l.initial.work) 0 (merge_in (view l.initial.work) l.states))
