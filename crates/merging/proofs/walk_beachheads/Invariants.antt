-- `merging::walk_beachheads` meets its contract. The loop's invariant: what is left of the beachheads, walked from the merge as it stands, gives the outcome of all of them.
use Rattle.merging.proofs.Walking.{walks_rest}
use Rattle.construct.specs.Merges.{OnlyMerge, Mergeable}
use Rattle.groups.specs.MergeIn.{merge_in}
use Rattle.rules.specs.Limits.{max_states}
use Rattle.room.specs.Areas.{view}
use Rattle.room.specs.Bounds.{LongEnough}
use lib.ListN.{length}
use mathlib.Core.Path.{◌≡◌}
use Prim.Native.Nat.{◌≤◌}
use Rattle.merging.proofs.walk_beachheads.Given as goal

abbrev pub invariant-loop-next : goal.invariant-loop-next
invariant-loop-next l =
    (l.next ≤ l.lanes.states) × (LongEnough l.work) × (length l.work ≡ length l.initial.work) × (l.lanes.states ≤ max_states) × (l.lanes.states ≤ l.count) × Mergeable l.g l.lanes l.count (view l.work) × OnlyMerge (view l.initial.work) (view l.work)
    × (walks_rest l.g l.lanes (view l.initial.work) l.next (merge_in (view l.work) l.count) ≡ walks_rest l.g l.lanes (view l.initial.work) 0 (merge_in (view l.initial.work) l.lanes.states))
