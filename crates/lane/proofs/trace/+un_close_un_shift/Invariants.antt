-- `go_back`, `un_close` and `un_shift` meet their contracts. The measure is twice the number of pairs of state and item that are not visited, and 1 more before the half is known. The loops'
-- invariants: what is left of the predecessors, or of the entries, gives the same trace from the room at hand.
use Prim.Native.Nat.{◌+◌, ◌*◌, ◌≤◌}
use mathlib.Core.Path.{◌≡◌}
use lib.ListN.{length}
use Rattle.room.specs.Areas.{view}
use Rattle.room.specs.Bounds.{LongEnough}
use Rattle.lane.specs.Traces.{trace_of, left_in}
use Rattle.lane.proofs.Going.{Going}
use Rattle.lane.proofs.ShiftLoop.{shift_rest}
use Rattle.lane.proofs.CloseLoop.{close_rest, AtEntry}
use Rattle.lane.proofs.trace.+un_close_un_shift.Given as goal

abbrev pub decreases-go_back : goal.decreases-go_back
decreases-go_back l = 2 * left_in l.g.now l.lanes (view l.work.now) + 1

abbrev pub decreases-un_close : goal.decreases-un_close
decreases-un_close l = 2 * left_in l.g.now l.lanes (view l.work.now)

abbrev pub invariant-un_close-loop-k : goal.invariant-un_close-loop-k
invariant-un_close-loop-k l =
    LongEnough l.work × (length l.work ≡ length l.initial.work) × AtEntry l.g l.lanes l.column.0 l.state.0 l.i l.a l.first l.end (view l.initial.work) (view l.work) l.k
    × (close_rest l.g l.lanes l.column.0 l.state.0 l.a l.end (view l.initial.work) l.k (trace_of l.lanes (view l.work)) ≡ close_rest l.g l.lanes l.column.0 l.state.0 l.a l.end (view l.initial.work) l.first (trace_of l.lanes (view l.initial.work)))

abbrev pub decreases-un_shift : goal.decreases-un_shift
decreases-un_shift l = 2 * left_in l.g.now l.lanes (view l.work.now)

abbrev pub invariant-un_shift-loop-next : goal.invariant-un_shift-loop-next
invariant-un_shift-loop-next l =
    (l.next ≤ l.lanes.states) × (LongEnough l.work) × (length l.work ≡ length l.initial.work) × Going l.g l.lanes l.column.0 l.state.0 l.i (view l.initial.work) (view l.work)
    × (shift_rest l.g l.lanes l.column.0 l.state.0 l.i (view l.initial.work) l.next (trace_of l.lanes (view l.work)) ≡ shift_rest l.g l.lanes l.column.0 l.state.0 l.i (view l.initial.work) 0 (trace_of l.lanes (view l.initial.work)))
