-- `merging::take_all` meets its contract. The loop's invariant: what is left of the clones gives the same states from those at hand. The measure is what is left of the states.
use Rattle.merging.proofs.Takers.{take_rest}
use Rattle.merging.specs.Takes.{OnlyTaken}
use Rattle.construct.specs.Merges.{Mergeable}
use Rattle.states.specs.StatesIn.{states_in}
use Rattle.room.specs.Areas.{view}
use Rattle.room.specs.Bounds.{LongEnough}
use lib.ListN.{length}
use mathlib.Core.Path.{◌≡◌}
use Prim.Native.Nat.{◌≤◌}
use Rattle.merging.proofs.take_all.Given as goal

abbrev pub invariant-loop-t : goal.invariant-loop-t
invariant-loop-t l =
    (l.t ≤ l.count) × (LongEnough l.work) × (length l.work ≡ length l.initial.work) × Mergeable l.g l.lanes l.count (view l.work) × OnlyTaken (view l.initial.work) (view l.work)
    × (take_rest l.lanes l.state.0 l.count (view l.initial.work) l.t (states_in (view l.work) l.count) ≡ take_rest l.lanes l.state.0 l.count (view l.initial.work) 0 (states_in (view l.initial.work) l.count))
