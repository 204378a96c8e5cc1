-- `lane_table::clear::clear_visits` meets its contract. The loop's invariant: nothing is visited in the states before s. The measure is what is left of them.
use Prim.Native.Nat.{◌≤◌}
use mathlib.Core.Path.{◌≡◌}
use lib.ListN.{length}
use Rattle.room.specs.Areas.{view}
use Rattle.lane_table.specs.Clears.{VisitsCleared}
use Rattle.lane_table.proofs.clear.clear_visits.Given as goal

abbrev pub invariant-loop-s : goal.invariant-loop-s
invariant-loop-s l = (l.s ≤ l.count) × (length l.work ≡ length l.initial.work) × VisitsCleared l.s (view l.initial.work) (view l.work)
