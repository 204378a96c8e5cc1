-- `lane_table::rows::all_columns` meets its contract. The loop's invariant: what is left of the rows gives the same columns from those at hand. The measure is what is left of the rows.
use Prim.Native.Nat.{◌≤◌, ◌+◌}
use mathlib.Core.Path.{◌≡◌}
use lib.ListN.{length}
use Rattle.room.specs.Areas.{view}
use Rattle.context_set.specs.Columns.{columns_at, OnlyColumns}
use Rattle.lane.specs.Table.{first_cell}
use Rattle.lane_table.proofs.Columns.{columns_rest}
use Rattle.lane_table.proofs.rows.all_columns.Given as goal

abbrev pub invariant-loop-s : goal.invariant-loop-s
invariant-loop-s l =
    (l.s ≤ l.count) × (l.joined + l.width ≤ first_cell) × (length l.work ≡ length l.initial.work) × OnlyColumns l.joined l.width (view l.initial.work) (view l.work)
    × (columns_rest (view l.initial.work) l.count l.width l.s (columns_at (view l.work) l.joined l.width) ≡ columns_rest (view l.initial.work) l.count l.width 0 (columns_at (view l.initial.work) l.joined l.width))
