-- `groups::group_columns` meets its contract. The loop's invariant: what is left of the members, joined in, gives the group's columns. The measure is what is left of the states.
use Rattle.groups.proofs.Members.{gather_rest}
use Rattle.groups.specs.Groups.{Rowed}
use Rattle.context_set.specs.Columns.{columns_at, OnlyColumns}
use Rattle.room.specs.Areas.{view}
use lib.ListN.{length}
use mathlib.Core.Path.{◌≡◌}
use Prim.Native.Nat.{◌≤◌}
use Rattle.groups.proofs.group_columns.Given as goal

abbrev pub invariant-loop-s : goal.invariant-loop-s
invariant-loop-s l = (l.s ≤ l.count) × (length l.work ≡ length l.initial.work) × Rowed l.count (view l.work) × OnlyColumns l.at l.width (view l.initial.work) (view l.work) × (gather_rest l.width l.count l.group (view l.initial.work) l.s (columns_at (view l.work) l.at l.width) ≡ gather_rest l.width l.count l.group (view l.initial.work) 0 (columns_at (view l.initial.work) l.at l.width))
