-- `construct::joining_clone` meets its contract. The loop's invariant: what is left of the states says which clone is the first that joins. The measure is what is left of them.
use Rattle.construct.specs.Joins.{joins_as_clone}
use Rattle.groups.specs.MergeIn.{merge_in, table_of}
use Rattle.groups.specs.Groups.{Grouped, OnlyClosure}
use Rattle.base.specs.Loops.{first_from}
use Rattle.room.specs.Areas.{view}
use lib.ListN.{length}
use mathlib.Core.Path.{◌≡◌}
use Prim.Native.Nat.{◌≤◌, ◌-◌}
use Rattle.construct.proofs.joining_clone.Given as goal

abbrev pub invariant-loop-c : goal.invariant-loop-c
invariant-loop-c l = (l.c ≤ l.count) × (length l.work ≡ length l.initial.work) × Grouped l.lanes l.count (view l.work) × OnlyClosure (view l.initial.work) (view l.work) × (first_from (joins_as_clone (table_of l.lanes (view l.initial.work)) (merge_in (view l.initial.work) l.count) l.s.0 l.successor.0) (l.count - l.c) l.c ≡ first_from (joins_as_clone (table_of l.lanes (view l.initial.work)) (merge_in (view l.initial.work) l.count) l.s.0 l.successor.0) l.count 0)
