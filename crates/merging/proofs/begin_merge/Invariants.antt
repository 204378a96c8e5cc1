-- `merging::begin_merge` meets its contract. The loop's invariant: the states before s are groups of their own. The measure is what is left of them.
use Rattle.merging.proofs.Beginnings.{BegunUpto}
use Rattle.rules.specs.Limits.{max_states}
use Rattle.room.specs.Areas.{view}
use Rattle.room.specs.Bounds.{LongEnough}
use lib.ListN.{length}
use mathlib.Core.Path.{◌≡◌}
use Prim.Native.Nat.{◌≤◌}
use Rattle.merging.proofs.begin_merge.Given as goal

abbrev pub invariant-loop-s : goal.invariant-loop-s
invariant-loop-s l = (l.s ≤ l.count) × (l.count ≤ max_states) × (LongEnough l.work) × (length l.work ≡ length l.initial.work) × BegunUpto l.s (view l.initial.work) (view l.work)
