-- `groups::join_groups` meets its contract. The loop's invariant: the states before k came to the group. The measure is what is left of them.
use Rattle.groups.proofs.Moves.{MovedUpto}
use Rattle.room.specs.Areas.{view}
use lib.ListN.{length}
use mathlib.Core.Path.{◌≡◌}
use Prim.Native.Nat.{◌≤◌}
use Rattle.groups.proofs.join_groups.Given as goal

abbrev pub invariant-loop-k : goal.invariant-loop-k
invariant-loop-k l = (l.k ≤ l.count) × (length l.work ≡ length l.initial.work) × MovedUpto l.from l.to l.k (view l.initial.work) (view l.work)
