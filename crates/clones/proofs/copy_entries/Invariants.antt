-- `clones::copy_entries` meets its contract. The loop's invariant: the first k entries are copied. The measure is what is left of them.
use Rattle.clones.specs.Clones.{Copied}
use Rattle.room.specs.Areas.{view}
use lib.ListN.{length}
use mathlib.Core.Path.{◌≡◌}
use Prim.Native.Nat.{◌≤◌}
use Rattle.clones.proofs.copy_entries.Given as goal

abbrev pub invariant-loop-k : goal.invariant-loop-k
invariant-loop-k l = (l.k ≤ l.size) × (length l.work ≡ length l.initial.work) × Copied l.first l.k l.at (view l.initial.work) (view l.work)
