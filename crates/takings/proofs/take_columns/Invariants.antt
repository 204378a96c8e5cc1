-- `takings::take_columns` meets its contract. The loop's invariant: the entries before place k took their columns. The measure is what is left of the entries.
use Rattle.takings.proofs.Sweep.{TakenUpto}
use Rattle.room.specs.Areas.{view}
use lib.ListN.{length}
use mathlib.Core.Path.{◌≡◌}
use Prim.Native.Nat.{◌≤◌}
use Rattle.takings.proofs.take_columns.Given as goal

abbrev pub invariant-loop-k : goal.invariant-loop-k
invariant-loop-k l = (l.first ≤ l.k) × (l.k ≤ l.end) × (length l.work ≡ length l.initial.work) × TakenUpto l.width l.at l.first l.k (view l.initial.work) (view l.work)
