-- `conflicts::conflicts_at` meets its contract. The loop's invariant: what was counted and what is left to count give the number. The measure is what is left of the entries.
use Prim.Native.Nat.{◌≤◌, ◌-◌, ◌+◌, ◌*◌}
use mathlib.Core.Path.{◌≡◌}
use lib.ListN.{length}
use Rattle.rules.specs.Records.{records}
use Rattle.rules.specs.States.{conflicts_at}
use Rattle.room.specs.Areas.{view}
use Rattle.room.specs.Bounds.{FewTerminals}
use Rattle.states.specs.StatesIn.{run_in, PlacedRun}
use Rattle.conflicts.specs.Counts.{conflicts_from, max_of_entry}
use Rattle.conflicts.proofs.conflicts_at.Given as goal

abbrev pub invariant-loop-k : goal.invariant-loop-k
invariant-loop-k l =
    (l.first ≤ l.k) × (l.k ≤ l.end) × (l.count ≤ max_of_entry * (l.k - l.first)) × FewTerminals l.n × PlacedRun (length (records l.g)) (view l.work) l.first l.end
    × (l.count + conflicts_from (records l.g) (run_in (view l.work) l.first l.end) (run_in (view l.work) l.k l.end) ≡ conflicts_at (records l.g) (run_in (view l.work) l.first l.end))
