-- `table_counts::transitions::gather` meets its contract. The loop's invariant: what is told and what is left to tell give the targets. The measure is what is left of the entries.
use Prim.Native.Nat.{◌≤◌}
use Rattle.table_counts.specs.Sides.{side_number}
use Rattle.table_counts.proofs.Targets.{GatherLeft}
use Rattle.table_counts.proofs.transitions.gather.Given as goal

abbrev pub invariant-loop-k : goal.invariant-loop-k
invariant-loop-k l = (l.first ≤ l.k) × GatherLeft l.g l.work (side_number l.side) l.first l.end l.targets l.k
