-- `actions::put::put_reductions` meets its contract. The loop's invariant: the reductions before place k are put. The measure is what is left of the entries.
use Prim.Native.Nat.{◌+◌, ◌≤◌}
use mathlib.Core.Path.{◌≡◌}
use lib.ListN.{length}
use Rattle.room.specs.Areas.{view}
use Rattle.conflicts.specs.Counts.{Readable}
use Rattle.actions.specs.Puts.{is_all, Added}
use Rattle.actions.proofs.Puts.{reductions_before}
use Rattle.actions.proofs.put.put_reductions.Given as goal

abbrev pub invariant-loop-k : goal.invariant-loop-k
invariant-loop-k l =
    (l.run.first ≤ l.k) × (l.k ≤ l.run.end) × (l.c ≤ l.from + l.k) × (length l.work ≡ length l.initial.work) × Readable l.g l.work l.run.first l.run.end
    × Added l.g (reductions_before l.g (is_all l.which) l.run.first l.run.end (view l.initial.work) l.k) l.from l.c (view l.initial.work) (view l.work)
