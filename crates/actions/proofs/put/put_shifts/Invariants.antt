-- `actions::put::put_shifts` meets its contract. The loop's invariant: the shifts of the terminals below t are put. The measure is what is left of the terminals.
use Prim.Native.Nat.{◌≤◌}
use mathlib.Core.Path.{◌≡◌}
use lib.ListN.{length}
use Rattle.rules.specs.Records.{records}
use Rattle.room.specs.Areas.{view}
use Rattle.states.specs.StatesIn.{run_in}
use Rattle.conflicts.specs.Counts.{Readable}
use Rattle.actions.specs.Puts.{Added}
use Rattle.actions.proofs.Puts.{shifts_below}
use Rattle.actions.proofs.put.put_shifts.Given as goal

abbrev pub invariant-loop-t : goal.invariant-loop-t
invariant-loop-t l =
    (l.t ≤ l.run.terminals) × (l.c ≤ l.t) × (length l.work ≡ length l.initial.work) × Readable l.g l.work l.run.first l.run.end
    × Added l.g (shifts_below (records l.g) (run_in (view l.initial.work) l.run.first l.run.end) l.t) 0 l.c (view l.initial.work) (view l.work)
