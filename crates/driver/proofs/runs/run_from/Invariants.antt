-- `driver::runs::run_from` meets its contract. The loop's invariant: what is left of the run gives the same answer. The measure is what is left of the limit.
use Prim.Native.Nat.{◌-◌}
use mathlib.Core.Path.{◌≡◌}
use lib.ListN.{length}
use Rattle.driver.specs.Standings.{Stands, left_run}
use Rattle.driver.proofs.runs.run_from.Given as goal

abbrev pub invariant-loop-next : goal.invariant-loop-next
invariant-loop-next l =
    Stands l.limit l.stack l.here
    × (length l.stack ≡ length l.initial.stack)
    × (length l.list ≡ length l.initial.list)
    × (left_run l.g l.t l.tokens l.limit l.stack l.list l.here ≡ left_run l.g l.t l.tokens l.limit l.initial.stack l.initial.list l.initial.here)

abbrev pub decreases-loop-next : goal.decreases-loop-next
decreases-loop-next l = l.limit - l.here.steps
