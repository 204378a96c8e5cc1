-- `least_steps::give::give_run` meets its contract. The loop's invariant: the entries up to place k were given the set at hand, and one of them lacked some of it or what is
-- left of them says whether one does. The measure is what is left of them.
use Prim.Native.Nat.{◌≤◌}
use mathlib.Core.Path.{◌≡◌}
use mathlib.Core.Bool.{not, ◌||◌}
use lib.ListN.{length}
use Rattle.least_steps.specs.Giving.{RunGiven, run_has}
use Rattle.least_steps.proofs.give.give_run.Given as goal

abbrev pub invariant-loop-k : goal.invariant-loop-k
invariant-loop-k l =
    (l.first ≤ l.k) × (l.k ≤ l.end) × (length l.work ≡ length l.initial.work) × RunGiven l.g l.to l.initial.work l.work l.first l.k
    × ((l.lacked || not (run_has l.g l.to l.initial.work l.k l.end)) ≡ not (run_has l.g l.to l.initial.work l.first l.end))
