-- `base::partition_point` meets its contract. The loop's invariant: what stands below `low` passes the test, and `high` does not. The measure is the number of those between them.
use Rattle.std.proofs.Common.{ℕ, ◌-◌, ◌≤◌, Bool}
use Rattle.base.specs.Halving.{Answers, PassInFront}
use Rattle.base.proofs.Halving.{Halved}
use Rattle.base.proofs.partition_point.Given as goal

abbrev pub invariant-loop-low : goal.invariant-loop-low
invariant-loop-low g l =
    (l.low ≤ l.high)
    × (l.high ≤ l.count)
    × ((test : ℕ → Bool) → Answers l.count (goal.F-post g l.before) test → PassInFront l.count test → Halved test l.count l.low l.high)

abbrev pub decreases-loop-low : goal.decreases-loop-low
decreases-loop-low g l = l.high - l.low
