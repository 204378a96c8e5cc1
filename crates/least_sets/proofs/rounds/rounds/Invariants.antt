-- `least_sets::rounds::rounds` meets its contract. The loop's invariant: the rounds that are left, from the sets at hand, give those of all rounds. The measure is the number
-- of rounds left.
use Prim.Native.Nat.{◌≤◌, ◌-◌}
use mathlib.Core.Path.{◌≡◌}
use lib.ListN.{length}
use Rattle.base.specs.Loops.{until}
use Rattle.rules.specs.Records.{records}
use Rattle.rules.specs.First.{first_sets}
use Rattle.rules.specs.FinalCheck.{least_settled, least_round}
use Rattle.room.specs.Areas.{view}
use Rattle.least_steps.specs.Least.{least_of, OnlyLeast}
use Rattle.least_sets.specs.Rounds.{rounds_least}
use Rattle.least_sets.proofs.rounds.rounds.Given as goal

abbrev pub invariant-loop-turn : goal.invariant-loop-turn
invariant-loop-turn l =
    (l.turn ≤ l.bound) × (l.bound ≤ 129024) × (length l.work ≡ length l.initial.work) × OnlyLeast (view l.initial.work) (view l.work)
    × (until (least_settled (records l.g) (first_sets (records l.g)) l.count) (least_round (records l.g) (first_sets (records l.g)) l.count) (l.bound - l.turn) (least_of l.count l.work) ≡ rounds_least l.g l.n l.count l.initial.work)
