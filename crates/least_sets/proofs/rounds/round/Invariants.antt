-- `least_sets::rounds::round` meets its contract. The loop's invariant: what is left of the states, from the sets at hand, gives the round, and something was lacking or what
-- is left says whether something is. The measure is what is left of the states.
use Prim.Native.Nat.{◌≤◌, ◌-◌}
use mathlib.Core.Path.{◌≡◌}
use mathlib.Core.Bool.{not, ◌||◌}
use lib.ListN.{length}
use Rattle.base.specs.Loops.{fold_from, any_from}
use Rattle.rules.specs.Records.{records}
use Rattle.rules.specs.First.{first_sets}
use Rattle.rules.specs.FinalCheck.{settle_state}
use Rattle.room.specs.Areas.{view}
use Rattle.least_steps.specs.Least.{least_of, OnlyLeast}
use Rattle.least_sets.specs.Steps.{state_settled, round_least, is_round_settled}
use Rattle.least_sets.proofs.rounds.round.Given as goal

abbrev pub invariant-loop-s : goal.invariant-loop-s
invariant-loop-s l =
    (l.s ≤ l.count) × (length l.work ≡ length l.initial.work) × OnlyLeast (view l.initial.work) (view l.work)
    × (fold_from (settle_state (records l.g) (first_sets (records l.g))) (l.count - l.s) l.s (least_of l.count l.work) ≡ round_least l.g l.count l.initial.work)
    × ((l.lacked || any_from (λ s. not (state_settled (records l.g) (first_sets (records l.g)) s (least_of l.count l.work))) (l.count - l.s) l.s) ≡ not (is_round_settled l.g l.count l.initial.work))
