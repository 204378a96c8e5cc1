-- `least_sets::rounds::settle_state` meets its contract. The loop's invariant: what is left of the entries, from the sets at hand, gives the state's step, and something was
-- lacking or what is left says whether something is. The measure is what is left of the entries.
use Prim.Native.Nat.{◌≤◌, ◌+◌, ◌-◌}
use mathlib.Core.Path.{◌≡◌}
use mathlib.Core.Bool.{not, ◌||◌}
use lib.ListN.{length}
use Rattle.base.specs.Loops.{fold_from, any_from}
use Rattle.rules.specs.Records.{records}
use Rattle.rules.specs.First.{first_sets}
use Rattle.rules.specs.FinalCheck.{settle_entry}
use Rattle.room.specs.Areas.{view}
use Rattle.states.specs.StatesIn.{first_of}
use Rattle.least_steps.specs.Least.{least_of, OnlyLeast}
use Rattle.least_sets.specs.Steps.{settled_at, state_least, is_state_settled}
use Rattle.least_sets.proofs.rounds.settle_state.Given as goal

abbrev pub invariant-loop-k : goal.invariant-loop-k
invariant-loop-k l =
    (l.k ≤ l.size) × (l.size ≡ first_of (view l.initial.work) (l.state.0 + 1) - first_of (view l.initial.work) l.state.0) × (length l.work ≡ length l.initial.work) × OnlyLeast (view l.initial.work) (view l.work)
    × (fold_from (settle_entry (records l.g) (first_sets (records l.g)) l.state.0) (l.size - l.k) l.k (least_of l.count l.work) ≡ state_least l.g l.state.0 l.count l.initial.work)
    × ((l.lacked || any_from (λ k. not (settled_at (records l.g) (first_sets (records l.g)) l.state.0 k (least_of l.count l.work))) (l.size - l.k) l.k) ≡ not (is_state_settled l.g l.state.0 l.count l.initial.work))
