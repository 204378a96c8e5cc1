-- `conflicts::conflict_count` meets its contract. The loop's invariant: what was counted and what is left to count give the number. The measure is what is left of the states.
use Prim.Native.Nat.{◌≤◌, ◌-◌, ◌+◌, ◌*◌}
use mathlib.Core.Path.{◌≡◌}
use mathlib.Core.List.{map}
use Rattle.base.specs.Each.{each_from}
use Rattle.base.specs.Lists.{sum}
use Rattle.rules.specs.Records.{records}
use Rattle.rules.specs.States.{conflicts_at, conflict_count}
use Rattle.room.specs.Areas.{view}
use Rattle.states.specs.StatesIn.{state_in, states_in}
use Rattle.conflicts.specs.Counts.{max_of_state}
use Rattle.conflicts.proofs.conflict_count.Given as goal

abbrev pub invariant-loop-s : goal.invariant-loop-s
invariant-loop-s l =
    (l.s ≤ l.count) × (l.conflicts ≤ max_of_state * l.s)
    × (l.conflicts + sum (map (conflicts_at (records l.g)) (each_from (state_in (view l.work)) l.s (l.count - l.s))) ≡ conflict_count (records l.g) (states_in (view l.work) l.count))
