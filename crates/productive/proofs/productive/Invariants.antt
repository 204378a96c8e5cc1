-- `productive::productive` meets its contract. The loop's invariant: the rounds that are left, from the set at hand, give the set. The measure is the number of rounds left.
use Prim.Native.Nat.{◌≤◌, ◌-◌}
use mathlib.Core.Path.{◌≡◌}
use Rattle.base.specs.Lists.{fold_over}
use Rattle.base.specs.Loops.{until}
use Rattle.rules.specs.Grammar.{left_sides, collect, all_collected, productive}
use Rattle.rules.specs.Records.{records}
use Rattle.productive.proofs.productive.Given as goal

abbrev pub invariant-loop-turn : goal.invariant-loop-turn
invariant-loop-turn l = (l.turn ≤ l.m) × (until (all_collected (records l.g)) (fold_over (collect (records l.g)) (left_sides (records l.g))) (l.m - l.turn) l.found ≡ productive (records l.g))
