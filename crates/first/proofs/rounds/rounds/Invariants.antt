-- `first::rounds::rounds` meets its contract. The loop's invariant: the rounds that are left, from the sets at hand, give FIRST. The measure is the number of rounds left.
use Prim.Native.Nat.{◌≤◌, ◌-◌}
use mathlib.Core.Path.{◌≡◌}
use lib.ListN.{length}
use Rattle.base.specs.Loops.{until}
use Rattle.base.specs.Lists.{fold_over}
use Rattle.rules.specs.Records.{records}
use Rattle.rules.specs.Grammar.{left_sides}
use Rattle.rules.specs.First.{add_first, first_settled, first_sets}
use Rattle.room.specs.Areas.{view}
use Rattle.first.specs.Firsts.{firsts_in, OnlyFirsts}
use Rattle.first.proofs.rounds.rounds.Given as goal

abbrev pub invariant-loop-turn : goal.invariant-loop-turn
invariant-loop-turn l =
    (l.turn ≤ l.bound) × (l.bound ≤ 4032) × (length l.work ≡ length l.initial.work) × OnlyFirsts (records l.g) (view l.initial.work) (view l.work)
    × (until (first_settled (records l.g) l.n) (fold_over (add_first (records l.g) l.n) (left_sides (records l.g))) (l.bound - l.turn) (firsts_in (records l.g) (view l.work)) ≡ first_sets (records l.g))
