-- `closures::rounds::rounds` meets its contract. The loop's invariant: the rounds that are left give the sets of all of them. The measure is the number of rounds left.
use Prim.Native.Nat.{◌≤◌}
use Rattle.closures.proofs.LeftSides.{RoundsLeft}
use Rattle.closures.specs.Closures.{is_canonical}
use Rattle.closures.proofs.rounds.rounds.Given as goal

abbrev pub invariant-loop-turn : goal.invariant-loop-turn
invariant-loop-turn l = (l.bound ≤ 4032) × RoundsLeft l.g (is_canonical l.mode) l.n l.bound l.initial.work l.work l.turn
