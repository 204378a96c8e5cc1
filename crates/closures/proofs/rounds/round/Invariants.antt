-- `closures::rounds::round` meets its contract. The loop's invariant: what is left of the round gives its sets. The measure is what is left of the records.
use Rattle.closures.proofs.LeftSides.{RoundLeft}
use Rattle.closures.specs.Closures.{is_canonical}
use Rattle.closures.proofs.rounds.round.Given as goal

abbrev pub invariant-loop-i : goal.invariant-loop-i
invariant-loop-i l = RoundLeft l.g (is_canonical l.mode) l.n l.count l.initial.work l.work l.i l.changed
