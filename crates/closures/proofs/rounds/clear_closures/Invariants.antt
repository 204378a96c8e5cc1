-- `closures::rounds::clear_closures` meets its contract. The loop's invariant: the nonterminals before a have no set. The measure is how many are left.
use Rattle.closures.proofs.Kernels.{ClearLeft}
use Rattle.closures.proofs.rounds.clear_closures.Given as goal

abbrev pub invariant-loop-a : goal.invariant-loop-a
invariant-loop-a l = ClearLeft l.g l.m l.initial.work l.work l.a
