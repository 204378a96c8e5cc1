-- `first::rounds::clear_firsts` meets its contract. The loop's invariant: the slots of the nonterminals before a are empty. The measure is what is left of them.
use Prim.Native.Nat.{◌≤◌}
use mathlib.Core.Path.{◌≡◌}
use lib.ListN.{length}
use Rattle.room.specs.Areas.{view}
use Rattle.first.specs.Firsts.{FirstsCleared}
use Rattle.first.proofs.rounds.clear_firsts.Given as goal

abbrev pub invariant-loop-a : goal.invariant-loop-a
invariant-loop-a l = (l.a ≤ l.m) × (length l.work ≡ length l.initial.work) × FirstsCleared l.a (view l.initial.work) (view l.work)
