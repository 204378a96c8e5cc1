-- `lr::append::append_kernel` meets its contract. The loop's invariant: what the entries that are left become, appended to the room at hand, gives the room of them all.
-- The measure is what is left of the run.
use Rattle.grammar.specs.Symbols.{symbol_named}
use Rattle.lr.proofs.Moves.{MoveLeft}
use Rattle.lr.proofs.append.append_kernel.Given as goal

abbrev pub invariant-loop-k : goal.invariant-loop-k
invariant-loop-k l = MoveLeft l.g (symbol_named l.symbol) l.first l.last l.end l.initial.work l.work l.to l.k
