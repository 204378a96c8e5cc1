-- `lr::transitions::add_transitions` meets its contract. The loops' invariants: the transitions that are left give the same outcome.
use Rattle.lr.proofs.Turning.{NonterminalsLeft, TerminalsLeft}
use Rattle.lr.proofs.transitions.add_transitions.Given as goal

abbrev pub invariant-loop-a : goal.invariant-loop-a
invariant-loop-a l = NonterminalsLeft l.g l.n l.m l.s.0 l.count l.fn.work l.work l.states l.a

abbrev pub invariant-loop-t : goal.invariant-loop-t
invariant-loop-t l = TerminalsLeft l.g l.n l.s.0 l.count l.fn.work l.work l.states l.t
