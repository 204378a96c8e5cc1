-- `lr::links::lead` meets its contract. The loop's invariant: the entries before k lead where they should, and no other has changed. The measure is what is left of the run.
use Rattle.grammar.specs.Symbols.{symbol_named}
use Rattle.lr.proofs.Leading.{LeadLeft}
use Rattle.lr.proofs.links.lead.Given as goal

abbrev pub invariant-loop-k : goal.invariant-loop-k
invariant-loop-k l = LeadLeft l.g (symbol_named l.symbol) l.first l.end l.t.0 l.initial.work l.work l.k
