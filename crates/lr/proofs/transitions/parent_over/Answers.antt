-- `lr::transitions::parent_over` meets its contract.
use Rattle.lr.proofs.Growing.{over_nonterminal, over_terminal}
use Rattle.lr.proofs.transitions.parent_over.Goals as goal

pub returns-in-Nonterminal : goal.returns-in-Nonterminal
returns-in-Nonterminal c = rw c.in-Nonterminal.is (over_nonterminal _ _ _ c.requires.0 (rw c.in-Nonterminal.is at c.requires.1) c.pack.ensures)

pub returns-in-Terminal : goal.returns-in-Terminal
returns-in-Terminal c = rw c.in-Terminal.is (over_terminal _ _ _ c.requires.0 (rw c.in-Terminal.is at c.requires.1) c.pack-in-Terminal.ensures)
