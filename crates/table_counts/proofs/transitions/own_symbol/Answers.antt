-- `table_counts::transitions::own_symbol` meets its contract.
use borrow.Author.Rules.{rules}
use Rattle.table_counts.proofs.Targets.{own_below}
use Rattle.table_counts.proofs.transitions.own_symbol.Goals as goal

pub returns : goal.returns
returns c = search (rules, own_below)
