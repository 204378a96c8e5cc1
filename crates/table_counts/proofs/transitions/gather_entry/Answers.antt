-- `table_counts::transitions::gather_entry` meets its contract.
use borrow.Author.Rules.{rules}
use Rattle.grammar.proofs.Laws.{end_known}
use Rattle.table_counts.proofs.Targets.{ended_tells, other_tells, known_tells, new_tells}
use mathlib.Core.Path.{ap}
use mathlib.Core.Bool.{not}
use Rattle.table_counts.proofs.transitions.gather_entry.Goals as goal

pub returns-then-at_end : goal.returns-then-at_end
returns-then-at_end c = search (rules, ended_tells)

pub own_symbol-x-requires : goal.own_symbol-x-requires
own_symbol-x-requires c = search (rules, end_known)

pub returns-then-not-before : goal.returns-then-not-before
returns-then-not-before c = search (rules, other_tells)

pub returns-then-is_some : goal.returns-then-is_some
returns-then-is_some c = let stands = rw c.symbol_of.ensures at c.before-2.ensures in search (rules, known_tells, stands)

pub returns : goal.returns
returns c = new_tells _ _ _ _ _ _ c.requires.2 _ c.item-i.ensures c.at_end.ensures _ _ c.if-at_end.false c.own_symbol-x.ensures.0 (rw c.symbol_of.ensures at c.before-2.ensures) (ap not c.if-not-before.false) _ _ c.is_some.ensures c.if-is_some.false c.next.ensures c.own_symbol-x.ensures.1
