-- `first::suffix::join_symbol` meets its contract.
use borrow.Author.Rules.{rules}
use Rattle.grammar.proofs.Coded.{symbol_read}
use Rattle.first.proofs.Collects.{first_slot_low, terminal_joined, terminal_stops, nonterminal_joined, nonterminal_goes}
use Rattle.first.proofs.suffix.join_symbol.Goals as goal

pub insert-requires : goal.insert-requires
insert-requires c = search (rules, symbol_read)

pub returns-then-is_terminal-clause-work_after : goal.returns-then-is_terminal-clause-work_after
returns-then-is_terminal-clause-work_after c = search (rules, terminal_joined)

pub returns-then-is_terminal-clause-value : goal.returns-then-is_terminal-clause-value
returns-then-is_terminal-clause-value c = search (rules, terminal_stops)

pub first_slot-s-requires : goal.first_slot-s-requires
first_slot-s-requires c = search (rules, symbol_read)

pub join_into-requires : goal.join_into-requires
join_into-requires c = search (rules, first_slot_low)

pub returns-clause-work_after : goal.returns-clause-work_after
returns-clause-work_after c = search (rules, nonterminal_joined)

pub returns-clause-value : goal.returns-clause-value
returns-clause-value c = search (rules, nonterminal_goes)
