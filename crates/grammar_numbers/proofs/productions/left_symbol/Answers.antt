-- `grammar_numbers::productions::left_symbol` meets its contract.
use borrow.Author.Rules.{rules}
use Rattle.grammar.proofs.LeftSides.{left_found}
use Rattle.grammar_numbers.proofs.Halving.{left_none}
use Rattle.grammar_numbers.proofs.productions.left_symbol.Goals as goal

pub returns-then-left-record_count : goal.returns-then-left-record_count
returns-then-left-record_count c = search (rules, left_found)

pub returns : goal.returns
returns c = search (rules, left_none)
