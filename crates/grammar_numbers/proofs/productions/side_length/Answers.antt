-- `grammar_numbers::productions::side_length` meets its contract.
use borrow.Author.Rules.{rules}
use Rattle.grammar_numbers.proofs.Halving.{side_counted}
use Rattle.grammar_numbers.proofs.productions.side_length.Goals as goal

pub returns : goal.returns
returns c = search (rules, side_counted)
