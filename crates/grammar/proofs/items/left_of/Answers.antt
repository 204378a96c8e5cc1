-- `grammar::items::left_of` meets its contract.
use borrow.Author.Rules.{rules}
use Rattle.grammar.proofs.LeftSides.{left_found, left_below}
use Rattle.grammar.proofs.items.left_of.Goals as goal

pub returns : goal.returns
returns c = search (rules, left_found, left_below)
