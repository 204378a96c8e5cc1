-- `actions::put::add_action` meets its contract.
use borrow.Author.Rules.{rules}
use Rattle.actions.proofs.Numbers.{added_past, added_one}
use Rattle.actions.proofs.put.add_action.Goals as goal

pub returns-then-c-ge-MAX_COLUMNS : goal.returns-then-c-ge-MAX_COLUMNS
returns-then-c-ge-MAX_COLUMNS c = search (rules, added_past)

pub returns : goal.returns
returns c = search (rules, added_one)
