-- `states::item` meets its contract.
use borrow.Author.Rules.{rules}
use Rattle.states.proofs.Entries.{item_read}
use Rattle.states.proofs.item.Goals as goal

pub returns : goal.returns
returns c = search (rules, item_read)
