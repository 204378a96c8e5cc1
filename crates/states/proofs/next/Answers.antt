-- `states::next` meets its contract.
use borrow.Author.Rules.{rules}
use Rattle.states.proofs.Entries.{next_read}
use Rattle.states.proofs.next.Goals as goal

pub returns : goal.returns
returns c = search (rules, next_read)
