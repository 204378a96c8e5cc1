-- `states::put_next` meets its contract.
use borrow.Author.Rules.{rules}
use Rattle.states.proofs.Entries.{item_small, next_put}
use Rattle.states.proofs.put_next.Goals as goal

pub pack-requires : goal.pack-requires
pack-requires c = search (rules, item_small)

pub returns : goal.returns
returns c = search (rules, next_put)
