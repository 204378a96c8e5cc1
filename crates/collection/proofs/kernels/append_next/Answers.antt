-- `collection::kernels::append_next` meets its contract.
use borrow.Author.Rules.{rules}
use Rattle.collection.proofs.Next.{next_is_start, next_is_own}
use Rattle.collection.proofs.kernels.append_next.Goals as goal

pub returns-then-s-eq0 : goal.returns-then-s-eq0
returns-then-s-eq0 c = search (rules, next_is_start)

pub returns : goal.returns
returns c = search (rules, next_is_own)
