-- `collection::kernels::append_start` meets its contract.
use borrow.Author.Rules.{rules}
use Rattle.closures.proofs.Modes.{by_canonical, by_lane}
use Rattle.collection.proofs.Next.{start_with_eof, start_with_all}
use Rattle.collection.proofs.kernels.append_start.Goals as goal

pub returns-in-Canonical : goal.returns-in-Canonical
returns-in-Canonical c = search (rules, start_with_eof, by_canonical)

pub returns-in-Lane : goal.returns-in-Lane
returns-in-Lane c = search (rules, start_with_all, by_lane)
