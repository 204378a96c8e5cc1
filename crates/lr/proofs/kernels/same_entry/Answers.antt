-- `lr::kernels::same_entry` meets its contract.
use borrow.Author.Rules.{rules}
use Rattle.lr.proofs.Walks.{entries_differ, entries_alike}
use Rattle.lr.proofs.kernels.same_entry.Goals as goal

pub returns-else-item : goal.returns-else-item
returns-else-item c = search (rules, entries_differ)

pub returns-then-item : goal.returns-then-item
returns-then-item c = search (rules, entries_alike)
