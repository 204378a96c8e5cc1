-- `clones::copy_entry` meets its contract.
use Rattle.clones.proofs.Copies.{copy_put}
use borrow.Author.Rules.{rules}
use Rattle.clones.proofs.copy_entry.Goals as goal

pub returns : goal.returns
returns c = search (rules, copy_put)
