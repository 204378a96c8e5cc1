use Rattle.clones.proofs.Copies.{copied_none, copied_more, copied_all}
use borrow.Author.Rules.{rules}
use Rattle.clones.proofs.copy_entries.Goals as goal

pub loop-k-init : goal.loop-k-init
loop-k-init c = search (rules, copied_none)

pub loop-k-preserved : goal.loop-k-preserved
loop-k-preserved c = (search rules, search rules, search (rules, copied_more))

pub returns : goal.returns
returns c = search (rules, copied_all)
