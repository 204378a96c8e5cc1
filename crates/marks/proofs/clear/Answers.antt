-- `marks::clear` meets its contract.
use borrow.Author.Rules.{rules}
use Rattle.marks.proofs.Words.{emptying_starts, emptying_goes, emptying_ends}
use Rattle.marks.proofs.clear.Goals as goal

pub loop-k-init : goal.loop-k-init
loop-k-init g c = search (rules, emptying_starts)

pub loop-k-preserved : goal.loop-k-preserved
loop-k-preserved g c = search (rules, emptying_goes)

pub returns : goal.returns
returns g c = search (rules, emptying_ends, g.met.M.Marks.laws.clears)
