-- `marks::has` meets its contract.
use borrow.Author.Rules.{rules}
use Rattle.marks.proofs.Words.{member_read}
use Rattle.marks.proofs.has.Goals as goal

pub returns : goal.returns
returns g c = search (rules, member_read _ _ _ _ _ _ _ g.met.M.Marks.laws)
