-- `room::areas::get` meets its contract.
use borrow.Author.Rules.{rules}
use Rattle.room.proofs.AreaReads.{area_read}
use Rattle.room.proofs.areas.get.Goals as goal

pub returns : goal.returns
returns g c = search (rules, area_read _ _ _ _ g.A.Area.laws)
