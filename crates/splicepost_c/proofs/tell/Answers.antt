-- `splicepost_c::tell` meets its contract.
use Rattle.std.proofs.Common.{rules, refl}
use Rattle.splicepost_c.proofs.Filling.{three_put}
use Rattle.splicepost_c.proofs.tell.Goals as goal

pub returns : goal.returns
returns c = (refl, search (rules, three_put))
