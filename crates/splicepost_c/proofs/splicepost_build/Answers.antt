-- `splicepost_c::splicepost_build` meets its contract.
use Rattle.std.proofs.Common.{rules}
use Rattle.splicepost_c.proofs.Calling.{build_called}
use Rattle.splicepost_c.proofs.splicepost_build.Goals as goal

pub returns : goal.returns
returns c = search (rules, build_called)
