-- `splicepost_c::splicepost_drive` meets its contract.
use Rattle.std.proofs.Common.{rules}
use Rattle.splicepost_c.proofs.Calling.{drive_called}
use Rattle.splicepost_c.proofs.splicepost_drive.Goals as goal

pub returns : goal.returns
returns c = search (rules, drive_called)
