-- `splicepost::build_asked` meets its contract: what the builder promises has the records of a built table within the room.
use Rattle.std.proofs.Common.{rules}
use Rattle.builder.proofs.Calling.{built_fits}
use Rattle.splicepost.proofs.build_asked.Goals as goal

pub write_bytes-requires : goal.write_bytes-requires
write_bytes-requires g c = search (rules, built_fits)

pub write_built-requires : goal.write_built-requires
write_built-requires g c = search (rules, built_fits)
