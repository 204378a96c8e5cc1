-- `build_replay::run_case` meets its contract: what the builder promises has the records of a built table within the room.
use Rattle.std.proofs.Common.{rules}
use Rattle.builder.proofs.Calling.{built_fits}
use Rattle.build_replay.proofs.run_case.Goals as goal

pub write_built-requires : goal.write_built-requires
write_built-requires g c = search (rules, built_fits)
