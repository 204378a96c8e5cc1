-- What a run is lent lies within the rooms that the program has.
use Rattle.std.specs.Prelude.{◌≤◌}
use Rattle.splicepost_drive.specs.declared.Lent.{Lent}

abbrev pub WithinRooms : Lent → Type 0
WithinRooms lent = (lent.stack ≤ 1100000) × (lent.list ≤ 1500000)
