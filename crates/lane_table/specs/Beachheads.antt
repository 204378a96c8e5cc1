-- Where the lanes begin.
use Rattle.std.specs.Prelude.{ℕ, Bool, ◌&&◌, not}
use Rattle.rules.specs.Lanes.{LaneTable, row_of, is_successor}

-- something was entered at state s, and it is nobody's successor: the test of `beachheads`
unfoldable pub is_beachhead : LaneTable → ℕ → Bool
is_beachhead table s = (row_of table s).entered && not (is_successor table s)
