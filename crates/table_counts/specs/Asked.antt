-- What reading the states in the room asks.
use Rattle.std.specs.Prelude.{ℕ, ◌+◌, ◌*◌, ◌≤◌, ◌<◌, List, length}
use Rattle.rules.specs.Limits.{max_states, max_entries}
use Rattle.rules.specs.Records.{records}
use Rattle.room.specs.Areas.{view}
use Rattle.room.specs.Bounds.{LongEnough}
use Rattle.states.specs.StatesIn.{entry_in, PlacedAt}

-- the entries of state s can be read, and their items in the bytes of the grammar
pub record Readable (bytes work : List ℕ) (s : ℕ) : Type 0 where
  pub long : LongEnough work
  pub few : s < max_states
  pub placed : PlacedAt (length (records bytes)) (view work) s

-- and so can the entry at place k
pub record ReadableEntry (bytes work : List ℕ) (k : ℕ) : Type 0 where
  pub long : LongEnough work
  pub few : k < max_entries
  pub within : 8 * (entry_in (view work) k).item + 8 ≤ length bytes
