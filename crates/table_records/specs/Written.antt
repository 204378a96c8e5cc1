-- Records written into the table room from its front on, each at the bytes of its number.
use Rattle.std.specs.Prelude.{ℕ, ◌*◌, ◌≤◌, List, ◌++◌, length, take, drop}
use Rattle.rules.specs.Table.{TableRecord, table_bytes}
use Rattle.rules.specs.Rooms.{overwritten}

-- the room with bytes written from the place `at` on; those before it and those past them keep theirs
unfoldable pub written_at : ℕ → List ℕ → List ℕ → List ℕ
unfolding overwritten
written_at at bytes room = take at room ++ overwritten bytes (drop at room)

-- the room after the records were written behind `at` others, and that it has the bytes of so many
abbrev pub wrote : ℕ → List TableRecord → List ℕ → List ℕ
wrote at rs room = written_at (8 * at) (table_bytes rs) room

abbrev pub fits : ℕ → List ℕ → Type 0
fits n room = 8 * n ≤ length room
