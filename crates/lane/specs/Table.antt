-- The lane table in the room: the columns of a state lie side by side in their slots, its successors are a set, and a state at which
-- something was entered has a number other than 0. With it the items visited in each state, which are sets too.
use Rattle.std.specs.Prelude.{ℕ, ◌+◌, ◌*◌, not, List, get_or, eqb}
use Rattle.base.specs.Each.{each_from}
use Rattle.rules.specs.Limits.{max_columns}
use Rattle.rules.specs.Tokens.{NumberSet}
use Rattle.rules.specs.Lanes.{Row, LaneTable, Trace}
use Rattle.room.specs.Areas.{Room}
use Rattle.context_set.specs.Columns.{columns_at}
use Rattle.marks.specs.Marks.{successors_in, visited_in}

-- the slot of the first column of state s, and that of column c: `row_slot`
abbrev pub first_cell : ℕ
first_cell = 2176

abbrev pub first_slot_of : ℕ → ℕ
first_slot_of s = first_cell + max_columns * s

abbrev pub cell_slot : ℕ → ℕ → ℕ
cell_slot s c = first_slot_of s + c

unfoldable pub row_in : Room → ℕ → ℕ → Row
row_in r width s = record { columns = columns_at r (first_slot_of s) width; entered = not (eqb (get_or r.entered s 0) 0); successors = successors_in r s }

-- with that many states and columns
unfoldable pub table_in : Room → ℕ → ℕ → LaneTable
table_in r count width = each_from (row_in r width) 0 count

unfoldable pub visits_in : Room → ℕ → List NumberSet
visits_in r count = each_from (visited_in r) 0 count

abbrev pub trace_in : Room → ℕ → ℕ → Trace
trace_in r count width = record { table = table_in r count width; visited = visits_in r count }
