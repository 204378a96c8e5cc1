-- The merge in the room: the states, the origin and the head of each, and the states walked.
use Rattle.std.specs.Prelude.{ℕ, get_or}
use Rattle.base.specs.Each.{each_from}
use Rattle.rules.specs.Lanes.{LaneTable}
use Rattle.rules.specs.Merge.{Merge}
use Rattle.room.specs.Areas.{Room}
use Rattle.marks.specs.Marks.{walked_in}
use Rattle.states.specs.StatesIn.{states_in}
use Rattle.lane.specs.Table.{table_in}
use Rattle.lane.specs.declared.Lanes.{Lanes}

-- the state that s is a clone of, and the head of its group
abbrev pub origin_in : Room → ℕ → ℕ
origin_in r s = get_or r.origins s 0

abbrev pub head_in : Room → ℕ → ℕ
head_in r s = get_or r.heads s 0

-- with that many states
unfoldable pub merge_in : Room → ℕ → Merge
unfolding states_in walked_in
merge_in r count = record {
  states = states_in r count;
  origins = each_from (origin_in r) 0 count;
  heads = each_from (head_in r) 0 count;
  walked = walked_in r;
}

-- the lane table, over whose states and columns the merge goes
abbrev pub table_of : Lanes → Room → LaneTable
table_of lanes r = table_in r lanes.states lanes.columns
