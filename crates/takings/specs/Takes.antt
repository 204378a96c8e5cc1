-- What the reductions of a state take, in the room: the columns from the slot `at` on.
use Rattle.std.specs.Prelude.{ℕ, ◌+◌, ◌<◌, ◌≤◌, ◌≡◌, [], length, ltb}
use Rattle.base.specs.Lists.{place_of}
use Rattle.base.specs.Pick.{pick}
use Rattle.rules.specs.Limits.{max_entries}
use Rattle.rules.specs.Lanes.{is_reduce}
use Rattle.rules.specs.Merge.{take_column}
use Rattle.room.specs.Areas.{Room, with_sets}
use Rattle.room.specs.Slots.{entry_slot}
use Rattle.lookahead.specs.Sets.{set_at, put_set}
use Rattle.context_set.specs.Columns.{columns_at}
use Rattle.states.specs.StatesIn.{entry_in, first_of, PlaceOf}
use Rattle.lane_table.specs.Actions.{actions_in}

-- the entries of state s lie within their area
pub record Enclosed (v : Room) (s : ℕ) : Type 0 where
  pub ordered : first_of v s ≤ first_of v (s + 1)
  pub bounded : first_of v (s + 1) ≤ max_entries

-- the column of the entry at place k; past the columns if its reduction is no action
unfoldable pub column_at : Room → ℕ → ℕ → ℕ
column_at v width k = place_of (is_reduce (entry_in v k).item) (actions_in v width)

-- the entry at place k has the set of its column
unfoldable pub taken_at : ℕ → ℕ → ℕ → Room → Room
taken_at width at k v = pick (ltb (column_at v width k) width) (put_set (entry_slot k) (set_at v (at + column_at v width k)) v) v

-- the entries of state s have the sets of their columns in q, where v was the room before
pub record Taken (width at s : ℕ) (v q : Room) : Type 0 where
  pub others : with_sets [] q ≡ with_sets [] v
  pub words : length q.sets ≡ length v.sets
  pub slots_before : (slot : ℕ) → slot < entry_slot 0 → set_at q slot ≡ set_at v slot
  pub slots_behind : (slot : ℕ) → entry_slot max_entries ≤ slot → set_at q slot ≡ set_at v slot
  pub inside : (k : ℕ) → PlaceOf v s k → entry_in q k ≡ take_column (actions_in v width) (columns_at v at width) (entry_in v k)
  pub outside : (k : ℕ) → (PlaceOf v s k → ⊥) → entry_in q k ≡ entry_in v k
