-- What the reductions of the inconsistent state and of its clones take, in the room.
use Rattle.std.specs.Prelude.{ℕ, ◌+◌, ◌≡◌, Bool, ◌&&◌, not, List, [], get_or, set, eqb}
use Rattle.base.specs.Pick.{pick}
use Rattle.rules.specs.Limits.{max_nonterminals, max_entries}
use Rattle.rules.specs.States.{State}
use Rattle.rules.specs.Lanes.{Action, LaneTable}
use Rattle.rules.specs.Merge.{Merge, origin_of, head_of, group_columns, take_columns, take_all}
use Rattle.room.specs.Areas.{Room}
use Rattle.room.specs.Slots.{closure_slot}
use Rattle.context_set.specs.Columns.{OnlyColumns}
use Rattle.states.specs.StatesIn.{states_in}
use Rattle.lane_table.specs.Actions.{actions_in}
use Rattle.lane.specs.declared.Lanes.{Lanes}
use Rattle.groups.specs.MergeIn.{merge_in, table_of}

-- state t takes the columns of its group: a step of `take_all`
unfoldable pub group_taken : LaneTable → List Action → Merge → ℕ → List State → List State
group_taken table actions m t states = set states t (take_columns actions (group_columns table m (head_of m t)) (get_or states t []))

-- c is a clone of s: the test of `clones_of`
unfoldable pub is_clone_of : Merge → ℕ → ℕ → Bool
is_clone_of m s c = eqb (origin_of m c) s && not (eqb c s)

-- ---- in the room
abbrev pub actions_for : Lanes → Room → List Action
actions_for lanes v = actions_in v lanes.columns

-- q is v but for the slots of the closure, where columns are gathered, and those of the entries, which take them
abbrev pub OnlyTaken : Room → Room → Type 0
OnlyTaken v q = OnlyColumns (closure_slot 0) (max_nonterminals + max_entries) v q

-- and the states are `after`
pub record Takes (after : List State) (count : ℕ) (v q : Room) : Type 0 where
  pub states : states_in q count ≡ after
  pub only : OnlyTaken v q

-- state t takes the columns of its group; it does if it is a clone of s; s and its clones do
abbrev pub group_taken_in : Lanes → ℕ → ℕ → Room → List State
group_taken_in lanes t count v = group_taken (table_of lanes v) (actions_for lanes v) (merge_in v count) t (states_in v count)

abbrev pub TakesGroup : Lanes → ℕ → ℕ → Room → Room → Type 0
TakesGroup lanes t count v q = Takes (group_taken_in lanes t count v) count v q

abbrev pub TakesClone : Lanes → ℕ → ℕ → ℕ → Room → Room → Type 0
TakesClone lanes s t count v q = Takes (pick (is_clone_of (merge_in v count) s t) (group_taken_in lanes t count v) (states_in v count)) count v q

abbrev pub TakesAll : Lanes → ℕ → ℕ → Room → Room → Type 0
TakesAll lanes s count v q = Takes (take_all (table_of lanes v) (actions_for lanes v) s (merge_in v count)) count v q
