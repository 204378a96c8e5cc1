-- The actions of the state at hand, and the lane tables that they give.
use Rattle.std.specs.Prelude.{ℕ, ◌/◌, ◌%◌, ◌<◌, ◌≤◌, ◌≡◌, List, length, get_or, eqb}
use Rattle.base.specs.Pick.{pick}
use Rattle.base.specs.Each.{each_from}
use Rattle.rules.specs.Limits.{max_bytes, max_columns}
use Rattle.rules.specs.Records.{records}
use Rattle.rules.specs.Grammar.{terminal_count}
use Rattle.rules.specs.Lanes.{Action, shift, reduce, LaneTable, trace_action, trace_actions, lane_table}
use Rattle.grammar.specs.Asked.{InRange, Faultless}
use Rattle.room.specs.Areas.{Room}
use Rattle.room.specs.Bounds.{FewTerminals}
use Rattle.lookahead.specs.Sets.{IsToken}
use Rattle.states.specs.StatesIn.{Placed}
use Rattle.state_graph.specs.Links.{with_links_of}
use Rattle.lane.specs.declared.Lanes.{Lanes}
use Rattle.lane.specs.Table.{table_in}
use Rattle.lane.specs.Traces.{firsts_for, states_of, OnlyLanes}

-- ---- the actions of the state at hand
-- an action as a number: twice the terminal of a shift, one more than twice the item of a reduction
unfoldable pub action_of : ℕ → Action
action_of a = pick (eqb (a % 2) 1) (reduce (a / 2)) (shift (a / 2))

abbrev pub action_at : Room → ℕ → Action
action_at r k = action_of (get_or r.actions k 0)

unfoldable pub actions_in : Room → ℕ → List Action
actions_in r n = each_from (action_at r) 0 n

-- what an action speaks of is there
pub record ActionFits (bytes : List ℕ) (a : ℕ) : Type 0 where
  pub reduces : a % 2 ≡ 1 → InRange (a / 2) bytes
  pub shifts : (a % 2 ≡ 1 → ⊥) → IsToken (a / 2)

-- lanes can be traced at state s
pub record Tracing (bytes : List ℕ) (lanes : Lanes) (s : ℕ) (v : Room) : Type 0 where
  pub clean : Faultless bytes
  pub short : length bytes ≤ max_bytes
  pub few_terminals : FewTerminals lanes.terminals
  pub counted : lanes.terminals ≡ terminal_count (records bytes)
  pub state : s < lanes.states
  pub narrow : lanes.columns ≤ max_columns
  pub placed : Placed (length (records bytes)) lanes.states v
  pub fit : (k : ℕ) → k < lanes.columns → ActionFits bytes (get_or v.actions k 0)

-- ---- the promise of an action
abbrev pub table_of : Lanes → Room → LaneTable
table_of lanes r = table_in r lanes.states lanes.columns

-- the lane table in q, where v was the room before
pub record Tabled (lanes : Lanes) (after : LaneTable) (v q : Room) : Type 0 where
  pub table : table_of lanes q ≡ after
  pub only : OnlyLanes v q

-- action a is traced at state s in column c; the actions of the area are, from column c on; and they are in an empty table
abbrev pub ActionTraced : List ℕ → Lanes → ℕ → ℕ → Action → Room → Room → Type 0
ActionTraced bytes lanes c s a v q = Tabled lanes (trace_action (records bytes) (firsts_for bytes v) (states_of lanes v) s c a (table_of lanes v)) v q

abbrev pub traced_from : List ℕ → Lanes → ℕ → ℕ → List Action → Room → LaneTable → LaneTable
traced_from bytes lanes s c actions v table = trace_actions (records bytes) (firsts_for bytes v) (states_of lanes v) s c actions table

abbrev pub ActionsTraced : List ℕ → Lanes → ℕ → Room → Room → Type 0
ActionsTraced bytes lanes s v q = Tabled lanes (traced_from bytes lanes s 0 (actions_in v lanes.columns) v (table_of lanes v)) v q

-- that table is built in q; the links of its states are left there too
abbrev pub LaneTableBuilt : List ℕ → Lanes → ℕ → Room → Room → Type 0
LaneTableBuilt bytes lanes s v q = Tabled lanes (lane_table (records bytes) (firsts_for bytes v) (states_of lanes v) s (actions_in v lanes.columns)) (with_links_of q v) q
