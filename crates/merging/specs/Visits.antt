-- What the merge of a visit asks, and what it promises.
use Rattle.std.specs.Prelude.{ℕ, ◌+◌, ◌<◌, ◌≤◌, ◌≡◌, List, length, Result, Ok, Err}
use Rattle.rules.specs.Limits.{limits, max_columns}
use Rattle.rules.specs.Records.{records}
use Rattle.rules.specs.Grammar.{terminal_count}
use Rattle.rules.specs.declared.BuildRefusal.{BuildRefusal}
use Rattle.rules.specs.States.{State, Outcome, done, refused, each_in_turn}
use Rattle.rules.specs.Lanes.{LaneTable, beachheads}
use Rattle.rules.specs.Merge.{Merge, walk, merge_rows, resolve_by}
use Rattle.grammar.specs.Asked.{Faultless}
use Rattle.room.specs.Areas.{Room}
use Rattle.states.specs.StatesIn.{states_in, Placed}
use Rattle.lane.specs.Traces.{states_of}
use Rattle.lane.specs.declared.Lanes.{Lanes}
use Rattle.groups.specs.MergeIn.{merge_in, table_of}
use Rattle.construct.specs.Merges.{OnlyMerge}
use Rattle.construct.specs.Walks.{outcome_in, WalkedTo}
use Rattle.merging.specs.Takes.{actions_for}

-- ---- what is asked
-- the grammar is coded, the states are in place, s is one of them, and the lane table has at most as many columns as there is room for
pub record Resolvable (bytes : List ℕ) (lanes : Lanes) (s : ℕ) (v : Room) : Type 0 where
  pub clean : Faultless bytes
  pub counted : lanes.terminals ≡ terminal_count (records bytes)
  pub placed : Placed (length (records bytes)) lanes.states v
  pub narrow : lanes.columns ≤ max_columns
  pub state : s < lanes.states

-- ---- walks
-- a walk from each of the states, as long as none refuses
unfoldable pub walk_each : List ℕ → LaneTable → List ℕ → Merge → Outcome Merge
walk_each bytes table from m = each_in_turn (walk limits (records bytes) table (limits.states + 1)) from m

-- the walks from the beachheads, of the room v, gave r and the room q
pub record WalksAll (bytes : List ℕ) (lanes : Lanes) (v : Room) (r : Result ℕ BuildRefusal) (q : Room) : Type 0 where
  pub outcome : outcome_in r q ≡ walk_each bytes (table_of lanes v) (beachheads (table_of lanes v)) (merge_in v lanes.states)
  pub only : OnlyMerge v q
  pub left : WalkedTo bytes lanes lanes.states r q

-- ---- the states after a visit
-- what the answer says of the room that it left
unfoldable pub states_after : Result ℕ BuildRefusal → Room → Outcome (List State)
states_after (Ok count) q = done (states_in q count)
states_after (Err why) q = refused why

-- the states are in place, `more` where there were `count`
pub record Standing (bytes : List ℕ) (count more : ℕ) (q : Room) : Type 0 where
  pub placed : Placed (length (records bytes)) more q
  pub grown : count ≤ more

abbrev pub ResolvedTo : List ℕ → ℕ → Result ℕ BuildRefusal → Room → Type 0
ResolvedTo bytes count (Ok more) q = Standing bytes count more q
ResolvedTo bytes count (Err why) q = Unit {0}

-- a visit of the room v gave r and the room q, as `after` says
pub record Visits (bytes : List ℕ) (lanes : Lanes) (after : Outcome (List State)) (v : Room) (r : Result ℕ BuildRefusal) (q : Room) : Type 0 where
  pub outcome : states_after r q ≡ after
  pub only : OnlyMerge v q
  pub left : ResolvedTo bytes lanes.states r q

-- by the rows of the lane table; by the lane table
abbrev pub MergesRows : List ℕ → Lanes → ℕ → Room → Result ℕ BuildRefusal → Room → Type 0
MergesRows bytes lanes s v r q = Visits bytes lanes (merge_rows limits (records bytes) (states_of lanes v) s (actions_for lanes v) (table_of lanes v)) v r q

abbrev pub ResolvesBy : List ℕ → Lanes → ℕ → Room → Result ℕ BuildRefusal → Room → Type 0
ResolvesBy bytes lanes s v r q = Visits bytes lanes (resolve_by limits (records bytes) (states_of lanes v) s (actions_for lanes v) (table_of lanes v)) v r q
