-- What a trace asks, what it leaves, and what it promises.
use Rattle.std.specs.Prelude.{ℕ, ◌<◌, ◌≤◌, ◌≡◌, List, [], length}
use Rattle.rules.specs.Limits.{max_bytes, max_columns}
use Rattle.rules.specs.Records.{records}
use Rattle.rules.specs.Grammar.{terminal_count}
use Rattle.rules.specs.First.{Sets}
use Rattle.rules.specs.States.{State}
use Rattle.rules.specs.Lanes.{Trace}
use Rattle.grammar.specs.Asked.{InRange, Faultless}
use Rattle.room.specs.Areas.{Room}
use Rattle.room.specs.Bounds.{FewTerminals}
use Rattle.lookahead.specs.Sets.{set_at}
use Rattle.first.specs.Firsts.{firsts_in}
use Rattle.states.specs.StatesIn.{states_in, Placed}
use Rattle.state_graph.specs.Links.{Linked}
use Rattle.traces.specs.Whole.{pairs_left, un_shifted, un_closed, gone_back}
use Rattle.lane.specs.declared.Lanes.{Lanes}
use Rattle.lane.specs.Table.{first_cell, trace_in}

-- ---- what a trace speaks of, in the room
abbrev pub firsts_for : List ℕ → Room → Sets
firsts_for bytes r = firsts_in (records bytes) r

abbrev pub states_of : Lanes → Room → List State
states_of lanes r = states_in r lanes.states

abbrev pub trace_of : Lanes → Room → Trace
trace_of lanes r = trace_in r lanes.states lanes.columns

-- how many pairs of state and item are not visited yet
abbrev pub left_in : List ℕ → Lanes → Room → ℕ
left_in bytes lanes r = pairs_left (records bytes) lanes.states (trace_of lanes r)

-- ---- what a trace leaves
-- the areas that it does not touch
abbrev pub elsewhere : Room → Room
elsewhere r = record { entries = r.entries; first_entries = r.first_entries; visited = []; entered = []; successors = []; origins = r.origins; heads = r.heads; walked = r.walked; actions = r.actions; sets = []; rest = r.rest }

-- q is v but for the lane table, the items visited, and the slot at hand behind the cells
pub record OnlyLanes (v q : Room) : Type 0 where
  pub others : elsewhere q ≡ elsewhere v
  pub visited_words_lem : length q.visited ≡ length v.visited
  pub entered_words : length q.entered ≡ length v.entered
  pub successor_words_lem : length q.successors ≡ length v.successors
  pub set_words : length q.sets ≡ length v.sets
  pub slots : (slot : ℕ) → slot < first_cell → set_at q slot ≡ set_at v slot

-- ---- the promise of a trace
-- it can go back from item i in state s: the grammar is coded, the numbers are within their limits, and the states are in place and linked
pub record Traceable (bytes : List ℕ) (lanes : Lanes) (c s i : ℕ) (v : Room) : Type 0 where
  pub clean : Faultless bytes
  pub short : length bytes ≤ max_bytes
  pub item : InRange i bytes
  pub few_terminals : FewTerminals lanes.terminals
  pub counted : lanes.terminals ≡ terminal_count (records bytes)
  pub state : s < lanes.states
  pub column : c < lanes.columns
  pub narrow : lanes.columns ≤ max_columns
  pub placed : Placed (length (records bytes)) lanes.states v
  pub linked : Linked bytes lanes.states v

-- the room q after a trace that began in v and gives what `after` says
pub record Traced (lanes : Lanes) (after : Trace) (v q : Room) : Type 0 where
  pub trace : trace_of lanes q ≡ after
  pub only : OnlyLanes v q

-- the trace of column c back from item i in state s: whichever half goes on there; its dot is past 0; it is 0
abbrev pub BackTraced : List ℕ → Lanes → ℕ → ℕ → ℕ → Room → Room → Type 0
BackTraced bytes lanes c s i v q = Traced lanes (gone_back (records bytes) (firsts_for bytes v) (states_of lanes v) c s i (trace_of lanes v)) v q

abbrev pub ShiftTraced : List ℕ → Lanes → ℕ → ℕ → ℕ → Room → Room → Type 0
ShiftTraced bytes lanes c s i v q = Traced lanes (un_shifted (records bytes) (firsts_for bytes v) (states_of lanes v) c s i (trace_of lanes v)) v q

abbrev pub CloseTraced : List ℕ → Lanes → ℕ → ℕ → ℕ → Room → Room → Type 0
CloseTraced bytes lanes c s i v q = Traced lanes (un_closed (records bytes) (firsts_for bytes v) (states_of lanes v) c s i (trace_of lanes v)) v q
