-- The lane table of a state is built: an empty one, in which the actions are traced one after the other.
use Prim.Native.Nat.{ℕ, ◌+◌, ◌-◌, ◌≤◌, ◌<◌}
use mathlib.Core.Path.{◌≡◌, refl, sym, ap, ◌∙◌}
use mathlib.Core.List.{List}
use native.Mathlib.Nat.{sub-zero}
use native.Mathlib.Numerals.{add-one}
use lib.ListN.{length, get_or, replicate}
use Rattle.base.specs.Each.{each_from}
use Rattle.base.proofs.EachLeft.{each_length, each_none, each_more}
use Rattle.rules.specs.Records.{records}
use Rattle.rules.specs.Lanes.{LaneTable, trace_action, trace_actions, lane_table}
use Rattle.room.specs.Areas.{Room}
use Rattle.states.proofs.States.{states_length}
use Rattle.state_graph.specs.Links.{with_links_of, Linked, StatesLinked}
use Rattle.state_graph.proofs.Linking.{still_placed, same_states}
use Rattle.lane_table.specs.Actions.{action_of, action_at, actions_in, ActionFits, Tracing, table_of, Tabled, ActionTraced, traced_from, ActionsTraced, LaneTableBuilt}
use Rattle.lane_table.specs.Clears.{empty_row, RowsCleared}
use Rattle.lane.specs.Traces.{firsts_for, states_of, OnlyLanes}
use Rattle.lane.specs.declared.Lanes.{Lanes}
use Rattle.lane_table.proofs.Clears.{empty_table}
use Rattle.lane.proofs.Frames.{only_none, only_both, placed_kept, linked_kept, states_kept, firsts_kept}

actions_same : (v q : Room) → OnlyLanes v q → q.actions ≡ v.actions
actions_same v q only = ap (λ (r : Room). r.actions) only.others

tracing_kept : (bytes : List ℕ) (lanes : Lanes) (s : ℕ) (v q : Room) → OnlyLanes v q → Tracing bytes lanes s v → Tracing bytes lanes s q
tracing_kept bytes lanes s v q only tracing = record {
  clean = tracing.clean;
  short = tracing.short;
  few_terminals = tracing.few_terminals;
  counted = tracing.counted;
  state = tracing.state;
  narrow = tracing.narrow;
  placed = placed_kept v q only (length (records bytes)) lanes.states tracing.placed;
  fit = λ k h. rw (actions_same v q only) (tracing.fit k h);
}

-- ---- the actions one after the other
-- the table once those from column c on are traced in it, where v is the room in which the loop began
unfoldable pub actions_rest : List ℕ → Lanes → ℕ → Room → ℕ → LaneTable → LaneTable
actions_rest bytes lanes s v c table = traced_from bytes lanes s c (each_from (action_at v) c (lanes.columns - c)) v table

-- the room at hand
pub record Acting (bytes : List ℕ) (lanes : Lanes) (s : ℕ) (v q : Room) : Type 0 where
  pub tracing : Tracing bytes lanes s q
  pub linked : Linked bytes lanes.states q
  pub only : OnlyLanes v q
  pub same_states : states_of lanes q ≡ states_of lanes v
  pub same_firsts : firsts_for bytes q ≡ firsts_for bytes v

pub acting_none : (bytes : List ℕ) (lanes : Lanes) (s : ℕ) (v : Room) → Tracing bytes lanes s v → Linked bytes lanes.states v → Acting bytes lanes s v v
acting_none bytes lanes s v tracing linked = record { tracing = tracing; linked = linked; only = only_none v; same_states = refl; same_firsts = refl }

module _ (bytes : List ℕ) (lanes : Lanes) (s : ℕ) (v q : Room) (acting : Acting bytes lanes s v q) where
  pub acting_on : (z : Room) (after : LaneTable) → Tabled lanes after q z → Acting bytes lanes s v z
  acting_on z after acted = record {
    tracing = tracing_kept bytes lanes s q z acted.only acting.tracing;
    linked = linked_kept q z acted.only bytes lanes.states acting.linked;
    only = only_both v q z acting.only acted.only;
    same_states = states_kept q z acted.only (length (records bytes)) lanes.states acting.tracing.placed ∙ acting.same_states;
    same_firsts = firsts_kept q z acted.only (records bytes) acting.tracing.clean ∙ acting.same_firsts;
  }

  module _ (c a : ℕ) (here : c < lanes.columns) (read : a ≡ get_or q.actions c 0) where
    pub action_fits : ActionFits bytes a
    action_fits = rw read (acting.tracing.fit c here)

    pub actions_turn : (z : Room) (t : LaneTable) → ActionTraced bytes lanes c s (action_of a) q z → actions_rest bytes lanes s v c (table_of lanes q) ≡ t → actions_rest bytes lanes s v (c + 1) (table_of lanes z) ≡ t
    unfolding actions_rest trace_actions
    actions_turn z t acted left =
        let e : a ≡ get_or v.actions c 0 = read ∙ ap (λ (l : List ℕ). get_or l c 0) (actions_same v q acting.only) in
        let f : table_of lanes z ≡ trace_action (records bytes) (firsts_for bytes v) (states_of lanes v) s c (action_at v c) (table_of lanes q) = rw (acting.same_firsts, acting.same_states, e) at acted.table in
        rw (f, add-one) (rw (each_more (action_at v) lanes.columns c here, add-one) at left)

  pub actions_end : (c : ℕ) → lanes.columns ≤ c → actions_rest bytes lanes s v c (table_of lanes q) ≡ actions_rest bytes lanes s v 0 (table_of lanes v) → ActionsTraced bytes lanes s v q
  unfolding actions_rest trace_actions actions_in
  actions_end c over left = record { table = (rw (each_none (action_at v) lanes.columns c over) at left) ∙ rw sub-zero; only = acting.only }

-- ---- in an empty table
module _ (bytes : List ℕ) (lanes : Lanes) (s : ℕ) (v q : Room) (tracing : Tracing bytes lanes s v) (cleared : RowsCleared lanes.columns lanes.states v q) where
  actions : actions_in q lanes.columns ≡ actions_in v lanes.columns
  unfolding actions_in
  actions = ap (λ (l : List ℕ). each_from (λ k. action_of (get_or l k 0)) 0 lanes.columns) (actions_same v q cleared.only)

  action_count : length (actions_in v lanes.columns) ≡ lanes.columns
  unfolding actions_in
  action_count = each_length (action_at v) 0 lanes.columns

  in_empty : (z : Room) → ActionsTraced bytes lanes s q z → Tabled lanes (lane_table (records bytes) (firsts_for bytes v) (states_of lanes v) s (actions_in v lanes.columns)) v z
  unfolding lane_table
  in_empty z acted =
      let states : states_of lanes q ≡ states_of lanes v = states_kept v q cleared.only (length (records bytes)) lanes.states tracing.placed in
      let firsts : firsts_for bytes q ≡ firsts_for bytes v = firsts_kept v q cleared.only (records bytes) tracing.clean in
      let empty : table_of lanes q ≡ replicate lanes.states (empty_row lanes.columns) = empty_table lanes.columns lanes.states v q cleared in
      record {
        table = rw (states_length v lanes.states, action_count) (rw (firsts, states, actions, empty) at acted.table);
        only = only_both v q z cleared.only acted.only;
      }

-- ---- behind new links
module _ (bytes : List ℕ) (lanes : Lanes) (s : ℕ) (v u q : Room) (tracing : Tracing bytes lanes s v) (links : StatesLinked bytes lanes.states v u) (cleared : RowsCleared lanes.columns lanes.states u q) where
  actions_unlinked : u.actions ≡ v.actions
  actions_unlinked = ap (λ (r : Room). r.actions) links.only.same

  linked_tracing : Tracing bytes lanes s u
  linked_tracing = record {
    clean = tracing.clean;
    short = tracing.short;
    few_terminals = tracing.few_terminals;
    counted = tracing.counted;
    state = tracing.state;
    narrow = tracing.narrow;
    placed = still_placed v u links.only (length (records bytes)) lanes.states tracing.placed;
    fit = λ k h. rw actions_unlinked (tracing.fit k h);
  }

  pub build_ready : Tracing bytes lanes s q
  build_ready = tracing_kept bytes lanes s u q cleared.only linked_tracing

  pub build_linked : Linked bytes lanes.states q
  build_linked = linked_kept u q cleared.only bytes lanes.states links.linked

  pub built : (z : Room) → ActionsTraced bytes lanes s q z → LaneTableBuilt bytes lanes s v z
  unfolding actions_in
  built z acted =
      let tabled = in_empty bytes lanes s u q linked_tracing cleared z acted in
      let states : states_of lanes u ≡ states_of lanes v = same_states v u links.only (length (records bytes)) lanes.states tracing.placed in
      let firsts : firsts_for bytes u ≡ firsts_for bytes v = ap (firsts_for bytes) links.only.same in
      let actions : actions_in u lanes.columns ≡ actions_in v lanes.columns = ap (λ (r : Room). actions_in r lanes.columns) links.only.same in
      let linked : with_links_of z v ≡ u = ap (λ (r : Room). with_links_of r v) tabled.only.others ∙ sym links.only.same in
      record { table = tabled.table ∙ rw (firsts, states, actions); only = rw linked tabled.only }
