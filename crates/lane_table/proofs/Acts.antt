-- The trace of one action: the tokens of a shift or the empty set of a reduction are entered, and a reduction goes back.
use Prim.Native.Nat.{ℕ, ◌≤◌, ◌<◌}
use mathlib.Core.Path.{◌≡◌, sym, ap, ◌∙◌}
use mathlib.Core.List.{List}
use native.Mathlib.Omega.{arith}
use lib.ListN.{length, replicate}
use Rattle.rules.specs.Limits.{max_states, max_columns}
use Rattle.rules.specs.Records.{records}
use Rattle.rules.specs.Tokens.{single}
use Rattle.rules.specs.Lanes.{shift, reduce, Trace, enter, on_table, trace_action}
use Rattle.grammar.specs.Asked.{InRange}
use Rattle.room.specs.Areas.{Room, view}
use Rattle.room.specs.Bounds.{LongEnough}
use Rattle.room.specs.Slots.{hand_slot}
use Rattle.room.proofs.Lengths.{view_lengths}
use Rattle.lookahead.specs.Sets.{IsToken, set_at, put_set}
use Rattle.states.proofs.States.{states_length}
use Rattle.state_graph.specs.Links.{Linked}
use Rattle.traces.specs.Whole.{trace_begun}
use Rattle.traces.proofs.Whole.{action_goes}
use Rattle.lane_table.specs.declared.area.Action.{Action}
use Rattle.lane_table.specs.declared.area.Action.TheVariants.{Shift, Reduce}
use Rattle.lane_table.specs.Numbers.{number_of}
use Rattle.lane_table.specs.Actions.{action_of, ActionFits, Tracing, table_of, ActionTraced}
use Rattle.lane.specs.Changes.{tokens_entered, hand_entered}
use Rattle.lane_table.specs.Clears.{VisitsCleared}
use Rattle.lane.specs.Traces.{firsts_for, states_of, trace_of, OnlyLanes, Traceable, BackTraced}
use Rattle.lane.specs.declared.Lanes.{Lanes}
use Rattle.lane.proofs.Cells.{entered_by}
use Rattle.lane_table.proofs.Clears.{cleared_trace, cleared_only}
use Rattle.lane_table.proofs.Numbers.{shift_number, reduce_number, shifted_token, reduced_item}
use Rattle.lane.proofs.Frames.{only_both, hand_enters, states_kept, firsts_kept}
use Rattle.lane.proofs.Going.{ready_kept}
use Rattle.lane.proofs.Changed.{entered_by_hand}

-- ---- a shift
module _ (bytes : List ℕ) (lanes : Lanes) (c s t hand : ℕ) (w : List ℕ) (p q : Room) (fits : LongEnough w) (state : s < lanes.states) (few : lanes.states ≤ max_states)
    (column : c < lanes.columns) (narrow : lanes.columns ≤ max_columns) (at-hand : hand ≡ hand_slot) (put : p ≡ put_set hand (single t) (view w)) (enters : q ≡ tokens_entered s c (set_at p hand) p) where
  pub shift_acted : ActionTraced bytes lanes c s (shift t) (view w) q
  unfolding trace_action
  shift_acted =
      let e : q ≡ hand_entered s c (single t) (view w) = entered_by w p q hand s c (single t) fits at-hand put enters in
      record {
        table =
            ap (table_of lanes) e
            ∙ ap (λ (x : Trace). x.table) (entered_by_hand (view w) lanes.states lanes.columns s c state few column narrow (view_lengths w fits) (single t));
        only = rw e (hand_enters s c (single t) (view w));
      }

-- ---- a reduction
module _ (bytes : List ℕ) (lanes : Lanes) (c s i hand n : ℕ) (w w₁ : List ℕ) (p q : Room) (ready : Traceable bytes lanes c s i (view w)) (fits : LongEnough w) (same : length w₁ ≡ length w)
    (clears : VisitsCleared n (view w) (view w₁)) (at-hand : hand ≡ hand_slot) (put : p ≡ put_set hand 0 (view w₁)) (enters : q ≡ tokens_entered s c (set_at p hand) p) where
  entered : q ≡ hand_entered s c 0 (view w₁)
  entered = entered_by w₁ p q hand s c 0 (omega arith) at-hand put enters

  begun_only : OnlyLanes (view w) q
  begun_only = only_both (view w) (view w₁) q (cleared_only n (view w) (view w₁) clears) (rw entered (hand_enters s c 0 (view w₁)))

  pub reduce_ready : Traceable bytes lanes c s i q
  reduce_ready = ready_kept bytes lanes c s i (view w) q begun_only ready

  begins : n ≡ lanes.states → trace_of lanes q ≡ trace_begun (records bytes) (firsts_for bytes (view w)) (states_of lanes (view w)) s c i (table_of lanes (view w))
  begins all =
      ap (trace_of lanes) entered
      ∙ entered_by_hand (view w₁) lanes.states lanes.columns s c ready.state ready.placed.few ready.column ready.narrow (view_lengths w₁ (omega arith)) 0
      ∙ ap (on_table (enter s c 0)) (cleared_trace lanes.states (view w) (view w₁) (rw all at clears) lanes.columns)
      ∙ ap (λ (n : ℕ). record { table = enter s c 0 (table_of lanes (view w)); visited = replicate n 0 }) (sym (states_length (view w) lanes.states))

  states : states_of lanes q ≡ states_of lanes (view w)
  states = states_kept (view w) q begun_only (length (records bytes)) lanes.states ready.placed

  firsts : firsts_for bytes q ≡ firsts_for bytes (view w)
  firsts = firsts_kept (view w) q begun_only (records bytes) ready.clean

  pub reduce_acted : (z : Room) → n ≡ lanes.states → BackTraced bytes lanes c s i q z → ActionTraced bytes lanes c s (reduce i) (view w) z
  reduce_acted z all went = record {
    table =
        ap (λ (x : Trace). x.table) (rw (firsts, states, begins all) at went.trace)
        ∙ sym (action_goes (records bytes) (firsts_for bytes (view w)) (states_of lanes (view w)) s c i (table_of lanes (view w)));
    only = only_both (view w) q z begun_only went.only;
  }

-- ---- an action
traceable_at : (bytes : List ℕ) (lanes : Lanes) (c s i : ℕ) (v : Room) → Tracing bytes lanes s v → Linked bytes lanes.states v → c < lanes.columns → InRange i bytes → Traceable bytes lanes c s i v
traceable_at bytes lanes c s i v tracing linked column item = record {
  clean = tracing.clean;
  short = tracing.short;
  item = item;
  few_terminals = tracing.few_terminals;
  counted = tracing.counted;
  state = tracing.state;
  column = column;
  narrow = tracing.narrow;
  placed = tracing.placed;
  linked = linked;
}

module _ (bytes : List ℕ) (lanes : Lanes) (c s : ℕ) (a : Action) (v : Room) (tracing : Tracing bytes lanes s v) (column : c < lanes.columns) (fits : ActionFits bytes (number_of a)) where
  pub reduction_ready : (i : ℕ) → a ≡ Reduce i → Linked bytes lanes.states v → Traceable bytes lanes c s i v
  reduction_ready i e linked = traceable_at bytes lanes c s i v tracing linked column (reduced_item bytes i (rw e at fits))

  pub reduction_acted : (i : ℕ) (q : Room) → a ≡ Reduce i → ActionTraced bytes lanes c s (reduce i) v q → ActionTraced bytes lanes c s (action_of (number_of a)) v q
  reduction_acted i q e acted = rw (e, reduce_number i) acted

  pub shift_low : (t : ℕ) → a ≡ Shift t → IsToken t
  shift_low t e = shifted_token bytes t (rw e at fits)

  pub shift_by_number : (t : ℕ) (q : Room) → a ≡ Shift t → ActionTraced bytes lanes c s (shift t) v q → ActionTraced bytes lanes c s (action_of (number_of a)) v q
  shift_by_number t q e acted = rw (e, shift_number t) acted
