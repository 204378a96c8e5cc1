-- The pair of state and item that a trace begins with: within its bounds, visited or not, and the trace once it is visited.
use Prim.Native.Nat.{ℕ, ◌<◌}
use mathlib.Core.Path.{◌≡◌, sym, ap, ◌∙◌}
use mathlib.Core.Bool.{Bool}
use mathlib.Core.List.{List}
use native.Mathlib.Omega.{arith}
use lib.ListN.{length}
use Rattle.base.proofs.EachLeft.{each_among}
use Rattle.rules.specs.Records.{records}
use Rattle.rules.specs.Tokens.{has}
use Rattle.rules.specs.Lanes.{was_visited, visit}
use Rattle.rules.proofs.Laws.{length_records}
use Rattle.room.specs.Areas.{Room, view}
use Rattle.room.specs.Bounds.{LongEnough, IsItem}
use Rattle.room.proofs.Lengths.{view_lengths}
use Rattle.marks.specs.Marks.{visited_in, item_visited}
use Rattle.states.specs.StatesIn.{entry_in, first_of, state_in, states_in, Placed}
use Rattle.states.proofs.States.{states_length}
use Rattle.traces.specs.Recorded.{AllRecorded}
use Rattle.lane.specs.declared.Lanes.{Lanes}
use Rattle.lane.specs.Traces.{states_of, trace_of, Traceable}
use Rattle.lane.proofs.Changed.{was_visited_lem, visited_trace, visited_length}

-- the items of the states are records of the grammar
all_recorded : (bytes : List ℕ) (r : Room) (count : ℕ) → Placed (length (records bytes)) count r → AllRecorded (records bytes) (states_in r count)
unfolding states_in state_in
all_recorded bytes r count placed state among e in-state =
    let (s, _, low, is) = each_among (state_in r) 0 count among in
    let (k, from, to, same) = each_among (entry_in r) (first_of r s) _ (rw is at in-state) in
    rw same ((placed.each s (omega arith)).recorded k from (omega arith))

module _ (bytes : List ℕ) (lanes : Lanes) (c s i : ℕ) (w : List ℕ) (ready : Traceable bytes lanes c s i (view w)) where
  pub small : i < length (records bytes)
  small = omega (arith, length_records bytes, ready.item)

  is_item : IsItem i
  is_item = omega (arith, ready.item, ready.short)

  pub was : (b : Bool) → b ≡ has (visited_in (view w) s) i → was_visited s i (trace_of lanes (view w)) ≡ b
  was b tested = was_visited_lem (view w) lanes.states lanes.columns s i ready.state ∙ sym tested

  pub below : s < length (states_of lanes (view w))
  below = omega (arith, states_length (view w) lanes.states, ready.state)

  pub as_long : length (trace_of lanes (view w)).visited ≡ length (states_of lanes (view w))
  as_long = visited_length (view w) lanes.states ∙ sym (states_length (view w) lanes.states)

  pub recorded : AllRecorded (records bytes) (states_of lanes (view w))
  recorded = all_recorded bytes (view w) lanes.states ready.placed

  pub visited_now : (v : Room) → LongEnough w → v ≡ item_visited s i (view w) → trace_of lanes v ≡ visit s i (trace_of lanes (view w))
  visited_now v fits visits = ap (trace_of lanes) visits ∙ visited_trace (view w) lanes.states lanes.columns s i ready.state is_item ready.placed.few (view_lengths w fits)
