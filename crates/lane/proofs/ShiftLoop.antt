-- The loop of `un_shift` over the predecessors: what is left of it, from the room at hand, gives the same trace.
use Prim.Native.Nat.{ℕ, ◌+◌, ◌-◌, ◌≤◌, ◌<◌}
use mathlib.Core.Path.{◌≡◌, sym, ap, ◌∙◌}
use mathlib.Core.Bool.{Bool, true, false, not}
use mathlib.Core.List.{List}
use native.Mathlib.Omega.{arith}
use lib.ListN.{length}
use borrow.Author.Tests.{not-true, not-false}
use Rattle.base.specs.Pick.{pick}
use Rattle.base.specs.Lists.{some_of, fold_over}
use Rattle.base.proofs.ListLoops.{kept, kept_start, kept_fold_turn, kept_fold_end}
use Rattle.rules.specs.Records.{Grammar, at, records}
use Rattle.rules.specs.Tokens.{has}
use Rattle.rules.specs.Grammar.{symbol_of}
use Rattle.rules.specs.States.{State}
use Rattle.rules.specs.Lanes.{Trace, on_table, add_successor, predecessors}
use Rattle.room.specs.Areas.{Room, view}
use Rattle.room.specs.Bounds.{LongEnough}
use Rattle.marks.specs.Marks.{visited_in, successor_added, item_visited}
use Rattle.states.specs.StatesIn.{state_in}
use Rattle.states.proofs.States.{state_at, states_length}
use Rattle.state_graph.specs.Graph.{leads_to, precedes, symbol_at}
use Rattle.traces.specs.Whole.{un_shifted, over_predecessor}
use Rattle.traces.proofs.Whole.{shift_goes, shift_seen, predecessor_goes}
use Rattle.lane.specs.Traces.{firsts_for, states_of, trace_of, Traceable, BackTraced, ShiftTraced}
use Rattle.lane.specs.declared.Lanes.{Lanes}
use Rattle.lane.proofs.Frames.{only_none, only_both, only_visit, only_link, states_kept}
use Rattle.lane.proofs.Going.{Going}
use Rattle.lane.proofs.Pairs.{small, was, below, as_long, recorded, visited_now}
use Rattle.lane.proofs.Changed.{linked_trace}

-- p is a predecessor of s over the symbol of record i, and what is done there, where v is the room in which the loop began
abbrev before : List ℕ → Lanes → ℕ → ℕ → Room → ℕ → Bool
before bytes lanes s i v = precedes (records bytes) (states_of lanes v) s (symbol_at bytes i)

abbrev step : List ℕ → Lanes → ℕ → ℕ → ℕ → Room → ℕ → Trace → Trace
step bytes lanes c s i v = over_predecessor (records bytes) (firsts_for bytes v) (states_of lanes v) c s i

-- the trace over the predecessors from `next` on
unfoldable pub shift_rest : List ℕ → Lanes → ℕ → ℕ → ℕ → Room → ℕ → Trace → Trace
shift_rest bytes lanes c s i v next trace = fold_over (step bytes lanes c s i v) (kept (before bytes lanes s i v) lanes.states next) trace

-- ---- a turn
module _ (bytes : List ℕ) (lanes : Lanes) (c s i next : ℕ) (v q : Room) (t : Trace) (d : Bool) (going : Going bytes lanes c s i v q) (here : next < lanes.states)
    (tested : d ≡ some_of (leads_to (records bytes) s (symbol_at bytes i)) (state_in q next)) (left : shift_rest bytes lanes c s i v next (trace_of lanes q) ≡ t) where
  test_is : before bytes lanes s i v next ≡ d
  unfolding precedes
  test_is = rw (← going.same_states, state_at q lanes.states next here) (sym tested)

  turn : (z : Trace) → z ≡ pick d (step bytes lanes c s i v next (trace_of lanes q)) (trace_of lanes q) → shift_rest bytes lanes c s i v (next + 1) z ≡ t
  unfolding shift_rest
  turn z e = kept_fold_turn (before bytes lanes s i v) (step bytes lanes c s i v) lanes.states next (trace_of lanes q) t z here left (rw test_is e)

  pub shift_passed : not d ≡ true → shift_rest bytes lanes c s i v (next + 1) (trace_of lanes q) ≡ t
  shift_passed e = turn (trace_of lanes q) (rw (not-true d e))

  module _ (u z : Room) (leads : not d ≡ false) (links : u ≡ successor_added next s q) where
    linked : trace_of lanes u ≡ on_table (add_successor next s) (trace_of lanes q)
    linked =
        ap (trace_of lanes) links
        ∙ linked_trace q lanes.states lanes.columns next s here going.ready.placed.few (omega (arith, going.ready.state, going.ready.placed.few)) going.sized

    firsts : firsts_for bytes u ≡ firsts_for bytes v
    firsts = ap (firsts_for bytes) links ∙ going.same_firsts

    states : states_of lanes u ≡ states_of lanes v
    states = states_kept q u (only_link q u next s links) (length (records bytes)) lanes.states going.ready.placed ∙ going.same_states

    pub shift_back : BackTraced bytes lanes c next (i - 1) u z → shift_rest bytes lanes c s i v (next + 1) (trace_of lanes z) ≡ t
    shift_back went =
        turn (trace_of lanes z)
        (rw (not-false d leads)
        ((rw (firsts, states, linked) at went.trace) ∙ sym (predecessor_goes (records bytes) (firsts_for bytes v) (states_of lanes v) c s i (trace_of lanes q) next)))

-- ---- the end
kept_predecessors : (g : Grammar) (states : List State) (s i count : ℕ) → length states ≡ count → kept (precedes g states s (symbol_of (at g i))) count 0 ≡ predecessors g states s (symbol_of (at g i))
unfolding predecessors precedes leads_to
kept_predecessors g states s i count e = kept_start (precedes g states s (symbol_of (at g i))) count ∙ rw (← e)

module _ (bytes : List ℕ) (lanes : Lanes) (c s i : ℕ) (w : List ℕ) (b : Bool) (ready : Traceable bytes lanes c s i (view w)) (tested : b ≡ has (visited_in (view w) s) i) where
  pub shift_stops : b ≡ true → ShiftTraced bytes lanes c s i (view w) (view w)
  shift_stops e = record {
    trace = sym (shift_seen (records bytes) (firsts_for bytes (view w)) (states_of lanes (view w)) c s i (trace_of lanes (view w)) (was bytes lanes c s i w ready b tested ∙ e));
    only = only_none (view w);
  }

  module _ (v z : Room) (fits : LongEnough w) (new : b ≡ false) (visits : v ≡ item_visited s i (view w)) where
    whole : shift_rest bytes lanes c s i v 0 (trace_of lanes v) ≡ un_shifted (records bytes) (firsts_for bytes (view w)) (states_of lanes (view w)) c s i (trace_of lanes (view w))
    unfolding shift_rest
    whole =
        let states : states_of lanes v ≡ states_of lanes (view w) = states_kept (view w) v (only_visit (view w) v s i visits) (length (records bytes)) lanes.states ready.placed in
        let firsts : firsts_for bytes v ≡ firsts_for bytes (view w) = ap (firsts_for bytes) visits in
        rw (firsts, states, visited_now bytes lanes c s i w ready v fits visits, kept_predecessors (records bytes) (states_of lanes (view w)) s i lanes.states (states_length (view w) lanes.states))
        (sym (shift_goes (records bytes) (firsts_for bytes (view w)) (states_of lanes (view w)) c s i (trace_of lanes (view w)) (recorded bytes lanes c s i w ready) (below bytes lanes c s i w ready) (small bytes lanes c s i w ready) (as_long bytes lanes c s i w ready) (was bytes lanes c s i w ready b tested ∙ new)))

    ended : (next : ℕ) (t : Trace) → lanes.states ≤ next → shift_rest bytes lanes c s i v next (trace_of lanes z) ≡ t → trace_of lanes z ≡ t
    unfolding shift_rest
    ended next t over left = kept_fold_end (before bytes lanes s i v) (step bytes lanes c s i v) lanes.states next (trace_of lanes z) t over left

    pub shift_ends : (next : ℕ) → Going bytes lanes c s i v z → lanes.states ≤ next → shift_rest bytes lanes c s i v next (trace_of lanes z) ≡ shift_rest bytes lanes c s i v 0 (trace_of lanes v)
        → ShiftTraced bytes lanes c s i (view w) z
    shift_ends next going over left = record { trace = ended next _ over left ∙ whole; only = only_both (view w) v z (only_visit (view w) v s i visits) going.only }
