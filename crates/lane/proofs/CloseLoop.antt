-- The loop of `un_close` over the entries of the state: what is left of it, from the room at hand, gives the same trace.
use Prim.Native.Nat.{ℕ, ◌+◌, ◌≤◌, ◌<◌}
use mathlib.Core.Path.{◌≡◌, sym, ap, ◌∙◌}
use mathlib.Core.Bool.{Bool, true, false, not}
use mathlib.Core.List.{List, map}
use native.Mathlib.Omega.{arith}
use lib.ListN.{length}
use borrow.Author.Tests.{not-true, not-false}
use Rattle.base.specs.Pick.{pick}
use Rattle.base.specs.Lists.{keep, fold_over}
use Rattle.base.proofs.EachLeft.{each_fold_turn, each_fold_end}
use Rattle.rules.specs.Records.{Grammar, at, records}
use Rattle.rules.specs.Tokens.{has}
use Rattle.rules.specs.Grammar.{nonterminal, is_before}
use Rattle.rules.specs.First.{Sets}
use Rattle.rules.specs.States.{Entry}
use Rattle.rules.specs.Lanes.{Trace, visit, on_table, enter, enter_start, items_before, empty_past, tokens_past}
use Rattle.rules.proofs.Laws.{length_records}
use Rattle.grammar.specs.Asked.{InRange}
use Rattle.room.specs.Areas.{Room, view}
use Rattle.room.specs.Bounds.{LongEnough, IsEntry}
use Rattle.room.proofs.Lengths.{Lengths, view_lengths}
use Rattle.marks.specs.Marks.{visited_in, item_visited}
use Rattle.states.specs.StatesIn.{entry_in, run_in, first_of, state_in, states_in}
use Rattle.states.proofs.States.{state_at, first_same}
use Rattle.traces.specs.Whole.{un_closed, gone_back, over_item}
use Rattle.traces.proofs.Whole.{close_goes, close_seen, item_goes, item_stops}
use Rattle.lane.specs.Changes.{start_entered, past_entered}
use Rattle.lane.specs.Traces.{firsts_for, states_of, trace_of, OnlyLanes, Traceable, BackTraced, CloseTraced}
use Rattle.lane.specs.declared.Lanes.{Lanes}
use Rattle.lane.proofs.Frames.{firsts_same, entry_kept, only_none, only_both, only_visit, only_start, only_past, states_kept, firsts_kept, sized_kept}
use Rattle.lane.proofs.Going.{Going, past_ready}
use Rattle.lane.proofs.Pairs.{small, was, below, as_long, recorded, visited_now}
use Rattle.lane.proofs.Changed.{start_trace, entered_by_hand}

-- the items before nonterminal a of the entries from place k to the end
unfoldable pub items_up_to : Grammar → ℕ → Room → ℕ → ℕ → List ℕ
items_up_to g a r k end = keep (is_before g (nonterminal a)) (map (λ (e : Entry). e.item) (run_in r k end))

-- what is done at an item, where v is the room in which the loop began
abbrev step : List ℕ → Lanes → ℕ → ℕ → Room → ℕ → Trace → Trace
step bytes lanes c s v = over_item (records bytes) (firsts_for bytes v) (states_of lanes v) c s

-- the trace over the entries from place k to the end
unfoldable pub close_rest : List ℕ → Lanes → ℕ → ℕ → ℕ → ℕ → Room → ℕ → Trace → Trace
close_rest bytes lanes c s a end v k trace = fold_over (step bytes lanes c s v) (items_up_to (records bytes) a v k end) trace

-- the room at hand in the loop over the entries from first to end, at place k
pub record AtEntry (bytes : List ℕ) (lanes : Lanes) (c s i a first end : ℕ) (v q : Room) (k : ℕ) : Type 0 where
  pub going : Going bytes lanes c s i v q
  pub named : a ≡ (at (records bytes) i).symbol
  pub begins : first ≡ first_of v s
  pub ends : end ≡ first_of v (s + 1)
  pub from : first ≤ k
  pub upto : k ≤ end

pub at_first : (bytes : List ℕ) (lanes : Lanes) (c s i a first end : ℕ) (v : Room) → Going bytes lanes c s i v v → a ≡ (at (records bytes) i).symbol → first ≡ first_of v s → end ≡ first_of v (s + 1)
    → AtEntry bytes lanes c s i a first end v v first
at_first bytes lanes c s i a first end v going named begins ends = record {
  going = going;
  named = named;
  begins = begins;
  ends = ends;
  from = omega arith;
  upto = omega (arith, (going.ready.placed.each s going.ready.state).ordered);
}

-- ---- the entry at place k
module _ (bytes : List ℕ) (lanes : Lanes) (c s i a first end : ℕ) (v q : Room) (k : ℕ) (here : AtEntry bytes lanes c s i a first end v q k) (to : k < end) where
  same_place : (t : ℕ) → first_of q t ≡ first_of v t
  same_place t = first_same v q (firsts_same v q here.going.only) t

  pub entry_low : IsEntry k
  entry_low = omega (arith, here.ends, (here.going.ready.placed.each s here.going.ready.state).bounded, same_place (s + 1))

  item_low : (entry_in q k).item < length (records bytes)
  item_low =
      (here.going.ready.placed.each s here.going.ready.state).recorded k (omega (arith, here.from, here.begins, same_place s)) (omega (arith, here.ends, same_place (s + 1)))

  pub entry_fits : (j : ℕ) → j ≡ (entry_in q k).item → InRange j bytes
  entry_fits j read = omega (arith, length_records bytes, item_low)

  pub entry_ready : (j : ℕ) (u : Room) (sets : Sets) → j ≡ (entry_in q k).item → u ≡ past_entered (records bytes) sets s c j q → Traceable bytes lanes c s j u
  entry_ready j u sets read enters = past_ready bytes lanes c s i j v q u sets here.going (entry_fits j read) enters

  -- the next place, in the room at hand or in one that a trace left
  pub at_next : (z : Room) → Going bytes lanes c s i v z → AtEntry bytes lanes c s i a first end v z (k + 1)
  at_next z going = record { going = going; named = here.named; begins = here.begins; ends = here.ends; from = omega (arith, here.from); upto = omega arith }

  pub at_next_passed : AtEntry bytes lanes c s i a first end v q (k + 1)
  at_next_passed = at_next q here.going

-- ---- a turn
module _ (bytes : List ℕ) (lanes : Lanes) (c s i a first end : ℕ) (v q : Room) (k j : ℕ) (t : Trace) (d : Bool) (here : AtEntry bytes lanes c s i a first end v q k) (to : k < end)
    (read : j ≡ (entry_in q k).item) (tested : d ≡ is_before (records bytes) (nonterminal a) j) (left : close_rest bytes lanes c s a end v k (trace_of lanes q) ≡ t) where
  going : Going bytes lanes c s i v q
  going = here.going

  item_is : (entry_in v k).item ≡ j
  item_is = ap (λ (e : Entry). e.item) (sym (entry_kept v q going.only k (entry_low bytes lanes c s i a first end v q k here to))) ∙ sym read

  turn : (z : Trace) → z ≡ pick d (step bytes lanes c s v j (trace_of lanes q)) (trace_of lanes q) → close_rest bytes lanes c s a end v (k + 1) z ≡ t
  unfolding close_rest items_up_to
  turn z e =
      each_fold_turn (λ (e : Entry). e.item) (is_before (records bytes) (nonterminal a)) (step bytes lanes c s v) (entry_in v) end k (trace_of lanes q) t z to left (rw (item_is, ← tested) e)

  pub close_passed : not d ≡ true → close_rest bytes lanes c s a end v (k + 1) (trace_of lanes q) ≡ t
  close_passed e = turn (trace_of lanes q) (rw (not-true d e))

  module _ (u : Room) (x : Bool) (before : not d ≡ false) (enters : u ≡ past_entered (records bytes) (firsts_for bytes q) s c j q) (empty : x ≡ empty_past (records bytes) (firsts_for bytes q) j) where
    only : OnlyLanes q u
    only = only_past q u (records bytes) (firsts_for bytes q) s c j enters

    entered : trace_of lanes u ≡ on_table (enter s c (tokens_past (records bytes) (firsts_for bytes v) j)) (trace_of lanes q)
    entered =
        ap (trace_of lanes) enters
        ∙ entered_by_hand q lanes.states lanes.columns s c going.ready.state going.ready.placed.few going.ready.column going.ready.narrow going.sized (tokens_past (records bytes) (firsts_for bytes q) j)
        ∙ ap (λ (sets : Sets). on_table (enter s c (tokens_past (records bytes) sets j)) (trace_of lanes q)) going.same_firsts

    may : empty_past (records bytes) (firsts_for bytes v) j ≡ x
    may = ap (λ (sets : Sets). empty_past (records bytes) sets j) (sym going.same_firsts) ∙ sym empty

    over : (y : Trace) → y ≡ step bytes lanes c s v j (trace_of lanes q) → close_rest bytes lanes c s a end v (k + 1) y ≡ t
    over y e = turn y (rw (not-false d before) e)

    pub close_entered : not x ≡ true → close_rest bytes lanes c s a end v (k + 1) (trace_of lanes u) ≡ t
    close_entered e = over (trace_of lanes u) (entered ∙ sym (item_stops (records bytes) (firsts_for bytes v) (states_of lanes v) c s j (trace_of lanes q) (may ∙ not-true x e)))

    pub close_back : (z : Room) → not x ≡ false → BackTraced bytes lanes c s j u z → close_rest bytes lanes c s a end v (k + 1) (trace_of lanes z) ≡ t
    close_back z goes went =
        let firsts : firsts_for bytes u ≡ firsts_for bytes v = firsts_kept q u only (records bytes) going.ready.clean ∙ going.same_firsts in
        let states : states_of lanes u ≡ states_of lanes v = states_kept q u only (length (records bytes)) lanes.states going.ready.placed ∙ going.same_states in
        let onward : gone_back (records bytes) (firsts_for bytes v) (states_of lanes v) c s j (trace_of lanes u) ≡ step bytes lanes c s v j (trace_of lanes q) =
        rw entered (sym (item_goes (records bytes) (firsts_for bytes v) (states_of lanes v) c s j (trace_of lanes q) (may ∙ not-false x goes))) in
        over (trace_of lanes z) ((rw (firsts, states) at went.trace) ∙ onward)

-- ---- the end
items_whole : (g : Grammar) (count s a first end : ℕ) (v : Room) → s < count → first ≡ first_of v s → end ≡ first_of v (s + 1) → items_up_to g a v first end ≡ items_before g (states_in v count) s a
unfolding items_up_to items_before state_in
items_whole g count s a first end v h begins ends = rw (state_at v count s h, begins, ends)

module _ (bytes : List ℕ) (lanes : Lanes) (c s i : ℕ) (w : List ℕ) (b : Bool) (ready : Traceable bytes lanes c s i (view w)) (tested : b ≡ has (visited_in (view w) s) i) where
  pub close_stops : b ≡ true → CloseTraced bytes lanes c s i (view w) (view w)
  close_stops e = record {
    trace = sym (close_seen (records bytes) (firsts_for bytes (view w)) (states_of lanes (view w)) c s i (trace_of lanes (view w)) (was bytes lanes c s i w ready b tested ∙ e));
    only = only_none (view w);
  }

  module _ (y v z : Room) (fits : LongEnough w) (new : b ≡ false) (visits : y ≡ item_visited s i (view w)) (enters : v ≡ start_entered (records bytes) s c i y) where
    begun_only : OnlyLanes (view w) v
    begun_only = only_both (view w) y v (only_visit (view w) y s i visits) (only_start y v (records bytes) s c i enters)

    begun : trace_of lanes v ≡ enter_start (records bytes) s c i (visit s i (trace_of lanes (view w)))
    begun =
        let sized : Lengths y = sized_kept (view w) y (only_visit (view w) y s i visits) (view_lengths w fits) in
        ap (trace_of lanes) enters ∙ start_trace y lanes.states lanes.columns s c ready.state ready.placed.few ready.column ready.narrow sized (records bytes) i
        ∙ ap (enter_start (records bytes) s c i) (visited_now bytes lanes c s i w ready y fits visits)

    module _ (a first end k : ℕ) (here : AtEntry bytes lanes c s i a first end v z k) where
      whole : close_rest bytes lanes c s a end v first (trace_of lanes v) ≡ un_closed (records bytes) (firsts_for bytes (view w)) (states_of lanes (view w)) c s i (trace_of lanes (view w))
      unfolding close_rest
      whole =
          let states : states_of lanes v ≡ states_of lanes (view w) = states_kept (view w) v begun_only (length (records bytes)) lanes.states ready.placed in
          let firsts : firsts_for bytes v ≡ firsts_for bytes (view w) = firsts_kept (view w) v begun_only (records bytes) ready.clean in
          let items : items_up_to (records bytes) a v first end ≡ items_before (records bytes) (states_of lanes (view w)) s (at (records bytes) i).symbol = rw (← states, ← here.named) (items_whole (records bytes) lanes.states s a first end v ready.state here.begins here.ends) in
          rw (items, firsts, states, begun)
          (sym (close_goes (records bytes) (firsts_for bytes (view w)) (states_of lanes (view w)) c s i (trace_of lanes (view w)) (recorded bytes lanes c s i w ready) (below bytes lanes c s i w ready) (small bytes lanes c s i w ready) (as_long bytes lanes c s i w ready) (was bytes lanes c s i w ready b tested ∙ new)))

      ended : (t : Trace) → end ≤ k → close_rest bytes lanes c s a end v k (trace_of lanes z) ≡ t → trace_of lanes z ≡ t
      unfolding close_rest items_up_to
      ended t over left = each_fold_end (λ (e : Entry). e.item) (is_before (records bytes) (nonterminal a)) (step bytes lanes c s v) (entry_in v) end k (trace_of lanes z) t over left

      pub close_ends : end ≤ k → close_rest bytes lanes c s a end v k (trace_of lanes z) ≡ close_rest bytes lanes c s a end v first (trace_of lanes v) → CloseTraced bytes lanes c s i (view w) z
      close_ends over left = record { trace = ended _ over left ∙ whole; only = only_both (view w) v z begun_only here.going.only }
