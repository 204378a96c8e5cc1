-- A trace under way: v is the room where a loop over predecessors or items begins, q the room at hand.
use Prim.Native.Nat.{ℕ, ◌+◌, ◌*◌, ◌-◌, ◌≤◌, ◌<◌}
use mathlib.Core.Path.{◌≡◌, refl, sym, ap, ◌∙◌}
use mathlib.Core.Bool.{Bool, true, false}
use mathlib.Core.List.{List}
use native.Mathlib.Omega.{arith}
use lib.ListN.{length}
use lib.Dec.{eqb}
use Rattle.base.specs.Pick.{pick}
use Rattle.rules.specs.Records.{at, records}
use Rattle.rules.specs.Tokens.{has, eof}
use Rattle.rules.specs.Grammar.{start, at_start, terminal_count}
use Rattle.rules.specs.First.{Sets}
use Rattle.rules.specs.Lanes.{LaneTable, on_table, enter, add_successor, enter_start, tokens_past}
use Rattle.grammar.specs.Asked.{InRange}
use Rattle.room.specs.Areas.{Room, view}
use Rattle.room.specs.Bounds.{LongEnough}
use Rattle.room.proofs.Lengths.{Lengths, view_lengths}
use Rattle.marks.specs.Marks.{visited_in, successor_added, item_visited}
use Rattle.states.proofs.States.{states_length}
use Rattle.traces.specs.Whole.{pairs_left}
use Rattle.traces.proofs.Whole.{back_closed, back_shifted}
use Rattle.traces.proofs.Left.{shift_left, close_left_lem, visit_left, table_left}
use Rattle.lane.specs.declared.Lanes.{Lanes}
use Rattle.lane.specs.Changes.{start_entered, past_entered}
use Rattle.lane.specs.Traces.{firsts_for, states_of, trace_of, left_in, OnlyLanes, Traceable, BackTraced, ShiftTraced, CloseTraced}
use Rattle.lane.proofs.Frames.{only_none, only_both, only_visit, only_link, only_start, only_past, placed_kept, linked_kept, states_kept, firsts_kept, sized_kept}
use Rattle.lane.proofs.Pairs.{small, was, visited_now}
use Rattle.lane.proofs.Changed.{visited_length, linked_trace, entered_by_hand, start_trace}

-- the room at hand in the trace from item i in state s
pub record Going (bytes : List ℕ) (lanes : Lanes) (c s i : ℕ) (v q : Room) : Type 0 where
  pub ready : Traceable bytes lanes c s i q
  pub sized : Lengths q
  pub only : OnlyLanes v q
  pub same_states : states_of lanes q ≡ states_of lanes v
  pub same_firsts : firsts_for bytes q ≡ firsts_for bytes v
  pub fewer : left_in bytes lanes q ≤ left_in bytes lanes v

-- what is ready stays ready
pub ready_kept : (bytes : List ℕ) (lanes : Lanes) (c s i : ℕ) (v q : Room) → OnlyLanes v q → Traceable bytes lanes c s i v → Traceable bytes lanes c s i q
ready_kept bytes lanes c s i v q only ready = record {
  clean = ready.clean;
  short = ready.short;
  item = ready.item;
  few_terminals = ready.few_terminals;
  counted = ready.counted;
  state = ready.state;
  column = ready.column;
  narrow = ready.narrow;
  placed = placed_kept v q only (length (records bytes)) lanes.states ready.placed;
  linked = linked_kept v q only bytes lanes.states ready.linked;
}

-- ---- the half that the dot asks for
module _ (bytes : List ℕ) (lanes : Lanes) (c s i : ℕ) (v z : Room) (b : Bool) (tested : b ≡ at_start (records bytes) i) where
  pub back_by_close : b ≡ true → CloseTraced bytes lanes c s i v z → BackTraced bytes lanes c s i v z
  back_by_close e went = record {
    trace = went.trace ∙ sym (back_closed (records bytes) (firsts_for bytes v) (states_of lanes v) c s i (trace_of lanes v) (sym tested ∙ e));
    only = went.only;
  }

  pub back_by_shift : b ≡ false → ShiftTraced bytes lanes c s i v z → BackTraced bytes lanes c s i v z
  back_by_shift e went = record {
    trace = went.trace ∙ sym (back_shifted (records bytes) (firsts_for bytes v) (states_of lanes v) c s i (trace_of lanes v) (sym tested ∙ e));
    only = went.only;
  }

-- ---- how many pairs are left
module _ (bytes : List ℕ) (lanes : Lanes) (c s i : ℕ) (q : Room) (ready : Traceable bytes lanes c s i q) (sized : Lengths q) where
  as_many : (change : LaneTable → LaneTable) (z : Room) → trace_of lanes z ≡ on_table change (trace_of lanes q) → left_in bytes lanes z ≡ left_in bytes lanes q
  as_many change z e = ap (pairs_left (records bytes) lanes.states) e ∙ table_left (records bytes) lanes.states change (trace_of lanes q)

  linked_left : (p : ℕ) → p < lanes.states → left_in bytes lanes (successor_added p s q) ≡ left_in bytes lanes q
  linked_left p low =
      as_many (add_successor p s) (successor_added p s q) (linked_trace q lanes.states lanes.columns p s low ready.placed.few (omega (arith, ready.state, ready.placed.few)) sized)

  past_left : (sets : Sets) (j : ℕ) → left_in bytes lanes (past_entered (records bytes) sets s c j q) ≡ left_in bytes lanes q
  past_left sets j =
      as_many (enter s c (tokens_past (records bytes) sets j)) (past_entered (records bytes) sets s c j q)
      (entered_by_hand q lanes.states lanes.columns s c ready.state ready.placed.few ready.column ready.narrow sized (tokens_past (records bytes) sets j))

  -- the start entered Eof
  start_left : left_in bytes lanes (start_entered (records bytes) s c i q) ≡ left_in bytes lanes q
  unfolding enter_start
  start_left =
      ap (pairs_left (records bytes) lanes.states) (start_trace q lanes.states lanes.columns s c ready.state ready.placed.few ready.column ready.narrow sized (records bytes) i)
      ∙ by_test (eqb (at (records bytes) i).symbol (start (records bytes)))
    where
      change : LaneTable → LaneTable
      change = enter s c (eof (terminal_count (records bytes)))

      by_test : (b : Bool) → pairs_left (records bytes) lanes.states (pick b (on_table change (trace_of lanes q)) (trace_of lanes q)) ≡ left_in bytes lanes q
      by_test true = table_left (records bytes) lanes.states change (trace_of lanes q)
      by_test false = refl

module _ (bytes : List ℕ) (lanes : Lanes) (c s i : ℕ) (q z : Room) (low : s < lanes.states) where
  shifted_left : ShiftTraced bytes lanes c s i q z → left_in bytes lanes z ≤ left_in bytes lanes q
  shifted_left went =
      rw went.trace (shift_left (records bytes) (firsts_for bytes q) (states_of lanes q) c lanes.states (states_length q lanes.states) s i (trace_of lanes q) low (visited_length q lanes.states))

  closed_left : CloseTraced bytes lanes c s i q z → left_in bytes lanes z ≤ left_in bytes lanes q
  closed_left went =
      rw went.trace (close_left_lem (records bytes) (firsts_for bytes q) (states_of lanes q) c lanes.states (states_length q lanes.states) s i (trace_of lanes q) low (visited_length q lanes.states))

  back_left : BackTraced bytes lanes c s i q z → left_in bytes lanes z ≤ left_in bytes lanes q
  back_left went = go (at_start (records bytes) i) refl
    where
      go : (b : Bool) → at_start (records bytes) i ≡ b → left_in bytes lanes z ≤ left_in bytes lanes q
      go true e = closed_left (record { trace = went.trace ∙ back_closed (records bytes) (firsts_for bytes q) (states_of lanes q) c s i (trace_of lanes q) e; only = went.only })
      go false e = shifted_left (record { trace = went.trace ∙ back_shifted (records bytes) (firsts_for bytes q) (states_of lanes q) c s i (trace_of lanes q) e; only = went.only })

-- ---- the loops begin
module _ (bytes : List ℕ) (lanes : Lanes) (c s i : ℕ) where
  going_none : (u v : Room) → OnlyLanes u v → Lengths u → Traceable bytes lanes c s i u → Going bytes lanes c s i v v
  going_none u v only sized ready = record {
    ready = ready_kept bytes lanes c s i u v only ready;
    sized = sized_kept u v only sized;
    only = only_none v;
    same_states = refl;
    same_firsts = refl;
    fewer = omega arith;
  }

  module _ (w : List ℕ) (v : Room) (ready : Traceable bytes lanes c s i (view w)) (fits : LongEnough w) (visits : v ≡ item_visited s i (view w)) where
    pub going_visited : Going bytes lanes c s i v v
    going_visited = going_none (view w) v (only_visit (view w) v s i visits) (view_lengths w fits) ready

    pub going_entered : (u : Room) → u ≡ start_entered (records bytes) s c i v → Going bytes lanes c s i u u
    going_entered u enters = going_none (view w) u (only_both (view w) v u (only_visit (view w) v s i visits) (only_start v u (records bytes) s c i enters)) (view_lengths w fits) ready

-- ---- the loops go on
module _ (bytes : List ℕ) (lanes : Lanes) (c s i : ℕ) (v q : Room) (going : Going bytes lanes c s i v q) where
  going_on : (z : Room) → OnlyLanes q z → left_in bytes lanes z ≤ left_in bytes lanes q → Going bytes lanes c s i v z
  going_on z only fewer = record {
    ready = ready_kept bytes lanes c s i q z only going.ready;
    sized = sized_kept q z only going.sized;
    only = only_both v q z going.only only;
    same_states = states_kept q z only (length (records bytes)) lanes.states going.ready.placed ∙ going.same_states;
    same_firsts = firsts_kept q z only (records bytes) going.ready.clean ∙ going.same_firsts;
    fewer = omega (arith, going.fewer);
  }

  -- a predecessor was linked
  pub going_linked : (p : ℕ) (u : Room) → p < lanes.states → u ≡ successor_added p s q → Going bytes lanes c s i v u
  going_linked p u low links = going_on u (only_link q u p s links) (rw links (omega (arith, linked_left bytes lanes c s i q going.ready going.sized p low)))

  -- FIRST of what follows was entered
  pub going_past : (sets : Sets) (j : ℕ) (u : Room) → u ≡ past_entered (records bytes) sets s c j q → Going bytes lanes c s i v u
  going_past sets j u enters = going_on u (only_past q u (records bytes) sets s c j enters) (rw enters (omega (arith, past_left bytes lanes c s i q going.ready going.sized sets j)))

  -- a trace went on from the room at hand
  module _ (p j : ℕ) (z : Room) (low : p < lanes.states) where
    going_back : BackTraced bytes lanes c p j q z → Going bytes lanes c s i v z
    going_back went = going_on z went.only (back_left bytes lanes c p j q z low went)

module _ (bytes : List ℕ) (lanes : Lanes) (c s i : ℕ) (v q u z : Room) (going : Going bytes lanes c s i v q) where
  module _ (p : ℕ) (low : p < lanes.states) (links : u ≡ successor_added p s q) where
    pub linked_back : BackTraced bytes lanes c p (i - 1) u z → Going bytes lanes c s i v z
    linked_back went = going_back bytes lanes c s i v u (going_linked bytes lanes c s i v q going p u low links) p (i - 1) z low went

  module _ (sets : Sets) (j : ℕ) (enters : u ≡ past_entered (records bytes) sets s c j q) where
    pub past_back : BackTraced bytes lanes c s j u z → Going bytes lanes c s i v z
    past_back went = going_back bytes lanes c s i v u (going_past bytes lanes c s i v q going sets j u enters) s j z going.ready.state went

-- ---- a trace can go on from there
ready_at : (bytes : List ℕ) (lanes : Lanes) (c s i p j : ℕ) (q : Room) → Traceable bytes lanes c s i q → p < lanes.states → InRange j bytes → Traceable bytes lanes c p j q
ready_at bytes lanes c s i p j q ready low item = record {
  clean = ready.clean;
  short = ready.short;
  item = item;
  few_terminals = ready.few_terminals;
  counted = ready.counted;
  state = low;
  column = ready.column;
  narrow = ready.narrow;
  placed = ready.placed;
  linked = ready.linked;
}

pub linked_ready : (bytes : List ℕ) (lanes : Lanes) (c s i p : ℕ) (v q u : Room) → Going bytes lanes c s i v q → p < lanes.states → u ≡ successor_added p s q → Traceable bytes lanes c p (i - 1) u
linked_ready bytes lanes c s i p v q u going low links =
    let on = (going_linked bytes lanes c s i v q going p u low links).ready in
    ready_at bytes lanes c s i p (i - 1) u on low (omega (arith, on.item))

pub past_ready : (bytes : List ℕ) (lanes : Lanes) (c s i j : ℕ) (v q u : Room) (sets : Sets) → Going bytes lanes c s i v q → InRange j bytes → u ≡ past_entered (records bytes) sets s c j q → Traceable bytes lanes c s j u
past_ready bytes lanes c s i j v q u sets going item enters =
    ready_at bytes lanes c s i s j u (going_past bytes lanes c s i v q going sets j u enters).ready going.ready.state item

-- ---- a pair was visited that was not visited before: the pairs that are left fall
module _ (bytes : List ℕ) (lanes : Lanes) (c s i t : ℕ) (w : List ℕ) (b : Bool) (v : Room) (is : 2 * left_in bytes lanes (view w) ≡ t)
    (ready : Traceable bytes lanes c s i (view w)) (fits : LongEnough w) (tested : b ≡ has (visited_in (view w) s) i) (new : b ≡ false) (visits : v ≡ item_visited s i (view w)) where
  falls : 2 * left_in bytes lanes v + 1 < t
  falls =
      rw (visited_now bytes lanes c s i w ready v fits visits)
      (omega (arith, visit_left (records bytes) (firsts_for bytes (view w)) (states_of lanes (view w)) 0 lanes.states (states_length (view w) lanes.states) s i (trace_of lanes (view w)) ready.state (visited_length (view w) lanes.states) (small bytes lanes c s i w ready) (was bytes lanes c s i w ready b tested ∙ new)))

  -- in the loop over predecessors, one of which was linked
  pub linked_falls : (q u : Room) (p : ℕ) → Going bytes lanes c s i v q → p < lanes.states → u ≡ successor_added p s q → 2 * left_in bytes lanes u + 1 < t
  linked_falls q u p going low links = omega (arith, falls, (going_linked bytes lanes c s i v q going p u low links).fewer)

  -- and in the loop over items, where FIRST of what follows one was entered
  pub past_falls : (x q u : Room) (sets : Sets) (j : ℕ) → x ≡ start_entered (records bytes) s c i v → Going bytes lanes c s i x q → u ≡ past_entered (records bytes) sets s c j q → 2 * left_in bytes lanes u + 1 < t
  past_falls x q u sets j starts going enters =
      let begun = going_visited bytes lanes c s i w v ready fits visits in
      let same : left_in bytes lanes x ≡ left_in bytes lanes v = rw starts (start_left bytes lanes c s i v begun.ready begun.sized) in
      omega (arith, falls, (going_past bytes lanes c s i x q going sets j u enters).fewer)
