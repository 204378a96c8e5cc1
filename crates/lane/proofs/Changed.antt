-- What the changes of the room make of the lane table and of the items visited.
use Prim.Native.Nat.{ℕ, ◌+◌, ◌≤◌, ◌<◌}
use mathlib.Core.Path.{◌≡◌, refl, sym, ap, ◌∙◌}
use mathlib.Core.Bool.{Bool, true, false, not}
use mathlib.Core.List.{List}
use native.Mathlib.Omega.{arith}
use lib.ListN.{length, get_or, set}
use lib.Seq.{get_or-set_same, get_or-set_other}
use lib.Dec.{eqb}
use Rattle.base.specs.Pick.{pick}
use Rattle.base.proofs.Each.{each_at, each_same, each_set}
use Rattle.base.proofs.EachLeft.{each_length}
use Rattle.rules.specs.Limits.{max_states, max_columns}
use Rattle.rules.specs.Records.{Grammar, at}
use Rattle.rules.specs.Tokens.{NumberSet, TokenSet, has, single, join, eof}
use Rattle.rules.specs.Grammar.{start, terminal_count}
use Rattle.rules.specs.Lanes.{Row, LaneTable, no_row, row_of, column_of, enter, add_successor, was_visited, visit, on_table, enter_start}
use Rattle.room.specs.Areas.{Room}
use Rattle.room.specs.Bounds.{IsItem}
use Rattle.room.specs.Slots.{hand_slot}
use Rattle.room.proofs.Lengths.{Lengths}
use Rattle.lookahead.specs.Sets.{load_set, put_set}
use Rattle.lookahead.proofs.Slots.{load_stored, load_other}
use Rattle.context_set.specs.Columns.{columns_at}
use Rattle.marks.specs.Marks.{successors_in, visited_in, successor_added, item_visited}
use Rattle.marks.proofs.Changes.{successor_added_lem, successors_kept, item_visited_lem, visited_kept}
use Rattle.lane.specs.Changes.{tokens_entered, hand_entered, start_entered}
use Rattle.lane.specs.Table.{first_slot_of, cell_slot, row_in, table_in, visits_in, trace_in}
use Rattle.lane.proofs.Frames.{hand_only, sized_kept}

-- ---- rows and cells
module _ (r : Room) (count : ℕ) where
  pub visited_length : length (visits_in r count) ≡ count
  unfolding visits_in
  visited_length = each_length (visited_in r) 0 count

  pub row_at : (width s : ℕ) → s < count → row_of (table_in r count width) s ≡ row_in r width s
  unfolding row_of table_in
  row_at width s h = let e : 0 + s ≡ s = omega arith in each_at (row_in r width) 0 count s no_row h ∙ ap (row_in r width) e

  visited_at : (s : ℕ) → s < count → get_or (visits_in r count) s 0 ≡ visited_in r s
  unfolding visits_in
  visited_at s h = let e : 0 + s ≡ s = omega arith in each_at (visited_in r) 0 count s 0 h ∙ ap (visited_in r) e

-- a row changed
table_set : (v q : Room) (count width s : ℕ) (row : Row) → s < count → row_in q width s ≡ row → ((t : ℕ) → t < count → (t ≡ s → ⊥) → row_in q width t ≡ row_in v width t)
    → table_in q count width ≡ set (table_in v count width) s row
unfolding table_in
table_set v q count width s row h there other =
    let e : 0 + s ≡ s = omega arith in
    each_set (row_in q width) (row_in v width) 0 count s row h (ap (row_in q width) e ∙ there) (λ t l g ne. other t (omega arith) (λ z. ne (z ∙ sym e)))

-- ---- the items visited
module _ (v : Room) (count width s i : ℕ) (low : s < count) where
  pub was_visited_lem : was_visited s i (trace_in v count width) ≡ has (visited_in v s) i
  unfolding was_visited
  was_visited_lem = rw (visited_at v count s low)

  module _ (item : IsItem i) (few : count ≤ max_states) (sized : Lengths v) where
    there : visited_in (item_visited s i v) s ≡ join (get_or (visits_in v count) s 0) (single i)
    there = item_visited_lem v (item_visited s i v) s i item refl sized (omega arith) ∙ ap (λ (x : NumberSet). join x (single i)) (sym (visited_at v count s low))

    pub visited_trace : trace_in (item_visited s i v) count width ≡ visit s i (trace_in v count width)
    unfolding visit visits_in table_in row_in successors_in
    visited_trace =
        let e : 0 + s ≡ s = omega arith in
        ap (λ (l : List NumberSet). record { table = table_in v count width; visited = l })
        (each_set (visited_in (item_visited s i v)) (visited_in v) 0 count s _ low (ap (visited_in (item_visited s i v)) e ∙ there) (λ t h g ne. visited_kept v (item_visited s i v) s i item refl t (λ z. ne (z ∙ sym e))))

-- ---- a successor
module _ (v : Room) (count width p s : ℕ) (low : p < count) (few : count ≤ max_states) (next : s < max_states) (sized : Lengths v) where
  abbrev row_with : ℕ → NumberSet → Row
  row_with t x = record { columns = columns_at v (first_slot_of t) width; entered = not (eqb (get_or v.entered t 0) 0); successors = x }

  linked_row : row_in (successor_added p s v) width p ≡ record { columns = (row_of (table_in v count width) p).columns; entered = (row_of (table_in v count width) p).entered; successors = join (row_of (table_in v count width) p).successors (single s) }
  unfolding row_in
  linked_row = rw (row_at v count width p low) (ap (row_with p) (successor_added_lem v (successor_added p s v) p s next refl sized (omega arith)))

  linked_other : (t : ℕ) → (t ≡ p → ⊥) → row_in (successor_added p s v) width t ≡ row_in v width t
  unfolding row_in
  linked_other t ne = ap (row_with t) (successors_kept v (successor_added p s v) p s next refl t ne)

  pub linked_trace : trace_in (successor_added p s v) count width ≡ on_table (add_successor p s) (trace_in v count width)
  unfolding add_successor visits_in visited_in
  linked_trace = ap (λ (t : LaneTable). record { table = t; visited = visits_in v count }) (table_set v (successor_added p s v) count width p _ low linked_row (λ t h ne. linked_other t ne))

-- ---- an entry
module _ (v : Room) (count width s c : ℕ) (tokens : TokenSet) (low : s < count) (few : count ≤ max_states) (column : c < width) (narrow : width ≤ max_columns) (sized : Lengths v) where
  entered_columns : columns_at (tokens_entered s c tokens v) (first_slot_of s) width ≡ set (columns_at v (first_slot_of s) width) c (join (column_of (columns_at v (first_slot_of s) width) c) tokens)
  unfolding column_of
  entered_columns =
      rw (each_at (load_set v.sets) (first_slot_of s) width c 0 column)
      (each_set (load_set (tokens_entered s c tokens v).sets) (load_set v.sets) (first_slot_of s) width c _ column (load_stored v.sets (cell_slot s c) _ (omega (arith, sized.sets_length))) (λ j h g ne. load_other v.sets (cell_slot s c) _ j ne))

  entered_row : row_in (tokens_entered s c tokens v) width s ≡ record { columns = set (row_of (table_in v count width) s).columns c (join (column_of (row_of (table_in v count width) s).columns c) tokens); entered = true; successors = (row_of (table_in v count width) s).successors }
  unfolding row_in successors_in
  entered_row =
      let e : get_or (set v.entered s 1) s 0 ≡ 1 = get_or-set_same v.entered s 1 0 (omega (arith, sized.entered_length)) in
      rw (row_at v count width s low, e) (ap (λ (l : List TokenSet). record { columns = l; entered = true; successors = successors_in v s }) entered_columns)

  entered_other : (t : ℕ) → (t ≡ s → ⊥) → row_in (tokens_entered s c tokens v) width t ≡ row_in v width t
  unfolding row_in successors_in
  entered_other t ne =
      let e : get_or (set v.entered s 1) t 0 ≡ get_or v.entered t 0 = get_or-set_other v.entered s t 1 0 ne in
      rw e (ap (λ (l : List TokenSet). record { columns = l; entered = not (eqb (get_or v.entered t 0) 0); successors = successors_in v t })
      (each_same (load_set (tokens_entered s c tokens v).sets) (load_set v.sets) (first_slot_of t) width (λ j h g. load_other v.sets (cell_slot s c) _ j (λ z. ne (omega arith)))))

  entered_trace : trace_in (tokens_entered s c tokens v) count width ≡ on_table (enter s c tokens) (trace_in v count width)
  unfolding enter visits_in visited_in
  entered_trace = ap (λ (t : LaneTable). record { table = t; visited = visits_in v count }) (table_set v (tokens_entered s c tokens v) count width s _ low entered_row (λ t h ne. entered_other t ne))

-- the slot at hand is none of the lane table's
module _ (v : Room) (count width : ℕ) (tokens : TokenSet) (few : count ≤ max_states) (narrow : width ≤ max_columns) where
  hand_row : (t : ℕ) → t < count → row_in (put_set hand_slot tokens v) width t ≡ row_in v width t
  unfolding row_in successors_in
  hand_row t low =
      ap (λ (l : List TokenSet). record { columns = l; entered = not (eqb (get_or v.entered t 0) 0); successors = successors_in v t })
      (each_same (load_set (put_set hand_slot tokens v).sets) (load_set v.sets) (first_slot_of t) width (λ j h g. load_other v.sets hand_slot tokens j (λ z. omega arith)))

  hand_trace : trace_in (put_set hand_slot tokens v) count width ≡ trace_in v count width
  unfolding table_in visits_in visited_in
  hand_trace = ap (λ (t : LaneTable). record { table = t; visited = visits_in v count }) (each_same (row_in (put_set hand_slot tokens v) width) (row_in v width) 0 count (λ t h g. hand_row t (omega arith)))

-- ---- by way of the slot at hand
module _ (v : Room) (count width s c : ℕ) (low : s < count) (few : count ≤ max_states) (column : c < width) (narrow : width ≤ max_columns) (sized : Lengths v) where
  pub entered_by_hand : (tokens : TokenSet) → trace_in (hand_entered s c tokens v) count width ≡ on_table (enter s c tokens) (trace_in v count width)
  entered_by_hand tokens =
      entered_trace (put_set hand_slot tokens v) count width s c tokens low few column narrow (sized_kept v (put_set hand_slot tokens v) (hand_only tokens v) sized)
      ∙ ap (on_table (enter s c tokens)) (hand_trace v count width tokens few narrow)

  pub start_trace : (g : Grammar) (i : ℕ) → trace_in (start_entered g s c i v) count width ≡ enter_start g s c i (trace_in v count width)
  unfolding enter_start
  start_trace g i = by_test (eqb (at g i).symbol (start g))
    where
      by_test : (b : Bool) → trace_in (pick b (hand_entered s c (eof (terminal_count g)) v) v) count width ≡ pick b (on_table (enter s c (eof (terminal_count g))) (trace_in v count width)) (trace_in v count width)
      by_test true = entered_by_hand (eof (terminal_count g))
      by_test false = refl
