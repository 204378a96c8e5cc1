-- What is cleared: the items visited, and the rows of the lane table.
use Prim.Native.Nat.{ℕ, ◌+◌, ◌≤◌, ◌<◌}
use mathlib.Core.Path.{◌≡◌, refl, ap, ◌∙◌}
use mathlib.Core.List.{List, []}
use native.Mathlib.Omega.{arith}
use native.Mathlib.Decide.{ℕ_discrete, dec_le}
use lib.ListN.{length, get_or, set, replicate}
use lib.Seq.{get_or-set_same, get_or-set_other}
use Rattle.base.proofs.Each.{each_same, each_one}
use Rattle.rules.specs.Limits.{work_size, max_states, max_columns}
use Rattle.room.specs.Areas.{Room, view, with_visited, put_entered}
use Rattle.room.specs.Bounds.{LongEnough}
use Rattle.room.proofs.Lengths.{view_lengths}
use Rattle.lookahead.specs.Sets.{load_set, set_at}
use Rattle.context_set.specs.Columns.{columns_at, OnlyColumns, Columned}
use Rattle.marks.specs.Marks.{visited_in, successors_in, visited_cleared, successors_cleared}
use Rattle.marks.proofs.Changes.{blanked_length, visited_none, visited_left, successors_none, successors_left}
use Rattle.lane_table.specs.Clears.{VisitsCleared, empty_row, RowCleared, RowsCleared}
use Rattle.lane.specs.Table.{first_cell, first_slot_of, cell_slot, row_in, table_in, visits_in, trace_in}
use Rattle.lane.specs.Traces.{elsewhere, OnlyLanes}
use Rattle.lane.proofs.Frames.{only_none, only_both, mark_only, sized_kept}

-- ---- the items visited, state by state
pub visits_start : (v : Room) → VisitsCleared 0 v v
visits_start v = record { others = refl; words = refl; none = λ s h. absurd (omega arith) }

pub visits_turn : (v : Room) (w : List ℕ) (q : Room) (s n count : ℕ) → VisitsCleared s v (view w) → work_size ≤ n → length w ≡ n → s < count → count ≤ max_states → q ≡ visited_cleared s (view w)
    → VisitsCleared (s + 1) v q
visits_turn v w q s n count before fits same here few cleared = record {
  others = ap (with_visited []) cleared ∙ before.others;
  words = ap (λ (r : Room). length r.visited) cleared ∙ blanked_length _ (view w).visited _ ∙ before.words;
  none = λ t h. elim (ℕ_discrete t s) [
    | yes e ↦ ap (visited_in q) e ∙ visited_none (view w) q s cleared (view_lengths w (omega arith)) (omega arith)
    | no ne ↦ visited_left (view w) q s cleared t ne ∙ before.none t (omega arith)
  ];
}

pub visits_end : (v q : Room) (s count : ℕ) → VisitsCleared s v q → s ≤ count → count ≤ s → VisitsCleared count v q
visits_end v q s count cleared h g = let e : s ≡ count = omega arith in rw e at cleared

module _ (count : ℕ) (v q : Room) (cleared : VisitsCleared count v q) where
  no_visits : visits_in q count ≡ replicate count 0
  unfolding visits_in
  no_visits = each_same (visited_in q) (λ s. 0) 0 count (λ s h g. cleared.none s (omega arith)) ∙ each_one (λ s. 0) 0 count 0 (λ s. refl)

  as_before : (width : ℕ) → table_in q count width ≡ table_in v count width
  unfolding table_in row_in successors_in
  as_before width = ap (λ (r : Room). table_in r count width) (ap (with_visited q.visited) cleared.others)

  pub cleared_trace : (width : ℕ) → trace_in q count width ≡ record { table = table_in v count width; visited = replicate count 0 }
  cleared_trace width = rw (no_visits, as_before width)

  pub cleared_only : OnlyLanes v q
  cleared_only = record {
    others = ap elsewhere cleared.others;
    visited_words_lem = cleared.words;
    entered_words = ap (λ (r : Room). length r.entered) cleared.others;
    successor_words_lem = ap (λ (r : Room). length r.successors) cleared.others;
    set_words = ap (λ (r : Room). length r.sets) cleared.others;
    slots = λ slot h. ap (λ (r : Room). set_at r slot) cleared.others;
  }

-- ---- a row: the mark of an entry, the successors, and the columns
unlink_only : (s : ℕ) (v : Room) → OnlyLanes v (successors_cleared s v)
unlink_only s v = record {
  others = refl;
  visited_words_lem = refl;
  entered_words = refl;
  successor_words_lem = blanked_length _ v.successors _;
  set_words = refl;
  slots = λ slot h. refl;
}

columns_only : (at width : ℕ) (v q : Room) → first_cell ≤ at → OnlyColumns at width v q → OnlyLanes v q
columns_only at width v q cells only = record {
  others = ap elsewhere only.others;
  visited_words_lem = ap (λ (r : Room). length r.visited) only.others;
  entered_words = ap (λ (r : Room). length r.entered) only.others;
  successor_words_lem = ap (λ (r : Room). length r.successors) only.others;
  set_words = only.words;
  slots = λ slot h. only.before slot (omega arith);
}

-- the successors are the same where their area is
successors_same : (v q : Room) (t : ℕ) → q.successors ≡ v.successors → successors_in q t ≡ successors_in v t
unfolding successors_in
successors_same v q t e = rw e

module _ (w : List ℕ) (p u q : Room) (s width at : ℕ) (fits : LongEnough w) (low : s < max_states) (narrow : width ≤ max_columns)
    (marked : p ≡ put_entered s 0 (view w)) (unlinked : u ≡ successors_cleared s p) (is : at ≡ cell_slot s 0) (emptied : Columned at width (replicate width 0) u q) where
  marked_only : OnlyLanes (view w) p
  marked_only = rw marked (mark_only s 0 (view w))

  row_only : OnlyLanes (view w) q
  row_only = only_both (view w) p q marked_only (only_both p u q (rw unlinked (unlink_only s p)) (columns_only at width u q (omega arith) emptied.only))

  marks_now : q.entered ≡ set (view w).entered s 0
  marks_now = ap (λ (r : Room). r.entered) emptied.only.others ∙ ap (λ (r : Room). r.entered) unlinked ∙ ap (λ (r : Room). r.entered) marked

  links_now : (t : ℕ) → successors_in q t ≡ successors_in u t
  links_now t = successors_same u q t (ap (λ (r : Room). r.successors) emptied.only.others)

  row_empty : row_in q width s ≡ empty_row width
  unfolding row_in
  row_empty =
      let sized = view_lengths w fits in
      let mark : get_or q.entered s 0 ≡ 0 = ap (λ (l : List ℕ). get_or l s 0) marks_now ∙ get_or-set_same (view w).entered s 0 0 (omega (arith, sized.entered_length)) in
      let links : successors_in q s ≡ 0 = links_now s ∙ successors_none p u s unlinked (sized_kept (view w) p marked_only sized) low in
      let start : at ≡ first_slot_of s = omega arith in
      let cells : columns_at q (first_slot_of s) width ≡ replicate width 0 = rw start at emptied.are in
      rw (mark, links, cells)

  -- the cells of another row lie before these columns or behind them
  cell_kept : (t slot : ℕ) → (t ≡ s → ⊥) → first_slot_of t ≤ slot → slot < first_slot_of t + width → set_at q slot ≡ set_at (view w) slot
  cell_kept t slot ne from to =
      elim (dec_le t s) [
        | yes h ↦ emptied.only.before slot (omega arith)
        | no h ↦ emptied.only.behind slot (omega arith)
      ]
      ∙ ap (λ (r : Room). set_at r slot) unlinked ∙ ap (λ (r : Room). set_at r slot) marked

  row_kept : (t : ℕ) → (t ≡ s → ⊥) → row_in q width t ≡ row_in (view w) width t
  unfolding row_in
  row_kept t ne =
      let mark : get_or q.entered t 0 ≡ get_or (view w).entered t 0 = ap (λ (l : List ℕ). get_or l t 0) marks_now ∙ get_or-set_other (view w).entered s t 0 0 ne in
      let links : successors_in q t ≡ successors_in (view w) t = links_now t ∙ successors_left p u s unlinked t ne ∙ successors_same (view w) p t (ap (λ (r : Room). r.successors) marked) in
      let cells : columns_at q (first_slot_of t) width ≡ columns_at (view w) (first_slot_of t) width = each_same (load_set q.sets) (load_set (view w).sets) (first_slot_of t) width (λ slot from to. cell_kept t slot ne from to) in
      rw (mark, links, cells)

  pub row_cleared : RowCleared width s (view w) q
  row_cleared = record { only = row_only; there = row_empty; others = row_kept }

-- ---- the rows, state by state
pub rows_start : (width : ℕ) (v : Room) → RowsCleared width 0 v v
rows_start width v = record { only = only_none v; empty = λ s h. absurd (omega arith) }

pub rows_turn : (width s : ℕ) (v q z : Room) → RowsCleared width s v q → RowCleared width s q z → RowsCleared width (s + 1) v z
rows_turn width s v q z before cleared = record {
  only = only_both v q z before.only cleared.only;
  empty = λ t h. elim (ℕ_discrete t s) [
    | yes e ↦ ap (row_in z width) e ∙ cleared.there
    | no ne ↦ cleared.others t ne ∙ before.empty t (omega arith)
  ];
}

pub rows_end : (width s count : ℕ) (v q : Room) → RowsCleared width s v q → s ≤ count → count ≤ s → RowsCleared width count v q
rows_end width s count v q cleared h g = let e : s ≡ count = omega arith in rw e at cleared

pub empty_table : (width count : ℕ) (v q : Room) → RowsCleared width count v q → table_in q count width ≡ replicate count (empty_row width)
unfolding table_in
empty_table width count v q cleared =
    each_same (row_in q width) (λ s. empty_row width) 0 count (λ s h g. cleared.empty s (omega arith)) ∙ each_one (λ s. empty_row width) 0 count (empty_row width) (λ s. refl)
