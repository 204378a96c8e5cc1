-- What the rows of the lane table say of its columns, and where lanes begin.
use Prim.Native.Nat.{ℕ, ◌+◌, ◌-◌, ◌≤◌, ◌<◌}
use mathlib.Core.Path.{◌≡◌, refl, sym, ap, ◌∙◌}
use mathlib.Core.Bool.{Bool, true, false, not}
use mathlib.Core.List.{List}
use native.Mathlib.Omega.{arith}
use native.Mathlib.Nat.{sub-zero}
use lib.ListN.{length, get_or, replicate}
use lib.Dec.{eqb}
use borrow.Author.Tests.{eq-eqb, ne_eqb}
use Rattle.base.specs.Each.{each_from}
use Rattle.base.specs.Lists.{some_of, each_of, fold_over}
use Rattle.base.proofs.Each.{each_same}
use Rattle.base.proofs.EachLeft.{each_length, each_none, each_more}
use Rattle.rules.specs.Tokens.{TokenSet, has}
use Rattle.rules.specs.Lanes.{Row, join_columns, pairwise_disjoint, no_columns, all_columns, rows_disjoint, row_of, is_successor}
use Rattle.room.specs.Areas.{Room}
use Rattle.room.specs.Slots.{closure_slot}
use Rattle.lookahead.specs.Sets.{load_set}
use Rattle.context_set.specs.Columns.{columns_at, columns_joined, OnlyColumns, Columned}
use Rattle.marks.specs.Marks.{successors_in}
use Rattle.lane_table.specs.Beachheads.{is_beachhead}
use Rattle.lane.specs.Table.{first_cell, first_slot_of, cell_slot, row_in, table_in}
use Rattle.lane.proofs.Changed.{row_at}

-- ---- no row has a token in two columns
abbrev pub is_disjoint : Row → Bool
is_disjoint row = pairwise_disjoint row.columns

pub disjoint_whole : (r : Room) (width count : ℕ) → each_of is_disjoint (each_from (row_in r width) 0 (count - 0)) ≡ rows_disjoint (table_in r count width)
unfolding rows_disjoint table_in
disjoint_whole r width count = rw sub-zero

pub row_disjoint_lem : (r : Room) (width s at : ℕ) (b : Bool) → at ≡ cell_slot s 0 → b ≡ pairwise_disjoint (columns_at r at width) → b ≡ is_disjoint (row_in r width s)
unfolding row_in
row_disjoint_lem r width s at b e is = let z : at ≡ first_slot_of s = omega arith in is ∙ ap (λ (slot : ℕ). pairwise_disjoint (columns_at r slot width)) z

-- ---- successors
abbrev pub links : ℕ → Row → Bool
links s row = has row.successors s

pub successor_whole : (r : Room) (width count s : ℕ) → some_of (links s) (each_from (row_in r width) 0 (count - 0)) ≡ is_successor (table_in r count width) s
unfolding is_successor table_in
successor_whole r width count s = rw sub-zero

-- ---- where a lane begins
module _ (r : Room) (width count s x : ℕ) (low : s < count) (read : x ≡ get_or r.entered s 0) where
  entered_as : (b : Bool) → eqb x 0 ≡ b → (row_of (table_in r count width) s).entered ≡ not b
  unfolding row_in
  entered_as b e = ap (λ (row : Row). row.entered) (row_at r count width s low) ∙ ap (λ (y : ℕ). not (eqb y 0)) (sym read) ∙ ap not e

  pub none_entered : x ≡ 0 → not (eqb x 0) ≡ is_beachhead (table_in r count width) s
  unfolding is_beachhead
  none_entered e = rw (entered_as true (eq-eqb x 0 e), eq-eqb x 0 e)

  pub some_entered : (x ≡ 0 → ⊥) → (b : Bool) → b ≡ is_successor (table_in r count width) s → not b ≡ is_beachhead (table_in r count width) s
  unfolding is_beachhead
  some_entered ne b is = rw (entered_as false (ne_eqb x 0 ne), ← is)

-- ---- the columns joined over all states
abbrev join_row : Row → List TokenSet → List TokenSet
join_row row columns = join_columns columns row.columns

-- what the rows from s on make of the columns, where v is the room in which the loop began
unfoldable pub columns_rest : Room → ℕ → ℕ → ℕ → List TokenSet → List TokenSet
columns_rest v count width s columns = fold_over join_row (each_from (row_in v width) s (count - s)) columns

row_like : (v q : Room) (width s : ℕ) → columns_at q (first_slot_of s) width ≡ columns_at v (first_slot_of s) width → q.entered ≡ v.entered → q.successors ≡ v.successors → row_in q width s ≡ row_in v width s
unfolding row_in successors_in
row_like v q width s cells marks links = rw (cells, marks, links)

-- columns before the rows are none of a row's
row_columns : (v q : Room) (at width s n : ℕ) → at + n ≤ first_cell → OnlyColumns at n v q → columns_at q (first_slot_of s) width ≡ columns_at v (first_slot_of s) width
row_columns v q at width s n before only = each_same (load_set q.sets) (load_set v.sets) (first_slot_of s) width (λ slot h g. only.behind slot (omega arith))

rows_kept : (v q : Room) (at width n count : ℕ) → at + n ≤ first_cell → OnlyColumns at n v q → table_in q count width ≡ table_in v count width
unfolding table_in
rows_kept v q at width n count before only = each_same (row_in q width) (row_in v width) 0 count (λ s h g. row_kept s)
  where
    row_kept : (s : ℕ) → row_in q width s ≡ row_in v width s
    row_kept s =
        row_like v q width s (row_columns v q at width s n before only) (ap (λ (r : Room). r.entered) only.others) (ap (λ (r : Room). r.successors) only.others)

-- what was cleared or joined before, and what is joined now
pub columns_more : (v q z : Room) (at width : ℕ) (columns : List TokenSet) → OnlyColumns at width v q → Columned at width columns q z → OnlyColumns at width v z
columns_more v q z at width columns only now = record {
  others = now.only.others ∙ only.others;
  words = now.only.words ∙ only.words;
  before = λ slot h. now.only.before slot h ∙ only.before slot h;
  behind = λ slot h. now.only.behind slot h ∙ only.behind slot h;
}

pub columns_begun : (v : Room) (at width : ℕ) → OnlyColumns at width v v
columns_begun v at width = record { others = refl; words = refl; before = λ slot h. refl; behind = λ slot h. refl }

module _ (v q : Room) (at width count s : ℕ) (before : at + width ≤ first_cell) (only : OnlyColumns at width v q) where
  pub columns_turn : (z : Room) (row : ℕ) (t : List TokenSet) → s < count → row ≡ cell_slot s 0 → Columned at width (columns_joined at row width q) q z → columns_rest v count width s (columns_at q at width) ≡ t
      → columns_rest v count width (s + 1) (columns_at z at width) ≡ t
  unfolding columns_rest fold_over row_in
  columns_turn z row t h is now left =
      let start : row ≡ first_slot_of s = omega arith in
      let e : columns_at z at width ≡ join_columns (columns_at q at width) (columns_at v (first_slot_of s) width) =
      now.are ∙ ap (λ (slot : ℕ). columns_joined at slot width q) start ∙ ap (join_columns (columns_at q at width)) (row_columns v q at width s width before only) in
      rw e (rw (each_more (row_in v width) count s h) at left)

  rest_none : (columns t : List TokenSet) → count ≤ s → columns_rest v count width s columns ≡ t → columns ≡ t
  unfolding columns_rest fold_over
  rest_none columns t h left = rw (each_none (row_in v width) count s h) at left

  whole : 0 < count → columns_rest v count width 0 (replicate width 0) ≡ all_columns (table_in v count width)
  unfolding columns_rest all_columns no_columns table_in row_in
  whole h =
      let none : no_columns (table_in v count width) ≡ replicate width 0 = ap (λ (row : Row). replicate (length row.columns) 0) (row_at v count width 0 h) ∙ ap (λ (n : ℕ). replicate n 0) (each_length (load_set v.sets) (first_slot_of 0) width) in
      rw (none, sub-zero)

  pub columns_end : (u : Room) → 0 < count → count ≤ s → at ≡ closure_slot 0 → Columned at width (replicate width 0) u v
      → columns_rest v count width s (columns_at q at width) ≡ columns_rest v count width 0 (columns_at v at width) → Columned (closure_slot 0) width (all_columns (table_in u count width)) u q
  columns_end u some over is cleared left =
      let all : columns_at q at width ≡ all_columns (table_in u count width) =
      rest_none _ _ over left ∙ ap (columns_rest v count width 0) cleared.are ∙ whole some ∙ ap all_columns (rows_kept u v at width width count before cleared.only) in
      rw (← is) (record { only = both; are = all })
    where
      both : OnlyColumns at width u q
      both = columns_more u v q at width (columns_at q at width) cleared.only (record { only = only; are = refl })
