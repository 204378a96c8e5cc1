-- The room without what an earlier trace or an earlier lane table left.
use Rattle.std.specs.Prelude.{ℕ, ◌<◌, ◌≡◌, false, [], length, replicate}
use Rattle.rules.specs.Lanes.{Row}
use Rattle.room.specs.Areas.{Room, with_visited}
use Rattle.marks.specs.Marks.{visited_in}
use Rattle.lane.specs.Table.{row_in}
use Rattle.lane.specs.Traces.{OnlyLanes}

-- q is v but that no item is visited in the first states
pub record VisitsCleared (count : ℕ) (v q : Room) : Type 0 where
  pub others : with_visited [] q ≡ with_visited [] v
  pub words : length q.visited ≡ length v.visited
  pub none : (s : ℕ) → s < count → visited_in q s ≡ 0

-- ---- rows
abbrev pub empty_row : ℕ → Row
empty_row width = record { columns = replicate width 0; entered = false; successors = 0 }

-- row s is empty, and the others are as they were
pub record RowCleared (width s : ℕ) (v q : Room) : Type 0 where
  pub only : OnlyLanes v q
  pub there : row_in q width s ≡ empty_row width
  pub others : (t : ℕ) → (t ≡ s → ⊥) → row_in q width t ≡ row_in v width t

-- the rows before row `count` are empty
pub record RowsCleared (width count : ℕ) (v q : Room) : Type 0 where
  pub only : OnlyLanes v q
  pub empty : (s : ℕ) → s < count → row_in q width s ≡ empty_row width
