-- Columns in the room: token sets that lie side by side.
use Rattle.std.specs.Prelude.{ℕ, ◌+◌, ◌-◌, ◌<◌, ◌≤◌, ◌≡◌, List, [], length}
use Rattle.base.specs.Each.{each_from}
use Rattle.rules.specs.Tokens.{TokenSet}
use Rattle.rules.specs.Lanes.{join_columns}
use Rattle.room.specs.Areas.{Room, with_sets}
use Rattle.lookahead.specs.Sets.{load_set, set_at}

-- that many from the slot `at` on, and those up to the slot `end`
abbrev pub columns_at : Room → ℕ → ℕ → List TokenSet
columns_at r at width = each_from (load_set r.sets) at width

abbrev pub columns_up_to : Room → ℕ → ℕ → List TokenSet
columns_up_to r at end = columns_at r at (end - at)

-- those of two places joined
abbrev pub columns_joined : ℕ → ℕ → ℕ → Room → List TokenSet
columns_joined into from width r = join_columns (columns_at r into width) (columns_at r from width)

-- q is v but for the columns from `at` on
pub record OnlyColumns (at width : ℕ) (v q : Room) : Type 0 where
  pub others : with_sets [] q ≡ with_sets [] v
  pub words : length q.sets ≡ length v.sets
  pub before : (slot : ℕ) → slot < at → set_at q slot ≡ set_at v slot
  pub behind : (slot : ℕ) → at + width ≤ slot → set_at q slot ≡ set_at v slot

-- and they are `columns`
pub record Columned (at width : ℕ) (columns : List TokenSet) (v q : Room) : Type 0 where
  pub only : OnlyColumns at width v q
  pub are : columns_at q at width ≡ columns
