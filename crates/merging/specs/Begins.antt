-- How a merge begins, in the room.
use Rattle.std.specs.Prelude.{ℕ, ◌≡◌, []}
use Rattle.rules.specs.Merge.{merge_begun}
use Rattle.room.specs.Areas.{Room, with_origins, with_heads, with_walked, put_origin, put_head}
use Rattle.states.specs.StatesIn.{states_in}
use Rattle.groups.specs.MergeIn.{merge_in}

-- state s is no clone, and a group of its own
unfoldable pub begun_at : ℕ → Room → Room
begun_at s r = put_head s s (put_origin s s r)

-- the areas that the beginning leaves
abbrev pub beside_merge : Room → Room
beside_merge r = with_origins [] (with_heads [] (with_walked [] r))

-- a merge of the states begins in q, where v was the room before
pub record Begun (count : ℕ) (v q : Room) : Type 0 where
  pub others : beside_merge q ≡ beside_merge v
  pub merge : merge_in q count ≡ merge_begun (states_in v count)
