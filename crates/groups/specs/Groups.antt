-- Groups of states in the room.
use Rattle.std.specs.Prelude.{ℕ, ◌<◌, ◌≤◌, ◌≡◌, List, [], replicate, eqb}
use Rattle.base.specs.Lists.{up_to, keep, fold_over}
use Rattle.base.specs.Pick.{pick}
use Rattle.rules.specs.Limits.{max_nonterminals, max_states, max_columns}
use Rattle.rules.specs.Tokens.{TokenSet}
use Rattle.rules.specs.Lanes.{join_columns}
use Rattle.rules.specs.Merge.{join_groups}
use Rattle.room.specs.Areas.{Room, put_head, with_heads}
use Rattle.room.specs.Slots.{closure_slot}
use Rattle.lane.specs.Table.{first_slot_of}
use Rattle.lane.specs.declared.Lanes.{Lanes}
use Rattle.context_set.specs.Columns.{columns_at, OnlyColumns}
use Rattle.groups.specs.MergeIn.{origin_in, head_in, merge_in}

-- ---- what groups ask
-- each state's original is the number of a row
pub record Rowed (count : ℕ) (v : Room) : Type 0 where
  pub few : count ≤ max_states
  pub originals : (s : ℕ) → s < count → origin_in v s < max_states

-- and the lane table has that row
pub record Grouped (lanes : Lanes) (count : ℕ) (v : Room) : Type 0 where
  pub few : count ≤ max_states
  pub narrow : lanes.columns ≤ max_columns
  pub rows : lanes.states ≤ count
  pub originals : (s : ℕ) → s < count → origin_in v s < lanes.states

-- ---- the columns of a group
-- the row of state s, which is its original's
abbrev pub row_at : Room → ℕ → ℕ → List TokenSet
row_at v width s = columns_at v (first_slot_of (origin_in v s)) width

-- columns with the row of state s joined in, if it is a member of the group
unfoldable pub with_member : Room → ℕ → ℕ → ℕ → List TokenSet → List TokenSet
with_member v width group s columns = pick (eqb (head_in v s) group) (join_columns columns (row_at v width s)) columns

-- the rows of the group's members, joined
unfoldable pub gathered : ℕ → ℕ → ℕ → Room → List TokenSet
gathered width count group v =
    fold_over (λ s columns. join_columns columns (row_at v width s)) (keep (λ s. eqb (head_in v s) group) (up_to count)) (replicate width 0)

-- they are gathered in the slots of the closure: q is v but for those
abbrev pub OnlyClosure : Room → Room → Type 0
OnlyClosure v q = OnlyColumns (closure_slot 0) max_nonterminals v q

-- ---- a group comes to another
-- a head becomes `to` if it is `from`
abbrev pub moved : ℕ → ℕ → ℕ → ℕ
moved from to head = pick (eqb head from) to head

-- state k comes to the group `to` if it is in the group `from`
unfoldable pub moved_in : ℕ → ℕ → ℕ → Room → Room
moved_in from to k r = pick (eqb (head_in r k) from) (put_head k to r) r

-- the groups of s and t are one in the room q, where v was the room before
pub record Regrouped (s t count : ℕ) (v q : Room) : Type 0 where
  pub others : with_heads [] q ≡ with_heads [] v
  pub merge : merge_in q count ≡ join_groups s t (merge_in v count)
