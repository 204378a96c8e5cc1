-- What taking columns makes of the states, and what it leaves of the merge.
use Prim.Native.Nat.{ℕ, ◌+◌, ◌-◌, ◌<◌, ◌≤◌}
use mathlib.Core.Path.{◌≡◌, sym, ap, ◌∙◌}
use mathlib.Core.List.{List, []}
use native.Mathlib.Omega.{arith}
use lib.ListN.{length, get_or, set}
use Rattle.base.specs.Each.{each_from}
use Rattle.base.proofs.Each.{each_same, each_set}
use Rattle.rules.specs.States.{State}
use Rattle.rules.specs.Lanes.{LaneTable}
use Rattle.rules.specs.Merge.{Merge, origin_of, head_of, row_of_origin, group_columns, take_column, take_columns}
use Rattle.room.specs.Areas.{Room, with_sets}
use Rattle.room.specs.Slots.{closure_slot, entry_slot}
use Rattle.context_set.specs.Columns.{columns_at, OnlyColumns}
use Rattle.states.specs.StatesIn.{entry_in, first_of, state_in, states_in, PlacedAt, Placed}
use Rattle.states.proofs.Places.{one_state, placed_same}
use Rattle.states.proofs.States.{first_same, state_at, state_same}
use Rattle.lane_table.specs.Actions.{actions_in}
use Rattle.lane.specs.declared.Lanes.{Lanes}
use Rattle.groups.specs.MergeIn.{origin_in, head_in, merge_in, table_of}
use Rattle.groups.proofs.Merged.{merge_count}
use Rattle.groups.proofs.Moves.{map_each}
use Rattle.construct.specs.Merges.{elsewhere, OnlyMerge, Mergeable}
use Rattle.construct.proofs.Frames.{table_kept, ready_with}
use Rattle.takings.specs.Takes.{Enclosed, Taken}
use Rattle.merging.specs.Takes.{group_taken, is_clone_of, actions_for, OnlyTaken}

-- ---- the columns of one state
-- a state that is in place lies within its area
pub encloses : (record_count : ℕ) (v : Room) (s : ℕ) → PlacedAt record_count v s → Enclosed v s
encloses record_count v s placed = record { ordered = placed.ordered; bounded = placed.bounded }

module _ (width at s : ℕ) (v q : Room) (taken : Taken width at s v q) where
  firsts_stay : q.first_entries ≡ v.first_entries
  firsts_stay = ap (λ (r : Room). r.first_entries) taken.others

  taken_state : state_in q s ≡ take_columns (actions_in v width) (columns_at v at width) (state_in v s)
  unfolding state_in take_columns
  taken_state =
      rw (first_same v q firsts_stay s, first_same v q firsts_stay (s + 1), map_each (take_column (actions_in v width) (columns_at v at width)) (entry_in v) (first_of v s) (first_of v (s + 1) - first_of v s))
      (each_same (entry_in q) (λ k. take_column (actions_in v width) (columns_at v at width) (entry_in v k)) (first_of v s) (first_of v (s + 1) - first_of v s) (λ k a b. taken.inside k (record { from = a; to = omega arith })))

  pub taken_states : (record_count count : ℕ) → Placed record_count count v → s < count
      → states_in q count ≡ set (states_in v count) s (take_columns (actions_in v width) (columns_at v at width) (get_or (states_in v count) s []))
  unfolding states_in
  taken_states record_count count placed h =
      let z : 0 + s ≡ s = omega arith in
      rw (state_at v count s h)
      (each_set (state_in q) (state_in v) 0 count s _ h (ap (state_in q) z ∙ taken_state)
      (λ t a b ne. state_same v q t (first_same v q firsts_stay t) (first_same v q firsts_stay (t + 1)) (λ k p. taken.outside k (λ here. ne (one_state record_count count v placed t s k (omega arith) h p here ∙ sym z)))))

  pub taken_only : OnlyTaken v q
  taken_only = record {
    others = taken.others;
    words = taken.words;
    before = λ slot h. taken.slots_before slot (omega arith);
    behind = λ slot h. taken.slots_behind slot (omega arith);
  }

-- ---- what is left
-- columns that were gathered lie in the slots of the closure
pub gathered_only : (at width : ℕ) (v q : Room) → closure_slot 0 ≤ at → at + width ≤ entry_slot 0 → OnlyColumns at width v q → OnlyTaken v q
gathered_only at width v q h g only = record {
  others = only.others;
  words = only.words;
  before = λ slot l. only.before slot (omega arith);
  behind = λ slot l. only.behind slot (omega arith);
}

-- the columns of a group are the same in two merges with as many states, the same origins and the same heads
groups_alike : (table : LaneTable) (m n : Merge) → length m.states ≡ length n.states → m.origins ≡ n.origins → m.heads ≡ n.heads → (head : ℕ) → group_columns table m head ≡ group_columns table n head
unfolding group_columns row_of_origin origin_of head_of
groups_alike table m n size origins heads head = rw (size, origins, heads)

-- a merge leaves the actions
pub actions_kept : (v q : Room) → OnlyMerge v q → (lanes : Lanes) → actions_for lanes q ≡ actions_for lanes v
unfolding actions_in
actions_kept v q only lanes = ap (actions_for lanes) only.others

module _ (v q : Room) (only : OnlyTaken v q) where
  same_area : {A : Type 0} (f : Room → A) → f (with_sets [] q) ≡ f (with_sets [] v)
  same_area f = ap f only.others

  pub taken_elsewhere : OnlyMerge v q
  taken_elsewhere = record { others = same_area elsewhere; firsts = λ slot h. only.before slot h; cells = λ slot h. only.behind slot (omega arith) }

  item_stays : (k : ℕ) → (entry_in q k).item ≡ (entry_in v k).item
  unfolding entry_in
  item_stays k = same_area (λ r. (entry_in r k).item)

  pub taken_placed : (record_count count : ℕ) → Placed record_count count v → Placed record_count count q
  taken_placed record_count count placed = placed_same record_count count v q placed (same_area (λ r. r.first_entries)) (λ k h. item_stays k)

  pub taken_ready : (bytes : List ℕ) (lanes : Lanes) (count : ℕ) → Mergeable bytes lanes count v → Mergeable bytes lanes count q
  taken_ready bytes lanes count ready = ready_with bytes lanes count v ready q (taken_placed _ count ready.placed) (same_area (λ r. r.origins))

  module _ (count : ℕ) where
    origins_same : (merge_in q count).origins ≡ (merge_in v count).origins
    unfolding merge_in
    origins_same = same_area (λ r. each_from (origin_in r) 0 count)

    heads_same : (merge_in q count).heads ≡ (merge_in v count).heads
    unfolding merge_in
    heads_same = same_area (λ r. each_from (head_in r) 0 count)

    pub clones_kept : (s c : ℕ) → is_clone_of (merge_in q count) s c ≡ is_clone_of (merge_in v count) s c
    unfolding is_clone_of origin_of
    clones_kept s c = rw origins_same

    head_same : (t : ℕ) → head_of (merge_in q count) t ≡ head_of (merge_in v count) t
    unfolding head_of
    head_same t = rw heads_same

    columns_same : (lanes : Lanes) (t : ℕ) → group_columns (table_of lanes q) (merge_in q count) (head_of (merge_in q count) t) ≡ group_columns (table_of lanes v) (merge_in v count) (head_of (merge_in v count) t)
    columns_same lanes t =
        rw (table_kept v q taken_elsewhere lanes, head_same t)
        (groups_alike (table_of lanes v) (merge_in q count) (merge_in v count) (merge_count q count ∙ sym (merge_count v count)) origins_same heads_same _)

    -- a later state takes what it would have taken before
    pub group_kept : (lanes : Lanes) (t : ℕ) (states : List State) → group_taken (table_of lanes q) (actions_for lanes q) (merge_in q count) t states ≡ group_taken (table_of lanes v) (actions_for lanes v) (merge_in v count) t states
    unfolding group_taken
    group_kept lanes t states = rw (columns_same lanes t, actions_kept v q taken_elsewhere lanes)
