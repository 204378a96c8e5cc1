-- A visit, from its lane table on: the columns of all states are taken at once, or the states are merged by the rows.
use Prim.Native.Nat.{ℕ, ◌<◌}
use mathlib.Core.Path.{◌≡◌, sym, ap, subst, ◌∙◌}
use mathlib.Core.Bool.{Bool, true, false, not}
use mathlib.Core.List.{List, []}
use native.Mathlib.Omega.{arith}
use lib.ListN.{get_or, set}
use borrow.Author.Tests.{not-true, not-false}
use Rattle.rules.specs.Limits.{limits}
use Rattle.rules.specs.Records.{records}
use Rattle.std.specs.Prelude.{Result, Ok, Err}
use Rattle.rules.specs.States.{State, done, refused, conflict_count}
use Rattle.rules.specs.Lanes.{LaneTable, Action, all_columns, pairwise_disjoint, rows_disjoint, beachheads}
use Rattle.rules.specs.Merge.{Merge, take_columns, take_all, merge_begun, merged, merge_rows, resolve_by}
use Rattle.rules.specs.declared.BuildRefusal.{BuildRefusal}
use Rattle.rules.specs.declared.BuildRefusal.TheVariants.{Conflicts}
use Rattle.room.specs.Areas.{Room}
use Rattle.room.specs.Slots.{closure_slot}
use Rattle.context_set.specs.Columns.{columns_at, Columned}
use Rattle.lane.specs.Traces.{states_of}
use Rattle.lane.specs.declared.Lanes.{Lanes}
use Rattle.groups.specs.MergeIn.{merge_in, table_of}
use Rattle.groups.proofs.Tested.{closure_only}
use Rattle.construct.specs.Merges.{OnlyMerge, Mergeable, Grown}
use Rattle.construct.specs.Walks.{outcome_in, WalkedTo}
use Rattle.construct.proofs.Changes.{closure_merge}
use Rattle.construct.proofs.Frames.{only_none, only_both, table_kept}
use Rattle.takings.specs.Takes.{Enclosed, Taken}
use Rattle.merging.specs.Begins.{Begun}
use Rattle.merging.specs.Takes.{actions_for, OnlyTaken, TakesAll}
use Rattle.merging.specs.Visits.{Resolvable, walk_each, WalksAll, states_after, MergesRows, ResolvesBy}
use Rattle.merging.proofs.Beginnings.{begun_only}
use Rattle.merging.proofs.Takings.{encloses, taken_states, taken_only, gathered_only, taken_elsewhere, taken_placed, actions_kept}

-- ---- by the rows
overlapping : (bytes : List ℕ) (states : List State) (s : ℕ) (actions : List Action) (table : LaneTable) → rows_disjoint table ≡ false → merge_rows limits (records bytes) states s actions table ≡ refused (Conflicts (conflict_count (records bytes) states))
unfolding merge_rows
overlapping bytes states s actions table e = rw e

walking : (bytes : List ℕ) (states : List State) (s : ℕ) (actions : List Action) (table : LaneTable) → rows_disjoint table ≡ true
    → merge_rows limits (records bytes) states s actions table ≡ merged table actions s (walk_each bytes table (beachheads table) (merge_begun states))
unfolding merge_rows walk_each
walking bytes states s actions table e = rw e

-- what the walks from the beachheads leave
module _ (bytes : List ℕ) (lanes : Lanes) (u : Room) (y : Result ℕ BuildRefusal) (z : Room) (walks : WalksAll bytes lanes u y z) (count : ℕ) (ends : y ≡ Ok count) where
  grown : Grown bytes lanes lanes.states count z
  grown = subst (λ (o : Result ℕ BuildRefusal). WalkedTo bytes lanes lanes.states o z) ends walks.left

  pub walks_ready : Mergeable bytes lanes count z
  walks_ready = grown.ready

  pub walks_inside : (s : ℕ) → s < lanes.states → s < count
  walks_inside s h = omega (arith, grown.grown)

module _ (bytes : List ℕ) (lanes : Lanes) (s : ℕ) (v : Room) (b : Bool) (tested : b ≡ rows_disjoint (table_of lanes v)) where
  pub rows_overlap : (conflicts : ℕ) → not b ≡ true → conflicts ≡ conflict_count (records bytes) (states_of lanes v) → MergesRows bytes lanes s v (Err (Conflicts conflicts)) v
  unfolding states_after
  rows_overlap conflicts e is = record {
    outcome = ap (λ (n : ℕ). refused (Conflicts n)) is ∙ sym (overlapping bytes (states_of lanes v) s (actions_for lanes v) (table_of lanes v) (sym tested ∙ not-true b e));
    only = only_none v;
    left = tt;
  }

  -- the walks from the beachheads were made in the room u, where the merge begins
  module _ (apart : not b ≡ false) (u : Room) (begun : Begun lanes.states v u) (y : Result ℕ BuildRefusal) (z : Room) (walks : WalksAll bytes lanes u y z) where
    walked_is : walk_each bytes (table_of lanes v) (beachheads (table_of lanes v)) (merge_begun (states_of lanes v)) ≡ outcome_in y z
    walked_is =
        ap (λ (m : Merge). walk_each bytes (table_of lanes v) (beachheads (table_of lanes v)) m) (sym begun.merge)
        ∙ ap (λ table. walk_each bytes table (beachheads table) (merge_in u lanes.states)) (sym (table_kept v u (begun_only lanes.states v u begun) lanes)) ∙ sym walks.outcome

    rows_merged : merge_rows limits (records bytes) (states_of lanes v) s (actions_for lanes v) (table_of lanes v) ≡ merged (table_of lanes v) (actions_for lanes v) s (outcome_in y z)
    rows_merged = walking bytes (states_of lanes v) s (actions_for lanes v) (table_of lanes v) (sym tested ∙ not-false b apart) ∙ ap (merged (table_of lanes v) (actions_for lanes v) s) walked_is

    only_walks : OnlyMerge v z
    only_walks = only_both v u z (begun_only lanes.states v u begun) walks.only

    pub rows_refused : (why : BuildRefusal) → y ≡ Err why → MergesRows bytes lanes s v (Err why) z
    unfolding states_after outcome_in merged
    rows_refused why e = record {
      outcome = sym (rows_merged ∙ ap (λ (o : Result ℕ BuildRefusal). merged (table_of lanes v) (actions_for lanes v) s (outcome_in o z)) e);
      only = only_walks;
      left = tt;
    }

    module _ (count : ℕ) (ends : y ≡ Ok count) where
      done_is : merged (table_of lanes v) (actions_for lanes v) s (outcome_in y z) ≡ done (take_all (table_of lanes v) (actions_for lanes v) s (merge_in z count))
      unfolding outcome_in merged
      done_is = ap (λ (o : Result ℕ BuildRefusal). merged (table_of lanes v) (actions_for lanes v) s (outcome_in o z)) ends

      same_actions : actions_for lanes z ≡ actions_for lanes v
      same_actions = actions_kept v z only_walks lanes

      pub rows_done : (q : Room) → TakesAll lanes s count z q → MergesRows bytes lanes s v (Ok count) q
      unfolding states_after
      rows_done q takes = record {
        outcome = ap done (takes.states ∙ rw (table_kept v z only_walks lanes, same_actions)) ∙ sym (rows_merged ∙ done_is);
        only = only_both v z q only_walks (taken_elsewhere z q takes.only);
        left = record { placed = taken_placed z q takes.only _ count (grown bytes lanes u y z walks count ends).ready.placed; grown = (grown bytes lanes u y z walks count ends).grown };
      }

-- ---- by the columns of all states
taken_at_once : (bytes : List ℕ) (states : List State) (s : ℕ) (actions : List Action) (table : LaneTable) → pairwise_disjoint (all_columns table) ≡ true
    → resolve_by limits (records bytes) states s actions table ≡ done (set states s (take_columns actions (all_columns table) (get_or states s [])))
unfolding resolve_by
taken_at_once bytes states s actions table e = rw e

by_rows : (bytes : List ℕ) (states : List State) (s : ℕ) (actions : List Action) (table : LaneTable) → pairwise_disjoint (all_columns table) ≡ false
    → resolve_by limits (records bytes) states s actions table ≡ merge_rows limits (records bytes) states s actions table
unfolding resolve_by
by_rows bytes states s actions table e = rw e

-- they were joined in the slots of the closure
module _ (bytes : List ℕ) (lanes : Lanes) (s at : ℕ) (v u : Room) (asked : Resolvable bytes lanes s v) (slot : at ≡ closure_slot 0)
    (columns : Columned (closure_slot 0) lanes.columns (all_columns (table_of lanes v)) v u) where
  joining : OnlyTaken v u
  joining = gathered_only (closure_slot 0) lanes.columns v u (omega arith) (omega (arith, asked.narrow)) columns.only

  only_joining : OnlyMerge v u
  only_joining = taken_elsewhere v u joining

  states_stay : states_of lanes u ≡ states_of lanes v
  unfolding merge_in
  states_stay = ap (λ (m : Merge). m.states) (closure_merge v u (closure_only (closure_slot 0) lanes.columns v u (omega arith) (omega (arith, asked.narrow)) columns.only) lanes.states)

  columns_are : columns_at u at lanes.columns ≡ all_columns (table_of lanes v)
  columns_are = ap (λ (k : ℕ). columns_at u k lanes.columns) slot ∙ columns.are

  pub joined_encloses : Enclosed u s
  joined_encloses = encloses _ u s ((taken_placed v u joining _ lanes.states asked.placed).each s asked.state)

  pub joined_asked : Resolvable bytes lanes s u
  joined_asked = record {
    clean = asked.clean;
    counted = asked.counted;
    placed = taken_placed v u joining _ lanes.states asked.placed;
    narrow = asked.narrow;
    state = asked.state;
  }

  module _ (b : Bool) (tested : b ≡ pairwise_disjoint (columns_at u at lanes.columns)) where
    test_is : pairwise_disjoint (all_columns (table_of lanes v)) ≡ b
    test_is = ap pairwise_disjoint (sym columns_are) ∙ sym tested

    pub resolved_at_once : b ≡ true → (q : Room) → Taken lanes.columns at s u q → ResolvesBy bytes lanes s v (Ok lanes.states) q
    unfolding states_after
    resolved_at_once e q taken = record {
      outcome =
          ap done
          (taken_states lanes.columns at s u q taken _ lanes.states (taken_placed v u joining _ lanes.states asked.placed) asked.state ∙ rw (states_stay, columns_are, actions_kept v u only_joining lanes))
          ∙ sym (taken_at_once bytes (states_of lanes v) s (actions_for lanes v) (table_of lanes v) (test_is ∙ e));
      only = only_both v u q only_joining (taken_elsewhere u q (taken_only lanes.columns at s u q taken));
      left = record {
        placed = taken_placed u q (taken_only lanes.columns at s u q taken) _ lanes.states (taken_placed v u joining _ lanes.states asked.placed);
        grown = omega arith;
      };
    }

    pub resolved_by_rows : b ≡ false → (r : Result ℕ BuildRefusal) (q : Room) → MergesRows bytes lanes s u r q → ResolvesBy bytes lanes s v r q
    resolved_by_rows e r q merges = record {
      outcome =
          merges.outcome ∙ rw (states_stay, actions_kept v u only_joining lanes, table_kept v u only_joining lanes)
          (sym (by_rows bytes (states_of lanes v) s (actions_for lanes v) (table_of lanes v) (test_is ∙ e)));
      only = only_both v u q only_joining merges.only;
      left = merges.left;
    }
