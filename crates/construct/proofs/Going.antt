-- The walk: the loop over a state's successors, as long as no join and no walk from one refuses.
use Prim.Native.Nat.{ℕ, ◌+◌, ◌<◌, ◌≤◌}
use mathlib.Core.Path.{◌≡◌, refl, sym, ap, subst, ◌∙◌}
use mathlib.Core.Bool.{Bool, true, false, not}
use mathlib.Core.List.{List}
use native.Mathlib.Omega.{arith}
use lib.ListN.{length}
use borrow.Author.Tests.{not-true, not-false}
use Rattle.std.specs.Prelude.{Result, Ok, Err}
use Rattle.base.proofs.ListLoops.{kept, kept_start}
use Rattle.rules.specs.Limits.{limits, max_states}
use Rattle.rules.specs.Records.{records}
use Rattle.rules.specs.Tokens.{has}
use Rattle.rules.specs.States.{Outcome, done, refused, each_in_turn}
use Rattle.rules.specs.Lanes.{LaneTable, row_of}
use Rattle.rules.specs.Merge.{Merge, join_successor, successors_of, origin_of, row_of_origin, mark_walked}
use Rattle.rules.specs.declared.BuildRefusal.{BuildRefusal}
use Rattle.room.specs.Areas.{Room, view}
use Rattle.room.specs.Bounds.{LongEnough}
use Rattle.room.proofs.Lengths.{Lengths, view_lengths}
use Rattle.marks.specs.Marks.{successors_in, walked_in, state_walked}
use Rattle.marks.proofs.Changes.{state_walked_lem}
use Rattle.states.specs.StatesIn.{entry_in, state_in, states_in}
use Rattle.states.proofs.Places.{placed_same}
use Rattle.lane.specs.declared.Lanes.{Lanes}
use Rattle.walks.specs.Whole.{walks_left, walked, gone_on, over_successor}
use Rattle.walks.proofs.Whole.{walk_seen, walk_goes}
use Rattle.walks.proofs.Left.{mark_walked_left, walk_left, joining_left}
use Rattle.walks.proofs.Turns.{turn_passed, turn_done, turn_refused, turn_end}
use Rattle.groups.specs.MergeIn.{origin_in, merge_in, table_of}
use Rattle.groups.proofs.Merged.{merge_count, origin_at, merge_parts}
use Rattle.construct.specs.Merges.{OnlyMerge, Mergeable, Grown}
use Rattle.construct.specs.Joins.{joining_in, JoinedTo, Joins}
use Rattle.construct.specs.Walks.{outcome_in, WalkedTo, Walks}
use Rattle.construct.specs.declared.Joined.{Joined}
use Rattle.construct.proofs.Frames.{state_limit, only_none, only_both, table_kept, rows_length, row_successors, ready_with}

-- ---- a state walked
walk_only : (s : ℕ) (v : Room) → OnlyMerge v (state_walked s v)
walk_only s v = record { others = refl; firsts = λ slot h. refl; cells = λ slot h. refl }

only_walk : (v q : Room) (s : ℕ) → q ≡ state_walked s v → OnlyMerge v q
only_walk v q s e = rw e (walk_only s v)

walked_ready : (bytes : List ℕ) (lanes : Lanes) (count s : ℕ) (v : Room) → Mergeable bytes lanes count v → Mergeable bytes lanes count (state_walked s v)
unfolding entry_in
walked_ready bytes lanes count s v ready = ready_with bytes lanes count v ready (state_walked s v) (placed_same _ count v (state_walked s v) ready.placed refl (λ k h. refl)) refl

walked_merge : (r : Room) (count s : ℕ) → s < max_states → Lengths r → merge_in (state_walked s r) count ≡ mark_walked s (merge_in r count)
unfolding merge_in mark_walked states_in state_in entry_in
walked_merge r count s h sized = merge_parts (state_walked s r) count (mark_walked s (merge_in r count)) refl refl refl (state_walked_lem r (state_walked s r) sized s h refl)

-- ---- the loop: where it is
pub record Going (bytes : List ℕ) (lanes : Lanes) (s row begun count : ℕ) (v q : Room) : Type 0 where
  pub ready : Mergeable bytes lanes count q
  pub grown : begun ≤ count
  pub inside : s < count
  pub row_inside : row < lanes.states
  pub only : OnlyMerge v q
  pub same_table : table_of lanes q ≡ table_of lanes v
  pub fewer : walks_left limits (merge_in q count) ≤ walks_left limits (merge_in v begun)

-- the outcome of the walk over the successors from `next` on
unfoldable pub walk_rest : List ℕ → Lanes → ℕ → ℕ → Room → ℕ → Merge → Outcome Merge
walk_rest bytes lanes s row v next m =
    each_in_turn (over_successor limits (records bytes) (table_of lanes v) s) (kept (has (row_of (table_of lanes v) row).successors) lanes.states next) m

-- ---- the loop begins
module _ (bytes : List ℕ) (lanes : Lanes) (s row count : ℕ) (w : List ℕ) (v : Room) (fits : LongEnough w) (ready : Mergeable bytes lanes count (view w)) (low : s < count) (walks : v ≡ state_walked s (view w)) where
  begun_ready : Mergeable bytes lanes count v
  begun_ready = rw walks (walked_ready bytes lanes count s (view w) ready)

  pub going_begun : row ≡ origin_in v s → Going bytes lanes s row count count v v
  going_begun is = record {
    ready = begun_ready;
    grown = omega arith;
    inside = low;
    row_inside = rw is (begun_ready.grouped.originals s low);
    only = only_none v;
    same_table = refl;
    fewer = omega arith;
  }

-- ---- a successor was joined
module _ (bytes : List ℕ) (lanes : Lanes) (s successor count : ℕ) (q : Room) (x : Result Joined BuildRefusal) (u : Room) (joins : Joins bytes lanes s successor count q x u) (j : Joined) (is : x ≡ Ok j) where
  joined_to : Grown bytes lanes count j.states u × (j.state.0 < j.states)
  joined_to = subst (λ y. JoinedTo bytes lanes count y u) is joins.left

  pub joined_ready : Mergeable bytes lanes j.states u
  joined_ready = joined_to.0.ready

  pub joined_low : j.state.0 < j.states
  joined_low = joined_to.1

-- ---- a turn
module _ (bytes : List ℕ) (lanes : Lanes) (s row begun count next : ℕ) (v q : Room) (d : Bool) (t : Outcome Merge) (going : Going bytes lanes s row begun count v q) (here : next < lanes.states)
    (tested : d ≡ has (successors_in q row) next) (left : walk_rest bytes lanes s row v next (merge_in q count) ≡ t) where
  few : count ≤ max_states
  few = going.ready.placed.few

  test_is : has (row_of (table_of lanes v) row).successors next ≡ d
  test_is = rw (← going.same_table, row_successors lanes q row going.row_inside) (sym tested)

  pub walk_passed : not d ≡ true → walk_rest bytes lanes s row v (next + 1) (merge_in q count) ≡ t
  unfolding walk_rest
  walk_passed e = turn_passed _ _ lanes.states next (merge_in q count) t left here (test_is ∙ not-true d e)

  over : over_successor limits (records bytes) (table_of lanes v) s next (merge_in q count) ≡ gone_on limits (records bytes) (table_of lanes v) (join_successor limits (records bytes) (table_of lanes q) s next (merge_in q count))
  unfolding over_successor
  over = ap (λ (table : LaneTable). gone_on limits (records bytes) (table_of lanes v) (join_successor limits (records bytes) table s next (merge_in q count))) (sym going.same_table)

  -- a successor is joined
  module _ (new : not d ≡ false) (x : Result Joined BuildRefusal) (u : Room) (joins : Joins bytes lanes s next count q x u) where
    over_is : over_successor limits (records bytes) (table_of lanes v) s next (merge_in q count) ≡ gone_on limits (records bytes) (table_of lanes v) (joining_in x u)
    over_is = over ∙ ap (gone_on limits (records bytes) (table_of lanes v)) (sym joins.outcome)

    went_none : (why : BuildRefusal) → x ≡ Err why → gone_on limits (records bytes) (table_of lanes v) (joining_in x u) ≡ refused why
    unfolding gone_on joining_in
    went_none why e = ap (λ (y : Result Joined BuildRefusal). gone_on limits (records bytes) (table_of lanes v) (joining_in y u)) e

    join_refused : (why : BuildRefusal) → x ≡ Err why → refused why ≡ t
    unfolding walk_rest
    join_refused why e = turn_refused _ _ lanes.states next (merge_in q count) t left here (test_is ∙ not-false d new) why (over_is ∙ went_none why e)

    module _ (j : Joined) (is : x ≡ Ok j) where
      went_on : gone_on limits (records bytes) (table_of lanes v) (joining_in x u) ≡ walked limits (records bytes) (table_of lanes v) j.state.0 (merge_in u j.states)
      unfolding gone_on joining_in
      went_on = ap (λ (y : Result Joined BuildRefusal). gone_on limits (records bytes) (table_of lanes v) (joining_in y u)) is

      same_left : walks_left limits (merge_in u j.states) ≡ walks_left limits (merge_in q count)
      unfolding joining_in
      same_left =
          joining_left limits (records bytes) (table_of lanes q) (omega (arith, rows_length lanes q, going.ready.grouped.rows, few, state_limit)) (merge_in q count) (omega (arith, merge_count q count, few, state_limit)) s next
          (record { merge = merge_in u j.states; state = j.state.0 }) (omega (arith, going.ready.grouped.rows, few, state_limit)) (ap (λ (y : Result Joined BuildRefusal). joining_in y u) (sym is) ∙ joins.outcome)

      joined_table : table_of lanes u ≡ table_of lanes v
      joined_table = table_kept q u joins.only lanes ∙ going.same_table

      -- and the walk goes on there
      module _ (y : Result ℕ BuildRefusal) (z : Room) (walks : Walks bytes lanes j.state.0 j.states u y z) where
        walked_is : over_successor limits (records bytes) (table_of lanes v) s next (merge_in q count) ≡ outcome_in y z
        walked_is = over_is ∙ went_on ∙ ap (λ table. walked limits (records bytes) table j.state.0 (merge_in u j.states)) (sym joined_table) ∙ sym walks.outcome

        none_left : (why : BuildRefusal) → y ≡ Err why → outcome_in y z ≡ refused why
        unfolding outcome_in
        none_left why e = ap (λ (o : Result ℕ BuildRefusal). outcome_in o z) e

        walk_refused : (why : BuildRefusal) → y ≡ Err why → refused why ≡ t
        unfolding walk_rest
        walk_refused why e = turn_refused _ _ lanes.states next (merge_in q count) t left here (test_is ∙ not-false d new) why (walked_is ∙ none_left why e)

        module _ (many : ℕ) (ends : y ≡ Ok many) where
          done_is : outcome_in y z ≡ done (merge_in z many)
          unfolding outcome_in
          done_is = ap (λ (o : Result ℕ BuildRefusal). outcome_in o z) ends

          pub walk_done : walk_rest bytes lanes s row v (next + 1) (merge_in z many) ≡ t
          unfolding walk_rest
          walk_done = turn_done _ _ lanes.states next (merge_in q count) t left here (test_is ∙ not-false d new) (merge_in z many) (walked_is ∙ done_is)

          walked_to : Grown bytes lanes j.states many z
          walked_to = subst (λ (o : Result ℕ BuildRefusal). WalkedTo bytes lanes j.states o z) ends walks.left

          pub going_on : Going bytes lanes s row begun many v z
          going_on = record {
            ready = walked_to.ready;
            grown = omega (arith, going.grown, (joined_to bytes lanes s next count q x u joins j is).0.grown, walked_to.grown);
            inside = omega (arith, going.inside, (joined_to bytes lanes s next count q x u joins j is).0.grown, walked_to.grown);
            row_inside = going.row_inside;
            only = only_both v q z going.only (only_both q u z joins.only walks.only);
            same_table = table_kept u z walks.only lanes ∙ joined_table;
            fewer = omega (arith, going.fewer, same_left, walk_left limits (records bytes) (table_of lanes u) (omega (arith, rows_length lanes u, going.ready.grouped.rows, few, state_limit)) (merge_in u j.states) (omega (arith, merge_count u j.states, (joined_to bytes lanes s next count q x u joins j is).0.ready.placed.few, state_limit)) j.state.0 (merge_in z many) (sym done_is ∙ walks.outcome));
          }

-- ---- the whole walk, from the room w to the room z
module _ (bytes : List ℕ) (lanes : Lanes) (s count : ℕ) (w : List ℕ) (b : Bool) (ready : Mergeable bytes lanes count (view w)) (low : s < count) (tested : b ≡ has (walked_in (view w)) s) where
  below : s < max_states
  below = omega (arith, ready.placed.few)

  was : has (merge_in (view w) count).walked s ≡ b
  unfolding merge_in
  was = sym tested

  pub walk_stops : b ≡ true → Walks bytes lanes s count (view w) (Ok count) (view w)
  unfolding outcome_in
  walk_stops e = record {
    outcome = sym (walk_seen limits (records bytes) (table_of lanes (view w)) s (merge_in (view w) count) (was ∙ e));
    only = only_none (view w);
    left = record { ready = ready; grown = omega arith };
  }

  module _ (fits : LongEnough w) (new : b ≡ false) (v : Room) (marks : v ≡ state_walked s (view w)) where
    rows_few : length (table_of lanes (view w)) ≤ limits.states
    rows_few = omega (arith, rows_length lanes (view w), ready.grouped.rows, ready.placed.few, state_limit)

    states_few : length (merge_in (view w) count).states ≤ limits.states
    states_few = omega (arith, merge_count (view w) count, ready.placed.few, state_limit)

    marked : merge_in v count ≡ mark_walked s (merge_in (view w) count)
    marked = ap (λ (r : Room). merge_in r count) marks ∙ walked_merge (view w) count s below (view_lengths w fits)

    falls : walks_left limits (merge_in v count) < walks_left limits (merge_in (view w) count)
    falls = rw marked (mark_walked_left limits s (merge_in (view w) count) (omega (arith, below, state_limit)) (was ∙ new))

    module _ (row : ℕ) (is : row ≡ origin_in v s) where
      row_is : origin_of (merge_in (view w) count) s ≡ row
      row_is = origin_at (view w) count s low ∙ sym (is ∙ ap (λ (r : Room). origin_in r s) marks)

      kept_successors : kept (has (row_of (table_of lanes (view w)) row).successors) lanes.states 0 ≡ successors_of (table_of lanes (view w)) (merge_in (view w) count) s
      unfolding successors_of row_of_origin
      kept_successors =
          kept_start (has (row_of (table_of lanes (view w)) row).successors) lanes.states
          ∙ rw (row_is, rows_length lanes (view w))

      whole : walk_rest bytes lanes s row v 0 (merge_in v count) ≡ walked limits (records bytes) (table_of lanes (view w)) s (merge_in (view w) count)
      unfolding walk_rest
      whole =
          rw (table_kept (view w) v (only_walk (view w) v s marks) lanes, marked, kept_successors)
          (sym (walk_goes limits (records bytes) (table_of lanes (view w)) s (merge_in (view w) count) rows_few (omega (arith, below, state_limit)) states_few (was ∙ new)))

      module _ (now : ℕ) (q : Room) (going : Going bytes lanes s row count now v q) (next : ℕ) (left : walk_rest bytes lanes s row v next (merge_in q now) ≡ walk_rest bytes lanes s row v 0 (merge_in v count)) where
        only_so_far : OnlyMerge (view w) q
        only_so_far = only_both (view w) v q (only_walk (view w) v s marks) going.only

        ended : lanes.states ≤ next → done (merge_in q now) ≡ walk_rest bytes lanes s row v 0 (merge_in v count)
        unfolding walk_rest
        ended over = turn_end _ _ lanes.states next (merge_in q now) _ left over

        pub walk_ends : lanes.states ≤ next → Walks bytes lanes s count (view w) (Ok now) q
        unfolding outcome_in
        walk_ends over = record { outcome = ended over ∙ whole; only = only_so_far; left = record { ready = going.ready; grown = going.grown } }

        module _ (d : Bool) (here : next < lanes.states) (succeeds : d ≡ has (successors_in q row) next) (hit : not d ≡ false) (x : Result Joined BuildRefusal) (u : Room) (joins : Joins bytes lanes s next now q x u) where
          pub walk_ends_joining : (why : BuildRefusal) → x ≡ Err why → Walks bytes lanes s count (view w) (Err why) u
          unfolding outcome_in
          walk_ends_joining why e = record {
            outcome = join_refused bytes lanes s row count now next v q d _ going here succeeds left hit x u joins why e ∙ whole;
            only = only_both (view w) q u only_so_far joins.only;
            left = tt;
          }

          module _ (j : Joined) (with : x ≡ Ok j) where
            pub joined_falls : (t : ℕ) → walks_left limits (merge_in (view w) count) ≡ t → walks_left limits (merge_in u j.states) < t
            joined_falls t is = omega (arith, falls, going.fewer, same_left bytes lanes s row count now next v q d _ going here succeeds left hit x u joins j with)

            pub walk_ends_walking : (y : Result ℕ BuildRefusal) (z : Room) → Walks bytes lanes j.state.0 j.states u y z → (why : BuildRefusal) → y ≡ Err why → Walks bytes lanes s count (view w) (Err why) z
            unfolding outcome_in
            walk_ends_walking y z walks why e = record {
              outcome = walk_refused bytes lanes s row count now next v q d _ going here succeeds left hit x u joins j with y z walks why e ∙ whole;
              only = only_both (view w) q z only_so_far (only_both q u z joins.only walks.only);
              left = tt;
            }
