-- The walks from the beachheads, one after the other, as long as none refuses.
use Prim.Native.Nat.{ℕ, ◌+◌, ◌<◌, ◌≤◌}
use mathlib.Core.Path.{◌≡◌, sym, ap, subst, ◌∙◌}
use mathlib.Core.Bool.{Bool, true, false, not}
use mathlib.Core.List.{List}
use native.Mathlib.Omega.{arith}
use borrow.Author.Tests.{not-true, not-false}
use Rattle.base.proofs.ListLoops.{kept, kept_start}
use Rattle.rules.specs.Limits.{limits}
use Rattle.rules.specs.Records.{records}
use Rattle.std.specs.Prelude.{Result, Ok, Err}
use Rattle.rules.specs.States.{Outcome, done, refused}
use Rattle.rules.specs.Lanes.{beachheads}
use Rattle.rules.specs.Merge.{Merge, walk}
use Rattle.rules.specs.declared.BuildRefusal.{BuildRefusal}
use Rattle.room.specs.Areas.{Room}
use Rattle.lane_table.specs.Beachheads.{is_beachhead}
use Rattle.lane.specs.declared.Lanes.{Lanes}
use Rattle.walks.proofs.Turns.{turn_passed, turn_done, turn_refused, turn_end}
use Rattle.walks.proofs.Whole.{merge_rows_walk}
use Rattle.groups.specs.MergeIn.{merge_in, table_of}
use Rattle.construct.specs.Merges.{OnlyMerge, Mergeable, Grown}
use Rattle.construct.specs.Walks.{outcome_in, WalkedTo, Walks}
use Rattle.construct.proofs.Frames.{only_both, table_kept, rows_length}
use Rattle.merging.specs.Visits.{walk_each, WalksAll}

-- the outcome of the walks from the beachheads from state `next` on
unfoldable pub walks_rest : List ℕ → Lanes → Room → ℕ → Merge → Outcome Merge
walks_rest bytes lanes v next m = walk_each bytes (table_of lanes v) (kept (is_beachhead (table_of lanes v)) lanes.states next) m

-- ---- a turn: v is the room in which the walks began, and q the one at hand
module _ (bytes : List ℕ) (lanes : Lanes) (count next : ℕ) (v q : Room) (b : Bool) (t : Outcome Merge) (only : OnlyMerge v q) (left : walks_rest bytes lanes v next (merge_in q count) ≡ t)
    (here : next < lanes.states) (tested : b ≡ is_beachhead (table_of lanes q) next) where
  test_is : is_beachhead (table_of lanes v) next ≡ b
  test_is = ap (λ table. is_beachhead table next) (sym (table_kept v q only lanes)) ∙ sym tested

  pub beach_passed : not b ≡ true → walks_rest bytes lanes v (next + 1) (merge_in q count) ≡ t
  unfolding walks_rest walk_each
  beach_passed e = turn_passed _ _ lanes.states next (merge_in q count) t left here (test_is ∙ not-true b e)

  module _ (hit : not b ≡ false) (y : Result ℕ BuildRefusal) (z : Room) (walks : Walks bytes lanes next count q y z) where
    step_is : walk limits (records bytes) (table_of lanes v) (limits.states + 1) next (merge_in q count) ≡ outcome_in y z
    step_is =
        ap (λ table. walk limits (records bytes) table (limits.states + 1) next (merge_in q count)) (sym (table_kept v q only lanes))
        ∙ merge_rows_walk limits (records bytes) (table_of lanes q) next (merge_in q count) ∙ sym walks.outcome

    refused_is : (why : BuildRefusal) → y ≡ Err why → outcome_in y z ≡ refused why
    unfolding outcome_in
    refused_is why e = ap (λ (o : Result ℕ BuildRefusal). outcome_in o z) e

    beach_refused : (why : BuildRefusal) → y ≡ Err why → refused why ≡ t
    unfolding walks_rest walk_each
    beach_refused why e = turn_refused _ _ lanes.states next (merge_in q count) t left here (test_is ∙ not-false b hit) why (step_is ∙ refused_is why e)

    module _ (many : ℕ) (ends : y ≡ Ok many) where
      done_is : outcome_in y z ≡ done (merge_in z many)
      unfolding outcome_in
      done_is = ap (λ (o : Result ℕ BuildRefusal). outcome_in o z) ends

      pub beach_done : walks_rest bytes lanes v (next + 1) (merge_in z many) ≡ t
      unfolding walks_rest walk_each
      beach_done = turn_done _ _ lanes.states next (merge_in q count) t left here (test_is ∙ not-false b hit) (merge_in z many) (step_is ∙ done_is)

-- what a walk leaves
module _ (bytes : List ℕ) (lanes : Lanes) (s count : ℕ) (q : Room) (y : Result ℕ BuildRefusal) (z : Room) (walks : Walks bytes lanes s count q y z) (many : ℕ) (ends : y ≡ Ok many) where
  walked_to : Grown bytes lanes count many z
  walked_to = subst (λ (o : Result ℕ BuildRefusal). WalkedTo bytes lanes count o z) ends walks.left

  pub walked_ready : Mergeable bytes lanes many z
  walked_ready = walked_to.ready

  pub walked_more : (n : ℕ) → n ≤ count → n ≤ many
  walked_more n h = omega (arith, walked_to.grown)

-- ---- the whole
module _ (bytes : List ℕ) (lanes : Lanes) (v : Room) where
  walks_whole : walks_rest bytes lanes v 0 (merge_in v lanes.states) ≡ walk_each bytes (table_of lanes v) (beachheads (table_of lanes v)) (merge_in v lanes.states)
  unfolding walks_rest beachheads is_beachhead
  walks_whole = rw (kept_start (is_beachhead (table_of lanes v)) lanes.states, rows_length lanes v)

  module _ (count next : ℕ) (q : Room) (only : OnlyMerge v q) (left : walks_rest bytes lanes v next (merge_in q count) ≡ walks_rest bytes lanes v 0 (merge_in v lanes.states)) where
    ended : lanes.states ≤ next → done (merge_in q count) ≡ walks_rest bytes lanes v 0 (merge_in v lanes.states)
    unfolding walks_rest walk_each
    ended over = turn_end _ _ lanes.states next (merge_in q count) _ left over

    pub beaches_end : lanes.states ≤ next → Mergeable bytes lanes count q → lanes.states ≤ count → WalksAll bytes lanes v (Ok count) q
    unfolding outcome_in
    beaches_end over ready grown = record { outcome = ended over ∙ walks_whole; only = only; left = record { ready = ready; grown = grown } }

    pub beaches_refused : (b : Bool) → next < lanes.states → b ≡ is_beachhead (table_of lanes q) next → not b ≡ false → (y : Result ℕ BuildRefusal) (z : Room) → Walks bytes lanes next count q y z → (why : BuildRefusal) → y ≡ Err why
        → WalksAll bytes lanes v (Err why) z
    unfolding outcome_in
    beaches_refused b here tested hit y z walks why e = record {
      outcome = beach_refused bytes lanes count next v q b _ only left here tested hit y z walks why e ∙ walks_whole;
      only = only_both v q z only walks.only;
      left = tt;
    }
