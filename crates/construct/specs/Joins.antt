-- What joining a successor promises.
use Rattle.std.specs.Prelude.{ℕ, ◌≤◌, ◌<◌, ◌≡◌, Bool, ◌&&◌, not, false, List, eqb, Option, Some, None, Result, Ok, Err}
use Rattle.base.specs.Pick.{pick}
use Rattle.rules.specs.Limits.{limits}
use Rattle.rules.specs.Records.{records}
use Rattle.rules.specs.declared.BuildRefusal.{BuildRefusal}
use Rattle.rules.specs.declared.StateIndex.{StateIndex}
use Rattle.rules.specs.States.{Outcome, done, refused}
use Rattle.rules.specs.Lanes.{LaneTable}
use Rattle.rules.specs.Merge.{Merge, Joining, origin_of, can_join, join_new, with_new, join_successor}
use Rattle.room.specs.Areas.{Room}
use Rattle.lane.specs.declared.Lanes.{Lanes}
use Rattle.groups.specs.MergeIn.{merge_in, table_of}
use Rattle.construct.specs.Merges.{OnlyMerge, Grown}
use Rattle.construct.specs.declared.Joined.{Joined}

-- c is a clone of the successor, and joins with s
unfoldable pub joins_as_clone : LaneTable → Merge → ℕ → ℕ → ℕ → Bool
joins_as_clone table m s successor c = pick (eqb (origin_of m c) successor && not (eqb c successor)) (can_join table m s c) false

-- the answer is state c if that is one of `count` states
abbrev pub FirstClone : ℕ → ℕ → Option StateIndex → Type 0
FirstClone c count (Some state) = (state.0 ≡ c) × (c < count)
FirstClone c count None = count ≤ c

-- what the answer says of the room that it left
unfoldable pub joining_in : Result Joined BuildRefusal → Room → Outcome Joining
joining_in (Ok joined) q = done (record { merge = merge_in q joined.states; state = joined.state.0 })
joining_in (Err why) q = refused why

abbrev pub JoinedTo : List ℕ → Lanes → ℕ → Result Joined BuildRefusal → Room → Type 0
JoinedTo bytes lanes count (Ok joined) q = Grown bytes lanes count joined.states q × (joined.state.0 < joined.states)
JoinedTo bytes lanes count (Err why) q = Unit {0}

-- joining a state, of the room v with `count` states, gave r and the room q, as `after` says
pub record JoinsBy (bytes : List ℕ) (lanes : Lanes) (after : Outcome Joining) (count : ℕ) (v : Room) (r : Result Joined BuildRefusal) (q : Room) : Type 0 where
  pub outcome : joining_in r q ≡ after
  pub only : OnlyMerge v q
  pub left : JoinedTo bytes lanes count r q

abbrev pub Joins : List ℕ → Lanes → ℕ → ℕ → ℕ → Room → Result Joined BuildRefusal → Room → Type 0
Joins bytes lanes s successor count v r q = JoinsBy bytes lanes (join_successor limits (records bytes) (table_of lanes v) s successor (merge_in v count)) count v r q

-- a new clone of the successor is joined
abbrev pub JoinsNew : List ℕ → Lanes → ℕ → ℕ → ℕ → Room → Result Joined BuildRefusal → Room → Type 0
JoinsNew bytes lanes s successor count v r q =
    JoinsBy bytes lanes (with_new count (join_new limits (records bytes) (table_of lanes v) s successor (merge_in v count))) count v r q
