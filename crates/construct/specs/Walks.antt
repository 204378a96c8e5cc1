-- What a walk promises.
use Rattle.std.specs.Prelude.{ℕ, ◌≡◌, List, Result, Ok, Err}
use Rattle.rules.specs.Limits.{limits}
use Rattle.rules.specs.Records.{records}
use Rattle.rules.specs.declared.BuildRefusal.{BuildRefusal}
use Rattle.rules.specs.States.{Outcome, done, refused}
use Rattle.rules.specs.Merge.{Merge}
use Rattle.room.specs.Areas.{Room}
use Rattle.lane.specs.declared.Lanes.{Lanes}
use Rattle.walks.specs.Whole.{walked}
use Rattle.groups.specs.MergeIn.{merge_in, table_of}
use Rattle.construct.specs.Merges.{OnlyMerge, Grown}

-- what the answer says of the room that it left
unfoldable pub outcome_in : Result ℕ BuildRefusal → Room → Outcome Merge
outcome_in (Ok count) q = done (merge_in q count)
outcome_in (Err why) q = refused why

abbrev pub WalkedTo : List ℕ → Lanes → ℕ → Result ℕ BuildRefusal → Room → Type 0
WalkedTo bytes lanes count (Ok more) q = Grown bytes lanes count more q
WalkedTo bytes lanes count (Err why) q = Unit {0}

-- the walk from s, of the room v with `count` states, gave r and the room q
pub record Walks (bytes : List ℕ) (lanes : Lanes) (s count : ℕ) (v : Room) (r : Result ℕ BuildRefusal) (q : Room) : Type 0 where
  pub outcome : outcome_in r q ≡ walked limits (records bytes) (table_of lanes v) s (merge_in v count)
  pub only : OnlyMerge v q
  pub left : WalkedTo bytes lanes count r q
