-- A walk with the fuel that `merge_rows` gives it: a call more than there can be states. It is its own step over again (proofs/Whole.antt):
-- so a function that calls itself without fuel is compared with it step by step.
use Rattle.std.specs.Prelude.{ℕ, suc, ◌-◌}
use Rattle.rules.specs.Limits.{Limits}
use Rattle.rules.specs.Records.{Grammar}
use Rattle.rules.specs.States.{Outcome, done, refused}
use Rattle.rules.specs.Lanes.{LaneTable}
use Rattle.rules.specs.Merge.{Merge, Joining, join_successor, walk}
use Rattle.sets.specs.Size.{size}

-- how many of the states that there can be are not walked yet
unfoldable pub walks_left : Limits → Merge → ℕ
walks_left l m = l.states - size l.states m.walked

module _ (l : Limits) (g : Grammar) (table : LaneTable) where
  unfoldable pub walked : ℕ → Merge → Outcome Merge
  unfolding walk
  walked s m = walk l g table (suc l.states) s m

  -- on from the state in a successor's place
  unfoldable pub gone_on : Outcome Joining → Outcome Merge
  unfolding walked
  gone_on (done j) = walked j.state j.merge
  gone_on (refused why) = refused why

  -- what a walk does at a successor of s
  unfoldable pub over_successor : ℕ → ℕ → Merge → Outcome Merge
  unfolding gone_on join_successor
  over_successor s successor m = gone_on (join_successor l g table s successor m)
