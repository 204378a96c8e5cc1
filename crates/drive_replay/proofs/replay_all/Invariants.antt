-- Nothing has to hold from turn to turn: the measure is what is left of the list.
use Rattle.std.proofs.Common.{length, ◌-◌}
use Rattle.drive_replay.proofs.replay_all.Given as goal

abbrev pub invariant-loop-at : goal.invariant-loop-at
invariant-loop-at g l = Unit {0}

abbrev pub decreases-loop-at : goal.decreases-loop-at
decreases-loop-at g l = length l.cases - l.at
