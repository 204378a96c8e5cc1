-- What is read stays within the room, whose length stays; the measure is what is left of it.
use Rattle.std.proofs.Common.{length, ◌-◌, ◌≡◌, ◌≤◌}
use Rattle.input.proofs.files.fill.Given as goal

abbrev pub invariant-loop-size : goal.invariant-loop-size
invariant-loop-size g l = (l.size ≤ length l.room) × (length l.room ≡ length l.initial.room)

abbrev pub decreases-loop-size : goal.decreases-loop-size
decreases-loop-size g l = length l.initial.room - l.size
