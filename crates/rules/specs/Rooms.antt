-- What a call leaves in the rooms that it was lent.
use Rattle.std.specs.Prelude.{ℕ, List, ◌++◌, length, drop}
use Rattle.base.specs.Fill.{zeros}
use Rattle.rules.specs.Limits.{Limits}

-- the work room after every answer but 1 and 2: the numbers that the builder takes are zero, the rest untouched
unfoldable pub cleared : Limits → List ℕ → List ℕ
unfolding zeros
cleared l work = zeros l.work ++ drop l.work work

-- bytes written at the front of a room; those past them keep theirs
unfoldable pub overwritten : List ℕ → List ℕ → List ℕ
overwritten bytes room = bytes ++ drop (length bytes) room
