-- What the builder gives of the states in the room, once they are built.
use Rattle.std.specs.Prelude.{ℕ, ◌≡◌, List, Result}
use Rattle.rules.specs.Records.{records}
use Rattle.rules.specs.States.{done}
use Rattle.rules.specs.Build.{BuildResult, result_of}
use Rattle.rules.specs.declared.BuildRefusal.{BuildRefusal}
use Rattle.rules.specs.declared.TableSize.{TableSize}
use Rattle.room.specs.Areas.{view}
use Rattle.states.specs.StatesIn.{states_in}

-- an answer with what is in the rooms
abbrev pub gave_in : Result TableSize BuildRefusal → List ℕ → List ℕ → BuildResult
gave_in answer table work = record { answer = answer; table = table; work = work }

-- answer and table room are as `rules` has them for those states, whatever is left in the work room
pub record TableGiven (bytes work : List ℕ) (count : ℕ) (table after : List ℕ) (answer : Result TableSize BuildRefusal) : Type 0 where
  pub given : (left : List ℕ) → gave_in answer after left ≡ result_of (records bytes) (done (states_in (view work) count)) table left
