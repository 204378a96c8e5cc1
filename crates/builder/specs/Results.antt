-- What the builder gives of its answer and the table room, whatever is left in the work room.
use Rattle.std.specs.Prelude.{ℕ, ◌≡◌, List, Result}
use Rattle.rules.specs.Build.{BuildResult}
use Rattle.rules.specs.declared.BuildRefusal.{BuildRefusal}
use Rattle.rules.specs.declared.TableSize.{TableSize}
use Rattle.table_records.specs.Result.{gave_in}

-- the answer and the table room are those of the result
abbrev pub Gives : (List ℕ → BuildResult) → Result TableSize BuildRefusal → List ℕ → Type 0
Gives result answer table = (left : List ℕ) → gave_in answer table left ≡ result left
