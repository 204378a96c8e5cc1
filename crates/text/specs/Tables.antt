-- What the text of a table asks of the table's room.
use Rattle.std.specs.Prelude.{ℕ, ◌*◌, ◌≤◌, ◌≡◌, List, length, Result, Ok}
use Rattle.rules.specs.declared.BuildRefusal.{BuildRefusal}
use Rattle.rules.specs.declared.TableSize.{TableSize}

-- if the answer is a built table, its records lie within the room
abbrev pub RecordsWithin : Result TableSize BuildRefusal → List ℕ → Type 0
RecordsWithin answer table = (size : TableSize) → answer ≡ Ok size → 8 * size.records ≤ length table
