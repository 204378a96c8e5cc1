-- Three numbers in one number of the room. An entry is its item and its next state; a state's parent is the state, the number and the kind
-- of the symbol that lead to it.
use Rattle.std.specs.Prelude.{ℕ, ◌+◌, ◌*◌, ◌/◌, ◌%◌, ◌<◌}
use Rattle.rules.specs.declared.StateIndex.{StateIndex}

-- a number that can be one of the three
abbrev pub IsPart : ℕ → Type 0
IsPart part = part < 65536

unfoldable pub packed : ℕ → ℕ → ℕ → ℕ
packed low middle high = low + 65536 * middle + 4294967296 * high

unfoldable pub low : ℕ → ℕ
low v = v % 65536

unfoldable pub middle : ℕ → ℕ
middle v = v / 65536 % 65536

unfoldable pub high : ℕ → ℕ
high v = v / 4294967296

-- an entry has nothing in the third place
abbrev pub entry_of : ℕ → StateIndex → ℕ
entry_of item next = packed item next.0 0

abbrev pub parent_of : StateIndex → ℕ → ℕ → ℕ
parent_of state symbol kind = packed state.0 symbol kind
