-- What the functions over the bytes of a grammar ask of them, and the bounds of the numbers that they read. Each name stands for its
-- expression everywhere.
use Rattle.std.specs.Prelude.{ℕ, ◌+◌, ◌*◌, ◌≤◌, ◌<◌, ◌≡◌, List, length}
use Rattle.rules.specs.Limits.{limits}
use Rattle.rules.specs.Records.{Grammar, records}
use Rattle.rules.specs.Grammar.{first_fault}

-- record i lies within the bytes
abbrev pub InRange : ℕ → List ℕ → Type 0
InRange i bytes = 8 * i + 8 ≤ length bytes

-- the bytes have n whole records, and fewer than eight bytes behind them
abbrev pub WholeRecords : ℕ → List ℕ → Type 0
WholeRecords n bytes = (8 * n ≤ length bytes) × (length bytes < 8 * n + 8)

-- no record meets refusal 4 or 5; of bytes, none of theirs does
abbrev pub NoFault : Grammar → Type 0
NoFault g = first_fault limits g ≡ length g

abbrev pub Faultless : List ℕ → Type 0
Faultless bytes = NoFault (records bytes)

-- the highest number of two bytes
abbrev pub max_number : ℕ
max_number = 65535
