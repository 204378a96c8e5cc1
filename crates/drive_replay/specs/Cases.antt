-- How a list of cases lies in bytes.
use Rattle.std.specs.Prelude.{ℕ, ◌+◌, ◌≤◌, List, length}

-- one more than the highest number of four bytes
abbrev pub four_bytes : ℕ
four_bytes = 4294967296

-- the most cells that a case lends for its stack or list
abbrev pub max_room : ℕ
max_room = 1024

-- that many bytes stand from byte i on
abbrev pub Within : ℕ → ℕ → List ℕ → Type 0
Within i count cases = i + count ≤ length cases

-- the fifteen numbers of a case stand from byte `at` on
abbrev pub IsCase : ℕ → List ℕ → Type 0
IsCase at cases = Within at 60 cases
