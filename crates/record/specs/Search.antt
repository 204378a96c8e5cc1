-- What the search of a table's records asks of them, and what it finds.
use Rattle.std.specs.Prelude.{ℕ, ◌-◌, ◌*◌, ◌≤◌, ◌<◌, ◌≡◌, Bool, true, not, List, length}
use Rattle.base.specs.Loops.{first_from}
use Rattle.rules.specs.Table.{TableRecord, table_record, table_records, is_for}
use Rattle.rules.specs.Drive.{table_at, ascends}

-- the first n records ascend by state, kind, symbol
pub record Ascending (rs : List TableRecord) (n : ℕ) : Type 0 where
  pub next : (i : ℕ) → 0 < i → i < n → ascends (table_at rs (i - 1)) (table_at rs i) ≡ true

-- the first n records of the bytes are there, and ascend
abbrev pub Searchable : ℕ → List ℕ → Type 0
Searchable n bytes = (8 * n ≤ length bytes) × Ascending (table_records bytes) n

-- all of them do
abbrev pub Ascends : List ℕ → Type 0
Ascends bytes = Ascending (table_records bytes) (length (table_records bytes))

-- record i does not come before a record of the state, kind and symbol
unfoldable pub reaches : List TableRecord → ℕ → ℕ → ℕ → ℕ → Bool
unfolding ascends table_at table_record
reaches rs s kind symbol i = not (ascends (table_at rs i) (table_record s kind symbol 0))

-- record i is for the state, kind and symbol
unfoldable pub is_at : List TableRecord → ℕ → ℕ → ℕ → ℕ → Bool
unfolding is_for table_at
is_at rs s kind symbol i = is_for s kind symbol (table_at rs i)

-- the first of n records, or n if there is none
unfoldable pub first_reaching : List TableRecord → ℕ → ℕ → ℕ → ℕ → ℕ
unfolding first_from reaches
first_reaching rs n s kind symbol = first_from (reaches rs s kind symbol) n 0

unfoldable pub first_for : List TableRecord → ℕ → ℕ → ℕ → ℕ → ℕ
unfolding first_from is_at
first_for rs n s kind symbol = first_from (is_at rs s kind symbol) n 0
