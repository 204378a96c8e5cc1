-- The limits, as a record that the definitions take, and document 01's values.
use Rattle.std.specs.Prelude.{ℕ}

pub record Limits : Type 0 where
  pub terminals : ℕ
  pub nonterminals : ℕ
  pub productions : ℕ
  -- symbols on a right side
  pub symbols : ℕ
  -- bytes of a coded grammar
  pub bytes : ℕ
  pub states : ℕ
  -- closed items of all states together, an item with its set counting once
  pub items : ℕ
  -- actions traced at one state
  pub actions : ℕ
  -- numbers of the work room that the builder takes
  pub work : ℕ

-- ---- document 01's values, by name
abbrev pub max_terminals : ℕ
max_terminals = 62

abbrev pub max_nonterminals : ℕ
max_nonterminals = 64

abbrev pub max_productions : ℕ
max_productions = 128

abbrev pub max_symbols : ℕ
max_symbols = 16

abbrev pub max_bytes : ℕ
max_bytes = 4096

abbrev pub max_states : ℕ
max_states = 128

-- a closed item is an entry of its state
abbrev pub max_entries : ℕ
max_entries = 2048

-- an action has its column of the lane table
abbrev pub max_columns : ℕ
max_columns = 16

abbrev pub work_size : ℕ
work_size = 8192

unfoldable pub limits : Limits
limits = record {
  terminals = max_terminals;
  nonterminals = max_nonterminals;
  productions = max_productions;
  symbols = max_symbols;
  bytes = max_bytes;
  states = max_states;
  items = max_entries;
  actions = max_columns;
  work = work_size;
}
