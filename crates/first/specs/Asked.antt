-- What the functions of FIRST ask of the numbers and the slot that they take.
use Rattle.std.specs.Prelude.{ℕ, ◌≤◌, ◌≡◌, List}
use Rattle.rules.specs.Limits.{max_nonterminals}
use Rattle.rules.specs.Records.{records}
use Rattle.rules.specs.Grammar.{terminal_count, nonterminal_count}
use Rattle.room.specs.Bounds.{FewTerminals}

-- n and m are the numbers of the grammar's terminals and nonterminals
pub record Counted (bytes : List ℕ) (n m : ℕ) : Type 0 where
  pub few_terminals : FewTerminals n
  pub terminals : n ≡ terminal_count (records bytes)
  pub few_nonterminals : m ≤ max_nonterminals
  pub nonterminals : m ≡ nonterminal_count (records bytes)

-- the slot is none of FIRST's
abbrev pub NotFirst : ℕ → Type 0
NotFirst slot = max_nonterminals ≤ slot
