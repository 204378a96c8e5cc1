-- The number of a kind of symbols, as in a grammar's bytes: 0 nonterminal and 1 terminal.
use Rattle.std.specs.Prelude.{ℕ}
use Rattle.table_counts.specs.declared.transitions.Side.{Side}
use Rattle.table_counts.specs.declared.transitions.Side.TheVariants.{Nonterminals, Terminals}

abbrev pub side_number : Side → ℕ
side_number Nonterminals = 0
side_number Terminals = 1
