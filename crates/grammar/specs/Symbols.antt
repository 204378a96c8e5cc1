-- The symbol that the code names by its kind and its number.
use Rattle.std.specs.Prelude.{ℕ}
use Rattle.rules.specs.Grammar.{Symbol, nonterminal, terminal}
use Rattle.grammar.specs.declared.symbols.Symbol.{Symbol as Named}
use Rattle.grammar.specs.declared.symbols.Symbol.TheVariants.{Nonterminal, Terminal}

abbrev pub symbol_named : Named → Symbol
symbol_named (Nonterminal x) = nonterminal x
symbol_named (Terminal x) = terminal x

abbrev pub number_named : Named → ℕ
number_named (Nonterminal x) = x
number_named (Terminal x) = x
