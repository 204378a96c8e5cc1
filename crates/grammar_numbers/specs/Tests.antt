-- What the helpers of this crate answer, in the words of `rules`.
use Rattle.std.specs.Prelude.{ℕ, Bool, true, false, map}
use Rattle.base.specs.Lists.{greatest}
use Rattle.rules.specs.Records.{Grammar}
use Rattle.grammar.specs.Tests.{count_named}
use Rattle.grammar_numbers.specs.declared.counts.Kind.{Kind}
use Rattle.grammar_numbers.specs.declared.counts.Kind.TheVariants.{Terminal, Nonterminal}

-- the kind is that of terminals
abbrev pub is_of_terminals : Kind → Bool
is_of_terminals Terminal = true
is_of_terminals Nonterminal = false

-- one more than the highest symbol named of a kind: terminals if the test says so, else nonterminals
unfoldable pub highest_named : Bool → Grammar → ℕ
unfolding greatest count_named
highest_named terminals g = greatest (map (count_named terminals) g)
