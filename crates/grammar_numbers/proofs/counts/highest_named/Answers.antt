use borrow.Author.Rules.{rules}
use Rattle.base.proofs.ListLoops.{greatest_start, greatest_end}
use Rattle.grammar_numbers.specs.Tests.{highest_named}
use Rattle.grammar_numbers.proofs.Named.{named_turn}
use Rattle.grammar_numbers.proofs.counts.highest_named.Goals as goal

pub loop-i-init : goal.loop-i-init
unfolding highest_named
loop-i-init c = search (rules, greatest_start)

pub loop-i-preserved : goal.loop-i-preserved
loop-i-preserved c = search (rules, named_turn)

pub returns : goal.returns
returns c = search (rules, greatest_end)
