-- `grammar_check::naming::first_without` meets its contract.
use mathlib.Core.Path.{◌∙◌}
use native.Mathlib.Omega.{arith}
use borrow.Author.Rules.{rules}
use borrow.Author.Tests.{tests}
use Rattle.base.proofs.Chains.{first_over_range}
use Rattle.grammar_check.proofs.Ways.{first_of_all}
use Rattle.rules.specs.Records.{records}
use Rattle.rules.specs.Grammar.{first_without}
use Rattle.grammar_check.specs.Tests.{lacks_production}
use Rattle.grammar_check.proofs.naming.first_without.Goals as goal

pub returns : goal.returns
unfolding first_without lacks_production
returns c =
    first_over_range (lacks_production (records c.args.g.now)) _ _ _ _ c.find.ensures.ran (omega arith) (λ x q b k. search (rules, tests))
    ∙ first_of_all (lacks_production (records c.args.g.now)) _ _ c.nonterminal_count.ensures.0
