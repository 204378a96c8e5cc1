-- `grammar_check::naming::first_start` meets its contract.
use mathlib.Core.Path.{◌∙◌}
use native.Mathlib.Omega.{arith}
use borrow.Author.Rules.{rules}
use borrow.Author.Tests.{tests}
use Rattle.base.proofs.Chains.{first_over_range}
use Rattle.grammar_check.proofs.Ways.{first_of_all}
use Rattle.rules.specs.Records.{records}
use Rattle.rules.specs.Grammar.{names_start, first_start}
use Rattle.grammar_check.proofs.naming.first_start.Goals as goal

pub returns : goal.returns
unfolding first_start
returns c =
    first_over_range (names_start (records c.args.g.now)) _ _ _ _ c.find.ensures.ran (omega arith) (λ x q b k. search (rules, tests))
    ∙ first_of_all (names_start (records c.args.g.now)) _ _ c.record_count.ensures.0
