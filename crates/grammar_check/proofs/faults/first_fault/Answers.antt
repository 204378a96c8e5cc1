-- `grammar_check::faults::first_fault` meets its contract.
use mathlib.Core.Path.{◌∙◌}
use native.Mathlib.Omega.{arith}
use borrow.Author.Rules.{rules}
use borrow.Author.Tests.{tests}
use Rattle.base.proofs.Chains.{first_over_range}
use Rattle.grammar_check.proofs.Ways.{first_of_all}
use Rattle.rules.specs.Records.{records}
use Rattle.rules.specs.Grammar.{first_fault}
use Rattle.grammar.specs.Tests.{is_fault}
use Rattle.grammar_check.proofs.faults.first_fault.Goals as goal

pub returns : goal.returns
unfolding first_fault is_fault
returns c =
    first_over_range (is_fault (records c.args.g.now)) _ _ _ _ c.find.ensures.ran (omega arith) (λ x q b k. search (rules, tests))
    ∙ first_of_all (is_fault (records c.args.g.now)) _ _ c.record_count.ensures.0
