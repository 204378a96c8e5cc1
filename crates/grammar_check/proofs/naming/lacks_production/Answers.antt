-- `grammar_check::naming::lacks_production` meets its contract.
use mathlib.Core.Bool.{not}
use mathlib.Core.Path.{ap, ◌∙◌}
use borrow.Author.Rules.{rules}
use borrow.Author.Tests.{tests}
use Rattle.base.proofs.Chains.{any_over_range}
use Rattle.grammar_check.proofs.Ways.{any_production}
use Rattle.rules.specs.Records.{records}
use Rattle.rules.specs.Grammar.{is_left_side_of}
use Rattle.grammar_check.specs.Tests.{lacks_production}
use Rattle.grammar_check.proofs.naming.lacks_production.Goals as goal

pub returns : goal.returns
unfolding lacks_production
returns c =
    let g = records c.args.g.now in
    ap not (any_over_range (is_left_side_of g c.args.a) _ _ _ _ c.any.ensures.ran (λ x q b k. search (rules, tests)) ∙ any_production g c.args.a _ c.record_count.ensures.0)
