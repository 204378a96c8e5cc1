-- `final_check::first_failing` meets its contract.
use mathlib.Core.Path.{ap, ◌∙◌}
use borrow.Author.Rules.{rules}
use borrow.Author.Tests.{tests}
use Rattle.std.proofs.lemmas.Iterator.{serves_from_Range}
use Rattle.base.specs.Loops.{place_below}
use Rattle.base.proofs.Turns.{first_start_lem}
use Rattle.base.proofs.Chains.{first_over_range}
use Rattle.final_check.specs.Fails.{fails_in}
use Rattle.final_check.proofs.Failing.{named}
use Rattle.final_check.proofs.first_failing.Goals as goal

pub find-requires-clause-callable : goal.find-requires-clause-callable
find-requires-clause-callable c = serves_from_Range (λ x q k. search (rules, tests)) (λ x low high. search rules)

pub returns : goal.returns
returns c = named _ _ _ _ (first_over_range (fails_in c.args.g.now c.args.count c.args.work.now) _ _ _ _ c.find.ensures.ran (search rules) (λ x q b k. search (rules, tests)) ∙ ap (place_below c.args.count) (first_start_lem (fails_in c.args.g.now c.args.count c.args.work.now) c.args.count)) c.map.ensures.cases
