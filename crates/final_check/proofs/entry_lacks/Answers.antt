-- `final_check::entry_lacks` meets its contract.
use borrow.Author.Rules.{rules}
use borrow.Author.Tests.{tests}
use Rattle.std.proofs.lemmas.Iterator.{serves_from_Range}
use Rattle.base.proofs.Chains.{any_over_range}
use Rattle.room.specs.Areas.{view}
use Rattle.lookahead.specs.Sets.{lacks_token}
use Rattle.least_steps.proofs.Moves.{recorded_fits}
use Rattle.final_check.proofs.Lacking.{none_asked, all_asked}
use Rattle.final_check.proofs.entry_lacks.Goals as goal

pub at_end-requires : goal.at_end-requires
at_end-requires c = search (rules, recorded_fits)

pub any-requires-clause-callable : goal.any-requires-clause-callable
any-requires-clause-callable c = serves_from_Range (λ x q k. search (rules, tests)) (λ x low high. search rules)

pub returns-then-at_end : goal.returns-then-at_end
returns-then-at_end c =
    let says = any_over_range (lacks_token c.entry_slot-own.result c.least_slot-least.result (view c.args.work.now)) _ _ _ _ c.any.ensures.ran (λ x q b k. search (rules, tests)) in
    search (rules, all_asked, says)

pub returns-else-at_end : goal.returns-else-at_end
returns-else-at_end c = search (rules, none_asked)
