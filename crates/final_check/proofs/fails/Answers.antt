-- `final_check::fails` meets its contract.
use borrow.Author.Rules.{rules}
use borrow.Author.Tests.{tests}
use Rattle.std.proofs.lemmas.Iterator.{serves_from_Range}
use Rattle.base.proofs.Chains.{any_over_range}
use Rattle.rules.specs.Records.{records}
use Rattle.room.specs.Areas.{view}
use Rattle.least_sets.proofs.Frames.{few_states}
use Rattle.final_check.specs.Fails.{lacks_in}
use Rattle.final_check.proofs.Lacking.{entries_placed, run_area, run_recorded, state_begins}
use Rattle.final_check.proofs.Failing.{fails_lacking, fails_conflict}
use mathlib.Core.Path.{◌∙◌}
use Rattle.final_check.proofs.fails.Goals as goal

pub first_entry-first-requires : goal.first_entry-first-requires
first_entry-first-requires c = search (rules, few_states)

pub end_entry-end-requires : goal.end_entry-end-requires
end_entry-end-requires c = search (rules, few_states)

pub any-requires-clause-callable : goal.any-requires-clause-callable
any-requires-clause-callable c =
    let run = entries_placed _ _ _ _ _ _ c.requires.1 c.requires.2 c.first_entry-first.ensures c.end_entry-end.ensures in
    serves_from_Range (λ x q k. search (rules, tests)) (λ x low high. search (rules, run_area _ _ _ _ _ run high, run_recorded _ _ _ _ _ run high low))

pub returns-then-any : goal.returns-then-any
returns-then-any c = fails_lacking _ _ _ _ c.requires.2 _ (any_over_range (lacks_in (records c.args.g.now) (view c.args.work.now)) _ _ _ _ c.any.ensures.ran (λ x q b k. search (rules, tests)) ∙ state_begins _ _ _ _ _ c.first_entry-first.ensures c.end_entry-end.ensures) c.if-any.true

pub returns-else-any : goal.returns-else-any
returns-else-any c = fails_conflict _ _ _ _ c.requires.2 _ (any_over_range (lacks_in (records c.args.g.now) (view c.args.work.now)) _ _ _ _ c.any.ensures.ran (λ x q b k. search (rules, tests)) ∙ state_begins _ _ _ _ _ c.first_entry-first.ensures c.end_entry-end.ensures) _ c.if-any.false c.has_conflict.ensures
