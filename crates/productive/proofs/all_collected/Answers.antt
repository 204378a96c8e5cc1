-- `productive::all_collected` meets its contract.
use mathlib.Core.Bool.{not}
use mathlib.Core.Path.{◌∙◌, refl, sym}
use borrow.Author.Rules.{rules}
use borrow.Author.Tests.{tests, not-true, not-false}
use Rattle.base.specs.Lists.{each_of}
use Rattle.base.proofs.Chains.{all_by_turns}
use Rattle.base.proofs.ListLoops.{kept, kept_each_end}
use Rattle.rules.specs.Records.{records}
use Rattle.rules.specs.Grammar.{at_start}
use Rattle.productive.specs.Tests.{is_collected, uncollected}
use Rattle.productive.proofs.Laws.{collected_start, collected_turn, collected_fails}
use Rattle.productive.proofs.all_collected.Goals as goal

pub returns : goal.returns
returns c =
    let g = records c.args.g.now in
    let found = c.args.found in
    let n = c.record_count.result in
    all_by_turns _ _ _ _ (λ i. not (uncollected g found i)) (λ i. each_of (is_collected g found) (kept (at_start g) n i)) c.all.ensures.ran (λ x q b k. search (rules, tests))
    (λ i h e. sym (collected_fails g n found i _ _ h refl refl (not-false _ e)))
    (λ i h e. sym (collected_turn g n found i _ _ h refl refl (not-true _ e)))
    (λ i h. sym (kept_each_end (at_start g) (is_collected g found) n i _ h refl))
    ∙ collected_start g n found c.record_count.ensures.0
