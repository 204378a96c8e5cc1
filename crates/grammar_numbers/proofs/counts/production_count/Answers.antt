-- `grammar_numbers::counts::production_count` meets its contract.
use mathlib.Core.Path.{refl}
use native.Mathlib.Omega.{arith}
use borrow.Author.Rules.{rules}
use borrow.Author.Tests.{tests}
use Rattle.std.proofs.lemmas.Iterator.{YieldsList-from_range}
use Rattle.std.proofs.lemmas.Iterator.Consumers.{YieldsList-from_filter, YieldsList-at, count_from_yields_List}
use Rattle.rules.specs.Records.{records}
use Rattle.rules.specs.Grammar.{at_start}
use Rattle.grammar_numbers.proofs.Named.{productions_counted}
use Rattle.grammar_numbers.proofs.counts.production_count.Goals as goal

pub returns : goal.returns
returns c =
    let g = records c.args.g.now in
    let n = c.record_count-n.result in
    productions_counted g n _ c.record_count-n.ensures.0
    (count_from_yields_List _ _ c.count.ensures.ran
    (YieldsList-from_filter _ (at_start g) (YieldsList-at c.filter.ensures.source (YieldsList-from_range 0 n n refl (omega arith))) c.filter.ensures.closure (λ x b q k. search (rules, tests))))
