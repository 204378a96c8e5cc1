-- `productive::side_derives` meets its contract.
use Prim.Native.Nat.{◌+◌, ◌-◌}
use mathlib.Core.Bool.{not}
use mathlib.Core.Path.{refl, ◌∙◌}
use native.Mathlib.Omega.{arith}
use borrow.Author.Rules.{rules}
use borrow.Author.Tests.{tests}
use Rattle.std.proofs.lemmas.Iterator.{YieldsList-from_range}
use Rattle.std.proofs.lemmas.Iterator.Consumers.{YieldsList-at}
use Rattle.std.proofs.lemmas.Iterator.Search.{YieldsList-from_take_while, all_from_yields_List}
use Rattle.rules.proofs.Laws.{length_records}
use Rattle.rules.specs.Records.{records, at}
use Rattle.rules.specs.Grammar.{at_start, symbol_of, symbol_derives}
use Rattle.productive.proofs.Laws.{side_lem}
use Rattle.productive.proofs.side_derives.Goals as goal

pub returns : goal.returns
returns c =
    let g = records c.args.g.now in
    let n = c.record_count.result in
    let i = c.args.i in
    let range = YieldsList-at c.take_while.ensures.source (YieldsList-from_range (i + 1) n (n - (i + 1)) refl (omega arith)) in
    all_from_yields_List (λ j. symbol_derives c.args.found (symbol_of (at g j))) _ _ _ c.all.ensures.ran
    (YieldsList-from_take_while _ (λ j. not (at_start g j)) range c.take_while.ensures.closure c.take_while.ensures.done (λ x b q k. search (rules, tests)))
    (λ x b q k. search (rules, tests))
    ∙ side_lem g c.args.found n i c.record_count.ensures.0 (omega (arith, length_records c.args.g.now))
