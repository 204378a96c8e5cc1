-- `grammar_numbers::productions::count_behind` meets its contract.
use Prim.Native.Nat.{◌+◌, ◌-◌}
use mathlib.Core.Bool.{not}
use mathlib.Core.Path.{refl, ◌∙◌}
use native.Mathlib.Omega.{arith}
use borrow.Author.Rules.{rules}
use borrow.Author.Tests.{tests}
use Rattle.std.specs.List.{range_with_len}
use Rattle.std.proofs.lemmas.Iterator.{YieldsList-from_range}
use Rattle.std.proofs.lemmas.Iterator.Consumers.{YieldsList-at, count_from_yields_List}
use Rattle.std.proofs.lemmas.Iterator.Search.{YieldsList-from_take_while}
use Rattle.std.proofs.lemmas.List.Folds.{length-prefix_len}
use Rattle.rules.specs.Records.{records}
use Rattle.rules.specs.Grammar.{at_start}
use Rattle.grammar_numbers.proofs.Halving.{behind_counted}
use Rattle.grammar_numbers.proofs.productions.count_behind.Goals as goal

pub returns : goal.returns
returns c =
    let g = records c.args.g.now in
    let n = c.record_count-n.result in
    let i = c.args.i in
    let range = YieldsList-at c.take_while.ensures.source (YieldsList-from_range (i + 1) n (n - (i + 1)) refl (omega arith)) in
    behind_counted g n i _ c.record_count-n.ensures.0 c.requires
    (count_from_yields_List _ _ c.count.ensures.ran
    (YieldsList-from_take_while _ (λ j. not (at_start g j)) range c.take_while.ensures.closure c.take_while.ensures.done (λ x b q k. search (rules, tests)))
    ∙ length-prefix_len (λ j. not (at_start g j)) (range_with_len (i + 1) (n - (i + 1))))
