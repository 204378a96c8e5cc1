-- `productive::first_barren` meets its contract.
use Prim.Native.Nat.{◌<◌}
use mathlib.Core.Path.{◌∙◌}
use native.Mathlib.Omega.{arith}
use borrow.Author.Rules.{rules}
use borrow.Author.Tests.{tests}
use Rattle.std.proofs.lemmas.Iterator.{serves_from_Range}
use Rattle.base.proofs.Chains.{first_over_range}
use Rattle.grammar.proofs.Coded.{nonterminal_within}
use Rattle.rules.specs.Limits.{max_nonterminals}
use Rattle.rules.specs.Records.{records}
use Rattle.productive.specs.Tests.{is_barren}
use Rattle.productive.proofs.Laws.{barren_lem}
use Rattle.productive.proofs.first_barren.Goals as goal

pub find-requires-clause-callable : goal.find-requires-clause-callable
find-requires-clause-callable c = serves_from_Range (λ x q k. search (rules, tests)) (λ x low high.
    let below : x < max_nonterminals = nonterminal_within (records c.args.g.now) c.nonterminal_count.result x c.requires c.nonterminal_count.ensures.0 high in
    search (rules, tests))

pub returns : goal.returns
returns c =
    let found = c.productive-found.result in
    first_over_range (is_barren found) _ _ _ _ c.find.ensures.ran (omega arith) (λ x q b k. search (rules, tests))
    ∙ barren_lem (records c.args.g.now) c.nonterminal_count.result found c.nonterminal_count.ensures.0 c.productive-found.ensures
