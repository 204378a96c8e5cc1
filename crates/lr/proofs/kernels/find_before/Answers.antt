-- `lr::kernels::find_before` meets its contract.
use borrow.Author.Rules.{rules}
use borrow.Author.Tests.{tests}
use Rattle.std.proofs.lemmas.Iterator.{serves_from_Range}
use Rattle.base.proofs.Chains.{first_over_range}
use Rattle.rules.specs.Records.{records}
use Rattle.room.specs.Areas.{view}
use Rattle.grammar.specs.Symbols.{symbol_named}
use Rattle.lr.specs.Kernels.{stands_before, first_before}
use Rattle.lr.proofs.Walks.{entry_ready}
use Rattle.lr.proofs.kernels.find_before.Goals as goal

pub find-requires-clause-callable : goal.find-requires-clause-callable
find-requires-clause-callable c = serves_from_Range (λ x q k. search (rules, tests)) (λ x low high y is. let h = rw (← is) at low in let l = rw (← is) at high in let r = entry_ready _ _ _ _ y.now c.requires.0 c.requires.1 h l in search (rules, r))

pub returns : goal.returns
unfolding first_before
returns c =
    first_over_range (stands_before (records c.args.g.now) (symbol_named c.args.symbol) (view c.args.work.now)) _ _ _ _ c.find.ensures.ran c.requires.1.ordered
    (λ x q b k. search (rules, tests))
