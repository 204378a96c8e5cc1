-- `closures::close::some_closes` meets its contract.
use borrow.Author.Rules.{rules}
use borrow.Author.Tests.{tests}
use Rattle.std.proofs.lemmas.Iterator.{serves_from_Range}
use Rattle.base.proofs.Chains.{some_over}
use Rattle.rules.specs.Records.{records}
use Rattle.room.specs.Areas.{view}
use Rattle.states.specs.StatesIn.{entry_in}
use Rattle.states.proofs.Places.{item_fits, run_behind}
use Rattle.closures.specs.Closures.{entry_closes}
use Rattle.closures.proofs.Alone.{entry_closes_lem}
use Rattle.closures.proofs.close.some_closes.Goals as goal

pub any-requires-clause-callable : goal.any-requires-clause-callable
any-requires-clause-callable c = serves_from_Range (λ x q k. search (rules, tests)) (λ x low high. search (rules, item_fits, run_behind))

pub returns : goal.returns
returns c =
    some_over (entry_closes (records c.args.g.now)) (entry_in (view c.args.work.now)) _ _ _ _ c.any.ensures.ran
    (λ x q b k. search (rules, tests, entry_closes_lem))
