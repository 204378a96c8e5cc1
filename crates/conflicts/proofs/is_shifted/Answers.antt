use borrow.Author.Rules.{rules}
use borrow.Author.Tests.{tests}
use Rattle.std.proofs.lemmas.Iterator.{serves_from_Range}
use Rattle.base.proofs.Chains.{some_over}
use Rattle.rules.specs.Records.{records}
use Rattle.rules.specs.Grammar.{terminal, is_before}
use Rattle.room.specs.Areas.{view}
use Rattle.states.specs.StatesIn.{entry_in}
use Rattle.states.proofs.Places.{item_fits, run_behind}
use Rattle.conflicts.specs.Counts.{is_shifted}
use Rattle.conflicts.proofs.is_shifted.Goals as goal

pub any-requires-clause-callable : goal.any-requires-clause-callable
any-requires-clause-callable c = serves_from_Range (λ x q k. search (rules, tests)) (λ x low high. search (rules, item_fits, run_behind))

pub returns : goal.returns
unfolding is_shifted
returns c =
    some_over (λ e. is_before (records c.args.g.now) (terminal c.args.t) e.item) (entry_in (view c.args.work.now)) _ _ _ _ c.any.ensures.ran
    (λ x q b k. search (rules, tests))
