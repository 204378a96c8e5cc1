-- `lr::kernels::find_kernel` meets its contract.
use borrow.Author.Rules.{rules}
use borrow.Author.Tests.{tests}
use Rattle.std.proofs.lemmas.Iterator.{serves_from_Range}
use Rattle.base.proofs.Chains.{first_over_range}
use Rattle.rules.specs.States.{same_kernel}
use Rattle.room.specs.Areas.{view}
use Rattle.grammar.specs.Symbols.{symbol_named}
use Rattle.lr.specs.Kernels.{state_kernel, own_kernel}
use Rattle.lr.proofs.Parents.{comparable, kernel_found}
use Rattle.lr.proofs.kernels.find_kernel.Goals as goal

pub find-requires-clause-callable : goal.find-requires-clause-callable
find-requires-clause-callable c = serves_from_Range (λ x q k. search (rules, tests)) (λ x low high. search (rules, comparable))

pub returns : goal.returns
returns c =
    kernel_found _ _ _ _ _ _ c.requires.parented.2 c.requires.has_kernel
    (first_over_range (λ t. same_kernel (state_kernel c.args.g.now (symbol_named c.args.symbol) (view c.args.work.now) c.args.s.0) (own_kernel c.args.g.now (view c.args.work.now) t)) _ _ _ _ c.find.ensures.ran c.requires.parented.2
    (λ x q b k. search (rules, tests)))
