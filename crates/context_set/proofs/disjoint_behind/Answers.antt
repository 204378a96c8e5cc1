-- `context_set::disjoint_behind` meets its contract.
use borrow.Author.Rules.{rules}
use borrow.Author.Tests.{tests}
use Rattle.base.proofs.Chains.{each_over}
use Rattle.rules.specs.Tokens.{disjoint}
use Rattle.room.specs.Areas.{view}
use Rattle.lookahead.specs.Sets.{set_at}
use Rattle.context_set.proofs.disjoint_behind.Goals as goal

pub returns : goal.returns
returns c =
    each_over (disjoint (set_at (view c.args.work.now) c.args.slot)) (set_at (view c.args.work.now)) _ _ _ _ c.all.ensures.ran
    (λ x q b k. search (rules, tests))
