-- `context_set::columns_disjoint` meets its contract.
use Prim.Native.Nat.{◌+◌}
use mathlib.Core.Path.{◌∙◌}
use borrow.Author.Rules.{rules}
use borrow.Author.Tests.{tests}
use Rattle.base.specs.Lists.{each_of}
use Rattle.base.proofs.Chains.{all_by_turns}
use Rattle.rules.specs.Tokens.{disjoint}
use Rattle.rules.specs.Lanes.{pairwise_disjoint}
use Rattle.room.specs.Areas.{view}
use Rattle.lookahead.specs.Sets.{set_at}
use Rattle.context_set.specs.Columns.{columns_up_to}
use Rattle.context_set.proofs.Columns.{pairs_start, pairs_turn, pairs_fail, pairs_end}
use Rattle.context_set.proofs.columns_disjoint.Goals as goal

pub returns : goal.returns
returns c =
    let r = view c.args.work.now in
    let end = c.args.at + c.args.width in
    all_by_turns _ _ _ _ (λ k. each_of (disjoint (set_at r k)) (columns_up_to r (k + 1) end)) (λ k. pairwise_disjoint (columns_up_to r k end)) c.all.ensures.ran
    (λ x q b k. search (rules, tests)) (pairs_fail r end) (pairs_turn r end) (pairs_end r end)
    ∙ pairs_start r c.args.at c.args.width
