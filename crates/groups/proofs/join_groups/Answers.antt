use Rattle.groups.proofs.Moves.{moved_none, moved_more, moved_all}
use borrow.Author.Rules.{rules}
use Rattle.groups.proofs.join_groups.Goals as goal

pub loop-k-init : goal.loop-k-init
loop-k-init c = search (rules, moved_none)

pub loop-k-preserved : goal.loop-k-preserved
loop-k-preserved c = (search rules, search rules, moved_more _ _ _ _ _ _ _ _ c.loop-k.invariant.2 c.requires.0 c.loop-k.invariant.1 c.loop-k-test.true c.requires.1 c.move_head.ensures)

pub returns : goal.returns
returns c = search (rules, moved_all)
