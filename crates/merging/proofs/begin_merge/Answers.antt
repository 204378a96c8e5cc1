use Rattle.merging.proofs.Beginnings.{begun_none, begun_more, begun_all}
use borrow.Author.Rules.{rules}
use Rattle.merging.proofs.begin_merge.Goals as goal

pub loop-s-init : goal.loop-s-init
loop-s-init c = (search rules, search rules, search rules, search rules, search (rules, begun_none))

pub loop-s-preserved : goal.loop-s-preserved
loop-s-preserved c = (
  search rules,
  search rules,
  search rules,
  search rules,
  begun_more _ _ _ _ _ c.loop-s.invariant.4 c.loop-s.invariant.2 c.loop-s-test.true c.loop-s.invariant.1 c.begin_state.ensures,
)

pub returns : goal.returns
returns c = search (rules, begun_all)
