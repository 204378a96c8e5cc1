use Rattle.takings.proofs.Sweep.{taken_none, taken_more, taken_all}
use borrow.Author.Rules.{rules}
use Rattle.takings.proofs.take_columns.Goals as goal

pub loop-k-init : goal.loop-k-init
loop-k-init c = (search rules, search rules, search rules, search (rules, taken_none))

pub loop-k-preserved : goal.loop-k-preserved
loop-k-preserved c = (
  search rules,
  search rules,
  search rules,
  taken_more _ _ _ _ _ _ _ _ _ c.loop-k.invariant.3 c.requires.0 c.loop-k.invariant.2 c.requires.4 c.loop-k.invariant.0 c.loop-k-test.true
      (rw c.end_entry-end.ensures c.requires.3.bounded) c.take_column.ensures,
)

pub returns : goal.returns
returns c = search (rules, taken_all)
