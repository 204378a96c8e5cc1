use Rattle.context_set.proofs.Columns.{join_begins, join_turns, join_ends}
use borrow.Author.Rules.{rules}
use Rattle.context_set.proofs.join_columns.Goals as goal

pub loop-c-init : goal.loop-c-init
loop-c-init c = search (rules, join_begins)

pub loop-c-preserved : goal.loop-c-preserved
loop-c-preserved c = (search rules, search rules, search (rules, join_turns))

pub returns : goal.returns
returns c = search (rules, join_ends)
