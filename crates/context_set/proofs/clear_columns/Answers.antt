use Rattle.context_set.proofs.Columns.{clear_begins, clear_turns, clear_ends}
use borrow.Author.Rules.{rules}
use Rattle.context_set.proofs.clear_columns.Goals as goal

pub loop-c-init : goal.loop-c-init
loop-c-init c = search (rules, clear_begins)

pub loop-c-preserved : goal.loop-c-preserved
loop-c-preserved c = search (rules, clear_turns)

pub returns : goal.returns
returns c = search (rules, clear_ends)
