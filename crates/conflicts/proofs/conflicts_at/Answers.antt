use borrow.Author.Rules.{rules}
use Rattle.states.proofs.Places.{run_read}
use Rattle.conflicts.proofs.Turns.{few_terminals, conflicts_start, conflicts_turn, conflicts_end}
use Rattle.conflicts.proofs.conflicts_at.Goals as goal

pub loop-k-init : goal.loop-k-init
loop-k-init c = search (rules, few_terminals, run_read, conflicts_start)

pub loop-k-preserved : goal.loop-k-preserved
loop-k-preserved c = search (rules, conflicts_turn)

pub returns : goal.returns
returns c = search (rules, conflicts_end)
