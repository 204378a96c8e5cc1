use borrow.Author.Rules.{rules}
use Rattle.driver.proofs.Running.{turn_stands, turn_less, turn_left, run_ends}
use Rattle.driver.proofs.runs.run_from.Goals as goal

pub loop-next-smaller : goal.loop-next-smaller
loop-next-smaller c = search (rules, turn_less)

pub loop-next-preserved : goal.loop-next-preserved
loop-next-preserved c = (search (rules, turn_stands), search rules, search rules, search (rules, turn_left))

pub returns-in-Break : goal.returns-in-Break
returns-in-Break c = search (rules, run_ends)
