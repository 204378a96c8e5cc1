-- `driver::runs::run` meets its contract.
use borrow.Author.Rules.{rules}
use Rattle.driver.proofs.Running.{opening_stands, room_kept, run_none, run_opened}
use Rattle.driver.proofs.runs.run.Goals as goal

pub returns-then-stack-eq0 : goal.returns-then-stack-eq0
returns-then-stack-eq0 c = search (rules, run_none)

pub run_from-requires : goal.run_from-requires
run_from-requires c = search (rules, opening_stands)

pub shape_of-stack : goal.shape_of-stack
shape_of-stack c = search (rules, room_kept)

pub returns : goal.returns
returns c = search (rules, run_opened)
