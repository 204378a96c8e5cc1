-- `driver::drive_coded` meets its contract.
use borrow.Author.Rules.{rules}
use Rattle.driver.proofs.Driving.{runs_then}
use Rattle.driver.proofs.drive_coded.Goals as goal

pub returns : goal.returns
returns c = search (rules, runs_then)
