-- `driver::drive` meets its contract.
use borrow.Author.Rules.{rules}
use Rattle.driver.proofs.Driving.{no_grammar, coded_then, known_coded}
use Rattle.driver.proofs.drive.Goals as goal

pub drive_coded-requires : goal.drive_coded-requires
drive_coded-requires c = search (rules, known_coded)

pub returns-in_err-check_grammar : goal.returns-in_err-check_grammar
returns-in_err-check_grammar c = search (rules, no_grammar)

pub returns : goal.returns
returns c = search (rules, coded_then)
