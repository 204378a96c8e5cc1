-- `builder::check_states` meets its contract.
use borrow.Author.Rules.{rules}
use Rattle.builder.proofs.Checking.{states_fail, states_pass}
use Rattle.builder.proofs.check_states.Goals as goal

pub returns-in-Some : goal.returns-in-Some
returns-in-Some c = search (rules, states_fail)

pub returns-in-None : goal.returns-in-None
returns-in-None c = search (rules, states_pass)
