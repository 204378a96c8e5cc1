-- `builder::lane_states` meets its contract.
use borrow.Author.Rules.{rules}
use Rattle.std.proofs.lemmas.Result.{err_from_is_err_and}
use Rattle.builder.proofs.Checking.{lanes_refused, can_check, lanes_checked}
use Rattle.builder.proofs.lane_states.Goals as goal

pub check_states-requires : goal.check_states-requires
check_states-requires c = search (rules, can_check, c.in_ok-count.was)

pub returns-in_err-count : goal.returns-in_err-count
returns-in_err-count c = let p = err_from_is_err_and c.from_residual.result c.from_residual.ensures.1 in rw (p.1, p.2) (search (rules, lanes_refused, c.in_err-count.was))

pub returns : goal.returns
returns c = search (rules, lanes_checked, c.in_ok-count.was)
