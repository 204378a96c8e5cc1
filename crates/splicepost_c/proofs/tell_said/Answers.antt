-- `splicepost_c::tell_said` meets its contract: each variant has its own numbers.
use Rattle.std.proofs.Common.{rules}
use Rattle.splicepost_c.specs.Numbers.{number, numbers}
use Rattle.splicepost_c.proofs.tell_said.Goals as goal

pub returns-in-Coded : goal.returns-in-Coded
unfolding number numbers
returns-in-Coded c = search (rules, c.in-Coded.is)

pub returns-in-Built : goal.returns-in-Built
unfolding number numbers
returns-in-Built c = search (rules, c.in-Built.is)

pub returns-in-Refused : goal.returns-in-Refused
unfolding number numbers
returns-in-Refused c = search (rules, c.in-Refused.is)

pub returns-in-Accepted : goal.returns-in-Accepted
unfolding number numbers
returns-in-Accepted c = search (rules, c.in-Accepted.is)

pub returns-in-Stopped : goal.returns-in-Stopped
unfolding number numbers
returns-in-Stopped c = search (rules, c.in-Stopped.is)
