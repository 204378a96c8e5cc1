-- `least_steps::steps::put_own` meets its contract.
use borrow.Author.Rules.{rules}
use Rattle.least_steps.proofs.Frames.{own_slot}
use Rattle.least_steps.proofs.Moves.{own_put}
use Rattle.least_steps.proofs.steps.put_own.Goals as goal

pub copy_set-requires : goal.copy_set-requires
copy_set-requires c = search (rules, own_slot)

pub returns : goal.returns
returns c = search (rules, own_put)
