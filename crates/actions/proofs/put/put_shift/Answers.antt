-- `actions::put::put_shift` meets its contract.
use borrow.Author.Rules.{rules}
use Rattle.lane_table.proofs.Numbers.{shift_fits}
use Rattle.actions.proofs.Puts.{shift_none, shift_added}
use Rattle.actions.proofs.put.put_shift.Goals as goal

pub returns-then-not-is_shift_put : goal.returns-then-not-is_shift_put
returns-then-not-is_shift_put c = search (rules, shift_none)

pub add_action-requires : goal.add_action-requires
add_action-requires c = search (rules, shift_fits)

pub returns : goal.returns
returns c = search (rules, shift_added)
