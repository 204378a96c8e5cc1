-- `actions::put::put_reduction` meets its contract.
use borrow.Author.Rules.{rules}
use Rattle.states.proofs.Places.{item_fits}
use Rattle.lane_table.proofs.Numbers.{reduce_fits}
use Rattle.actions.proofs.Puts.{reduction_none, reduction_added}
use Rattle.actions.proofs.put.put_reduction.Goals as goal

pub returns-then-not-is_put : goal.returns-then-not-is_put
returns-then-not-is_put c = search (rules, reduction_none)

pub add_action-requires : goal.add_action-requires
add_action-requires c = (search rules, search rules, reduce_fits _ _ (item_fits _ _ _ _ _ _ c.requires.0.1 c.requires.1 c.requires.2 c.item.ensures))

pub returns : goal.returns
returns c = search (rules, reduction_added)
