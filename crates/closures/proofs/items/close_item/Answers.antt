-- `closures::items::close_item` meets its contract.
use borrow.Author.Rules.{rules}
use Rattle.closures.proofs.Handing.{closing_goes_on, closing_within, closing_below, closing_slot, item_passed, item_joined}
use Rattle.closures.proofs.items.close_item.Goals as goal

pub returns-then-not-closes : goal.returns-then-not-closes
returns-then-not-closes c = search (rules, item_passed)

pub symbol_behind-requires : goal.symbol_behind-requires
symbol_behind-requires c = search (rules, closing_goes_on)

pub closure_slot-own-requires : goal.closure_slot-own-requires
closure_slot-own-requires c = search (rules, closing_below)

pub hand_on-requires : goal.hand_on-requires
hand_on-requires c = search (rules, closing_within)

pub join_into-requires : goal.join_into-requires
join_into-requires c = search (rules, closing_slot)

pub returns : goal.returns
returns c = search (rules, item_joined)
