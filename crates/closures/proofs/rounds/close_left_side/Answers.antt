-- `closures::rounds::close_left_side` meets its contract.
use borrow.Author.Rules.{rules}
use Rattle.grammar.proofs.Coded.{symbol_read}
use Rattle.closures.proofs.LeftSides.{left_side_slot, left_side_passed, left_side_closed_lem}
use Rattle.closures.proofs.rounds.close_left_side.Goals as goal

pub returns-then-not-at_start : goal.returns-then-not-at_start
returns-then-not-at_start c = search (rules, left_side_passed)

pub closure_slot-own-requires : goal.closure_slot-own-requires
closure_slot-own-requires c = search (rules, symbol_read)

pub close_item-requires : goal.close_item-requires
close_item-requires c = search (rules, left_side_slot)

pub returns : goal.returns
returns c = search (rules, left_side_closed_lem)
