-- `closures::close::is_present` meets its contract.
use borrow.Author.Rules.{rules}
use Rattle.grammar.proofs.Coded.{symbol_read}
use Rattle.closures.proofs.LeftSides.{left_side_fits}
use Rattle.closures.proofs.Present.{present_never, present_by}
use Rattle.closures.proofs.close.is_present.Goals as goal

pub returns-then-not-at_start : goal.returns-then-not-at_start
returns-then-not-at_start c = search (rules, present_never)

pub closure_slot-own-requires : goal.closure_slot-own-requires
closure_slot-own-requires c = search (rules, symbol_read)

pub is_empty-requires : goal.is_empty-requires
is_empty-requires c = search (rules, left_side_fits)

pub returns : goal.returns
returns c = search (rules, present_by)
