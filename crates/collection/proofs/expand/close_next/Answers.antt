-- `collection::expand::close_next` meets its contract.
use borrow.Author.Rules.{rules}
use Rattle.closures.proofs.Frames.{closable_kept}
use Rattle.collection.proofs.Closing.{kernel_full, kernel_placed, closure_full, closed_within, next_closed}
use Rattle.collection.proofs.expand.close_next.Goals as goal

pub returns-in_err-end : goal.returns-in_err-end
returns-in_err-end c = rw c.from_residual.ensures (search (rules, kernel_full, c.in_err-end.was))

pub close-requires-clause-closable : goal.close-requires-clause-closable
close-requires-clause-closable c = search (rules, closable_kept, kernel_placed, c.in_ok-end.was)

pub close-requires-clause-n_value : goal.close-requires-clause-n_value
close-requires-clause-n_value c = search (rules, closable_kept, kernel_placed)

pub returns-in_err-to : goal.returns-in_err-to
returns-in_err-to c = rw c.from_residual-in_err-to.ensures (search (rules, closure_full, c.in_ok-end.was, c.in_err-to.was))

pub end_state-requires : goal.end_state-requires
end_state-requires c = search (rules, closed_within, c.in_ok-to.was)

pub returns : goal.returns
returns c = next_closed _ _ _ _ _ _ _ _ c.requires.0.closable c.requires.0.some c.requires.1 c.first_entry-first.ensures c.append_next.ensures _ c.in_ok-end.was _ _
    c.close.ensures _ c.in_ok-to.was _ (search rules) c.end_state.ensures
