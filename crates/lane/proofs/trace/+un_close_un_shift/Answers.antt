use borrow.Author.Rules.{rules}
use native.Mathlib.Omega.{arith}
use mathlib.Core.Path.{refl}
use Rattle.states.proofs.Places.{placed_at}
use Rattle.state_graph.proofs.Linking.{linked_at}
use Rattle.lane.proofs.Items.{not_at_end, past_first}
use Rattle.lane.proofs.Going.{back_by_close, back_by_shift, going_visited, going_entered, linked_ready, linked_back, linked_falls, going_past, past_back, past_falls}
use Rattle.lane.proofs.ShiftLoop.{shift_passed, shift_back, shift_stops, shift_ends}
use Rattle.lane.proofs.CloseLoop.{at_first, entry_low, entry_fits, entry_ready, at_next, at_next_passed, close_passed, close_entered, close_back, close_stops, close_ends}
use mathlib.Core.Path.{ap}
use mathlib.Core.Bool.{not}
use Rattle.lane.proofs.trace.+un_close_un_shift.Goals as goal

pub go_back-returns-then-at_start : goal.go_back-returns-then-at_start
go_back-returns-then-at_start t c = search (rules, back_by_close)

pub go_back-returns-else-at_start : goal.go_back-returns-else-at_start
go_back-returns-else-at_start t c = search (rules, back_by_shift)

pub un_close-returns-then-has : goal.un_close-returns-then-has
un_close-returns-then-has t c = search (rules, close_stops)

pub un_close-loop-k-init : goal.un_close-loop-k-init
un_close-loop-k-init t c = (search rules, search rules, at_first _ _ _ _ _ _ _ _ _ (going_entered _ _ _ _ _ _ _ c.requires.0 c.requires.1 c.mark.ensures _ c.enter_start.ensures) c.symbol-a.ensures.0 c.first_entry-first.ensures c.end_entry-end.ensures, refl)

pub un_close-item-j-requires : goal.un_close-item-j-requires
un_close-item-j-requires t c = search (rules, entry_low)

pub un_close-before_nonterminal-requires : goal.un_close-before_nonterminal-requires
un_close-before_nonterminal-requires t c = entry_fits _ _ _ _ _ _ _ _ _ _ _ c.loop-k.invariant.2 c.loop-k-test.true _ c.item-j.ensures

pub un_close-loop-k-preserved-then-not-before_nonterminal : goal.un_close-loop-k-preserved-then-not-before_nonterminal
un_close-loop-k-preserved-then-not-before_nonterminal t c = (search rules, search rules, search (rules, at_next_passed), close_passed _ _ _ _ _ _ _ _ _ _ _ _ _ _ c.loop-k.invariant.2 c.loop-k-test.true c.item-j.ensures c.before_nonterminal.ensures c.loop-k.invariant.3 (ap not c.if-not-before_nonterminal.true))

pub un_close-enter_past-requires : goal.un_close-enter_past-requires
un_close-enter_past-requires t c = record {
  j_value = (not_at_end _ _ _ _ c.before_nonterminal.ensures (ap not c.if-not-before_nonterminal.false), search rules, search rules, search rules);
  long_enough = search rules;
}

pub un_close-loop-k-preserved-then-not-enter_past : goal.un_close-loop-k-preserved-then-not-enter_past
un_close-loop-k-preserved-then-not-enter_past t c = (search rules, search rules, search (rules, at_next, going_past), search (rules, close_entered))

pub un_close-go_back-requires : goal.un_close-go_back-requires
un_close-go_back-requires t c = (past_falls _ _ _ _ _ _ _ _ _ c.decreases c.requires.0 c.requires.1 c.has.ensures c.if-has.false c.mark.ensures _ _ _ _ _ c.enter_start.ensures c.loop-k.invariant.2.going c.enter_past.ensures.work_after, (entry_ready _ _ _ _ _ _ _ _ _ _ _ c.loop-k.invariant.2 c.loop-k-test.true _ _ _ c.item-j.ensures c.enter_past.ensures.work_after, omega (arith, c.loop-k.invariant.0, c.enter_past.auto)))

pub un_close-loop-k-preserved : goal.un_close-loop-k-preserved
un_close-loop-k-preserved t c = (search rules, search rules, search (rules, at_next, past_back), search (rules, close_back))

pub un_close-returns : goal.un_close-returns
un_close-returns t c = search (rules, close_ends)

pub un_shift-returns-then-has : goal.un_shift-returns-then-has
un_shift-returns-then-has t c = search (rules, shift_stops)

pub un_shift-overflow_sub-i : goal.un_shift-overflow_sub-i
un_shift-overflow_sub-i t c = search (rules, past_first)

pub un_shift-loop-next-init : goal.un_shift-loop-next-init
un_shift-loop-next-init t c = (search rules, search rules, search rules, search (rules, going_visited), refl)

pub un_shift-leads-requires : goal.un_shift-leads-requires
un_shift-leads-requires t c = record {
  long_enough = (search rules, search rules, search rules, search rules);
  placed_at = (search (rules, placed_at), linked_at _ _ _ _ c.loop-next.invariant.3.ready.linked c.loop-next-test.true);
}

pub un_shift-loop-next-preserved-then-not-leads : goal.un_shift-loop-next-preserved-then-not-leads
un_shift-loop-next-preserved-then-not-leads t c = (search rules, search rules, search rules, search rules, search (rules, shift_passed))

pub un_shift-go_back-requires : goal.un_shift-go_back-requires
un_shift-go_back-requires t c = (linked_falls _ _ _ _ _ _ _ _ _ c.decreases c.requires.0 c.requires.1 c.has.ensures c.if-has.false c.mark.ensures _ _ _ c.loop-next.invariant.3 c.loop-next-test.true c.mark-in-loop-next.ensures, (linked_ready _ _ _ _ _ _ _ _ _ c.loop-next.invariant.3 c.loop-next-test.true c.mark-in-loop-next.ensures, search rules))

pub un_shift-loop-next-preserved : goal.un_shift-loop-next-preserved
un_shift-loop-next-preserved t c = (search rules, search rules, search rules, linked_back _ _ _ _ _ _ _ _ _ c.loop-next.invariant.3 _ c.loop-next-test.true c.mark-in-loop-next.ensures c.go_back.ensures, search (rules, shift_back))

pub un_shift-returns : goal.un_shift-returns
un_shift-returns t c = search (rules, shift_ends)
