-- `least_sets::begin::begin_least` meets its contract.
use borrow.Author.Rules.{rules}
use Rattle.room.proofs.Lengths.{view_lengths}
use Rattle.least_steps.proofs.Frames.{few_terminals, only_both}
use Rattle.least_sets.proofs.Begins.{entries_fit, eof_only, eof_placed, begun}
use Rattle.least_sets.proofs.begin.begin_least.Goals as goal

pub clear_least-requires : goal.clear_least-requires
clear_least-requires c = search (rules, entries_fit)

pub put_eof-requires : goal.put_eof-requires
put_eof-requires c = (search rules, search rules, search (rules, few_terminals))

pub give-requires : goal.give-requires
give-requires c = (search rules, eof_placed _ _ _ _ c.requires.1 c.clear_least.ensures _ _ _ c.hand_slot-hand.ensures c.put_eof.ensures)

pub returns-clause-work_after : goal.returns-clause-work_after
returns-clause-work_after c = begun _ _ _ _ c.requires.1 c.clear_least.ensures _ _ _ c.hand_slot-hand.ensures c.put_eof.ensures _ (view_lengths _ c.requires.0).sets_length c.requires.2 c.give.ensures.work_after

pub returns-clause-only_least : goal.returns-clause-only_least
returns-clause-only_least c = only_both _ _ _ (eof_only _ _ _ _ c.requires.1 c.clear_least.ensures _ _ _ c.hand_slot-hand.ensures c.put_eof.ensures) c.give.ensures.only_least
