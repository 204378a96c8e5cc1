use borrow.Author.Rules.{rules}
use Rattle.closures.proofs.Kernels.{clear_begins, clear_slot, clear_fits, clear_turns, clear_ends}
use Rattle.closures.proofs.rounds.clear_closures.Goals as goal

pub loop-a-init : goal.loop-a-init
loop-a-init c = search (rules, clear_begins)

pub closure_slot-slot-requires : goal.closure_slot-slot-requires
closure_slot-slot-requires c = search (rules, clear_slot)

pub clear_set-requires : goal.clear_set-requires
clear_set-requires c = search (rules, clear_fits)

pub loop-a-preserved : goal.loop-a-preserved
loop-a-preserved c = search (rules, clear_turns)

pub returns : goal.returns
returns c = search (rules, clear_ends)
