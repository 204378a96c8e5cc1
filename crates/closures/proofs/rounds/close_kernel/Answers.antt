use borrow.Author.Rules.{rules}
use Rattle.closures.proofs.Frames.{closable_kept}
use Rattle.closures.proofs.Kernels.{kernel_begins, kernel_place, kernel_item, kernel_turns, kernel_ends}
use Rattle.closures.proofs.rounds.close_kernel.Goals as goal

pub loop-k-init : goal.loop-k-init
loop-k-init c = search (rules, kernel_begins)

pub item-i-requires : goal.item-i-requires
item-i-requires c = search (rules, kernel_place)

pub entry_slot-from-requires : goal.entry_slot-from-requires
entry_slot-from-requires c = search (rules, kernel_place)

pub close_item-requires : goal.close_item-requires
close_item-requires c = search (rules, closable_kept, kernel_item, kernel_place)

pub loop-k-preserved : goal.loop-k-preserved
loop-k-preserved c = kernel_turns _ _ _ _ _ _ _ _ c.before.requires.0 c.before.requires.1 c.loop-k.invariant _ _ _ _ c.loop-k-test.true c.item-i.ensures c.entry_slot-from.ensures c.close_item.ensures (search rules)

pub returns : goal.returns
returns c = search (rules, kernel_ends)
