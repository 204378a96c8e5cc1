use native.Mathlib.Omega.{arith}
use borrow.Author.Rules.{rules}
use Rattle.lr.proofs.Moves.{moved_item, move_begins, move_end_lem, move_place, move_item, move_passed, move_turns, move_full, move_ends}
use mathlib.Core.Path.{ap}
use mathlib.Core.Bool.{not}
use Rattle.lr.proofs.append.append_kernel.Goals as goal

pub loop-k-init : goal.loop-k-init
loop-k-init c = search (rules, move_begins)

pub item-i-requires : goal.item-i-requires
item-i-requires c = search (rules, move_place)

pub before-requires : goal.before-requires
before-requires c = search (rules, move_item)

pub loop-k-preserved-then-not-before : goal.loop-k-preserved-then-not-before
loop-k-preserved-then-not-before c = search (rules, move_passed)

pub returns-then-to-eq-MAX_ENTRIES : goal.returns-then-to-eq-MAX_ENTRIES
returns-then-to-eq-MAX_ENTRIES c = search (rules, move_full)

pub entry_slot-slot-requires : goal.entry_slot-slot-requires
entry_slot-slot-requires c = search (rules, move_place)

pub overflow_add-i : goal.overflow_add-i
overflow_add-i c = omega (arith, moved_item _ _ _ _ c.requires.long_enough.1 c.before-in-loop-k.ensures (ap not c.if-not-before.false))

pub append_entry-requires : goal.append_entry-requires
append_entry-requires c = (search rules, search (rules, move_end_lem), search (rules, moved_item), search (rules, move_place))

pub loop-k-preserved : goal.loop-k-preserved
loop-k-preserved c = search (rules, move_turns)

pub returns : goal.returns
returns c = search (rules, move_ends)
