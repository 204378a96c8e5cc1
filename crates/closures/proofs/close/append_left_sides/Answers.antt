use borrow.Author.Rules.{rules}
use Rattle.grammar.proofs.Coded.{symbol_read}
use Rattle.closures.proofs.Frames.{closable_kept}
use Rattle.closures.proofs.LeftSides.{left_side_fits}
use Rattle.closures.proofs.Present.{record_item, present_place, present_begins, present_passed, present_turns, present_full, present_ends}
use mathlib.Core.Path.{ap}
use mathlib.Core.Bool.{not}
use Rattle.closures.proofs.close.append_left_sides.Goals as goal

pub loop-i-init : goal.loop-i-init
loop-i-init c = search (rules, present_begins)

pub is_present-requires : goal.is_present-requires
is_present-requires c = search (rules, closable_kept)

pub loop-i-preserved-then-not-is_present : goal.loop-i-preserved-then-not-is_present
loop-i-preserved-then-not-is_present c = search (rules, present_passed)

pub returns-then-to-eq-MAX_ENTRIES : goal.returns-then-to-eq-MAX_ENTRIES
returns-then-to-eq-MAX_ENTRIES c = search (rules, present_full)

pub closure_slot-own-requires : goal.closure_slot-own-requires
closure_slot-own-requires c = symbol_read _ _ _ c.before.requires.0.clean (search rules) c.symbol.ensures.0

pub append_entry-requires : goal.append_entry-requires
append_entry-requires c = (search rules, present_place _ _ _ _ _ _ _ c.loop-i.invariant c.if-to-eq-MAX_ENTRIES.false, record_item _ _ _ _ c.before.requires.0 (search rules), left_side_fits _ _ _ _ _ _ c.before.requires.0 (search rules) c.symbol.ensures.0 c.closure_slot-own.ensures)

pub loop-i-preserved : goal.loop-i-preserved
loop-i-preserved c = present_turns _ _ _ _ _ _ _ c.loop-i.invariant _ c.loop-i-test.true c.is_present.ensures (ap not c.if-not-is_present.false) _ _ _ _ (closable_kept _ _ _ _ c.before.requires.0 c.loop-i.invariant.same) (search rules) c.if-to-eq-MAX_ENTRIES.false (search rules) c.symbol.ensures.0 c.closure_slot-own.ensures c.append_entry.ensures

pub returns : goal.returns
returns c = search (rules, present_ends)
