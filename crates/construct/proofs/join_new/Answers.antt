-- `construct::join_new` meets its contract.
use Rattle.construct.proofs.NewClones.{new_full, size_ordered, size_bounded, end_bounded, new_crowded, new_able, new_grouped, tested_placed, new_fails, new_placed, new_joins}
use native.Mathlib.Omega.{arith}
use borrow.Author.Rules.{rules}
use mathlib.Core.Path.{ap}
use mathlib.Core.Bool.{not}
use Rattle.construct.proofs.join_new.Goals as goal

pub returns-then-count-ge-MAX_STATES : goal.returns-then-count-ge-MAX_STATES
returns-then-count-ge-MAX_STATES c = new_full _ _ _ _ _ _ c.requires.0 c.requires.2 c.requires.3 c.if-count-ge-MAX_STATES.true

pub overflow_sub-size : goal.overflow_sub-size
overflow_sub-size c = omega (arith, size_ordered _ _ _ _ _ _ c.requires.0 c.requires.2 c.requires.3, c.first_entry.ensures, c.end_entry.ensures)

pub overflow_add-at : goal.overflow_add-at
overflow_add-at c = omega (arith, size_bounded _ _ _ _ _ _ c.requires.0 c.requires.2 c.requires.3, end_bounded _ _ _ _ _ _ c.requires.0 c.requires.2 c.requires.3, c.end_entry.ensures, c.first_entry-at.ensures)

pub returns-then-at-size-gt-MAX_ENTRIES : goal.returns-then-at-size-gt-MAX_ENTRIES
returns-then-at-size-gt-MAX_ENTRIES c = new_crowded _ _ _ _ _ _ c.requires.0 c.requires.2 c.requires.3 c.if-count-ge-MAX_STATES.false _ _ _ c.first_entry.ensures c.end_entry.ensures c.first_entry-at.ensures (omega arith)

pub clone_state-requires : goal.clone_state-requires
clone_state-requires c = (new_able _ _ _ _ _ _ c.requires.0 c.requires.2 c.requires.3 c.if-count-ge-MAX_STATES.false _ _ _ c.first_entry.ensures c.end_entry.ensures c.first_entry-at.ensures (omega arith), search rules)

pub can_join-requires : goal.can_join-requires
can_join-requires c = (new_grouped _ _ _ _ _ _ c.requires.0 c.requires.2 c.requires.3 c.if-count-ge-MAX_STATES.false _ _ _ c.first_entry.ensures c.end_entry.ensures c.first_entry-at.ensures (omega arith) c.requires.1 _ c.clone_state.ensures, omega (arith, c.requires.1, c.clone_state.auto), omega (arith, c.requires.2), omega arith)

pub conflict_count-conflicts-requires-clause-faultless : goal.conflict_count-conflicts-requires-clause-faultless
conflict_count-conflicts-requires-clause-faultless c = (c.requires.0.clean, c.requires.0.counted)

pub conflict_count-conflicts-requires-clause-long_enough : goal.conflict_count-conflicts-requires-clause-long_enough
conflict_count-conflicts-requires-clause-long_enough c = (omega (arith, c.requires.1, c.clone_state.auto, c.can_join.auto), tested_placed _ _ _ _ _ _ c.requires.0 c.requires.2 c.requires.3 c.if-count-ge-MAX_STATES.false _ _ _ c.first_entry.ensures c.end_entry.ensures c.first_entry-at.ensures (omega arith) c.requires.1 _ c.clone_state.ensures _ _ c.can_join.ensures.value c.can_join.ensures.only_closure)

pub returns-then-not-can_join : goal.returns-then-not-can_join
returns-then-not-can_join c = new_fails _ _ _ _ _ _ c.requires.0 c.requires.2 c.requires.3 c.if-count-ge-MAX_STATES.false _ _ _ c.first_entry.ensures c.end_entry.ensures c.first_entry-at.ensures (omega arith) c.requires.1 _ c.clone_state.ensures _ _ c.can_join.ensures.value c.can_join.ensures.only_closure (ap not c.if-not-can_join.true) _ c.conflict_count-conflicts.ensures

pub patch_links-requires : goal.patch_links-requires
patch_links-requires c = (omega (arith, c.requires.1, c.clone_state.auto, c.can_join.auto, c.join_groups.auto), omega (arith, c.requires.2, c.if-count-ge-MAX_STATES.false), new_placed _ _ _ _ _ _ c.requires.0 c.requires.2 c.requires.3 c.if-count-ge-MAX_STATES.false _ _ _ c.first_entry.ensures c.end_entry.ensures c.first_entry-at.ensures (omega arith) c.requires.1 _ c.clone_state.ensures _ _ c.can_join.ensures.value c.can_join.ensures.only_closure _ c.join_groups.ensures, omega (arith, c.if-count-ge-MAX_STATES.false))

pub returns : goal.returns
returns c = new_joins _ _ _ _ _ _ c.requires.0 c.requires.2 c.requires.3 c.if-count-ge-MAX_STATES.false _ _ _ c.first_entry.ensures c.end_entry.ensures c.first_entry-at.ensures (omega arith) c.requires.1 _ c.clone_state.ensures _ _ c.can_join.ensures.value c.can_join.ensures.only_closure _ c.join_groups.ensures (ap not c.if-not-can_join.false) _ c.patch_links.ensures
