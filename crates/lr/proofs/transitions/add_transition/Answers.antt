-- `lr::transitions::add_transition` meets its contract.
use native.Mathlib.Omega.{arith}
use borrow.Author.Rules.{rules}
use Rattle.lr.proofs.Growing.{own_placed, has_kernel, put_run, none_added, known_place, known_below, no_place, known_led, full_refused, new_led}
use Rattle.lr.proofs.transitions.add_transition.Goals as goal

pub find_before-requires : goal.find_before-requires
find_before-requires c = (search rules, own_placed _ _ _ _ _ _ c.first_entry-first.ensures c.end_entry-end.ensures c.requires.0)

pub returns-then-is_none : goal.returns-then-is_none
returns-then-is_none c = none_added _ _ _ _ _ _ _ c.first_entry-first.ensures c.end_entry-end.ensures c.requires.0 _ _ c.find_before.ensures c.is_none.ensures c.if-is_none.true

pub find_kernel-requires-clause-parented : goal.find_kernel-requires-clause-parented
find_kernel-requires-clause-parented c = (c.requires.0, c.requires.1, c.requires.3)

pub find_kernel-requires-clause-has_kernel : goal.find_kernel-requires-clause-has_kernel
find_kernel-requires-clause-has_kernel c = has_kernel _ _ _ _ _ _ _ c.first_entry-first.ensures c.end_entry-end.ensures c.requires.0 _ _ c.find_before.ensures c.is_none.ensures c.if-is_none.false

pub lead-requires : goal.lead-requires
lead-requires c = (search rules, omega (arith, c.requires.0.few, known_below _ _ _ _ _ _ _ c.first_entry-first.ensures c.end_entry-end.ensures c.requires.0 _ _ c.find_kernel.ensures c.in-Some.is), own_placed _ _ _ _ _ _ c.first_entry-first.ensures c.end_entry-end.ensures c.requires.0)

pub returns-in-Some : goal.returns-in-Some
returns-in-Some c = let some = has_kernel _ _ _ _ _ _ _ c.first_entry-first.ensures c.end_entry-end.ensures c.requires.0 _ _ c.find_before.ensures c.is_none.ensures c.if-is_none.false in
    known_led _ _ _ _ _ _ _ c.first_entry-first.ensures c.end_entry-end.ensures c.requires.0 _ (known_place _ _ _ _ _ _ _ c.first_entry-first.ensures c.end_entry-end.ensures c.requires.0 _ _ c.find_kernel.ensures c.in-Some.is) some _ (search rules) c.lead.ensures (known_below _ _ _ _ _ _ _ c.first_entry-first.ensures c.end_entry-end.ensures c.requires.0 _ _ c.find_kernel.ensures c.in-Some.is)

pub returns-then-count-eq-MAX_STATES : goal.returns-then-count-eq-MAX_STATES
returns-then-count-eq-MAX_STATES c = let some = has_kernel _ _ _ _ _ _ _ c.first_entry-first.ensures c.end_entry-end.ensures c.requires.0 _ _ c.find_before.ensures c.is_none.ensures c.if-is_none.false in
    full_refused _ _ _ _ _ _ _ c.first_entry-first.ensures c.end_entry-end.ensures c.requires.0 _ (no_place _ _ _ _ _ _ _ c.first_entry-first.ensures c.end_entry-end.ensures c.requires.0 _ c.find_kernel.ensures c.in_default.is) some (omega arith) c.if-count-eq-MAX_STATES.true

pub put-requires : goal.put-requires
put-requires c = (search rules, omega (arith, c.requires.0.few, c.if-count-eq-MAX_STATES.false))

pub lead-requires-2 : goal.lead-requires-2
lead-requires-2 c = let run = own_placed _ _ _ _ _ _ c.first_entry-first.ensures c.end_entry-end.ensures c.requires.0 in
    (search rules, omega (arith, c.requires.0.few, c.if-count-eq-MAX_STATES.false), put_run _ _ _ _ _ _ _ c.put.ensures run)

pub returns : goal.returns
returns c = let some = has_kernel _ _ _ _ _ _ _ c.first_entry-first.ensures c.end_entry-end.ensures c.requires.0 _ _ c.find_before.ensures c.is_none.ensures c.if-is_none.false in
    new_led _ _ _ _ _ _ _ c.first_entry-first.ensures c.end_entry-end.ensures c.requires.0 _ (no_place _ _ _ _ _ _ _ c.first_entry-first.ensures c.end_entry-end.ensures c.requires.0 _ c.find_kernel.ensures c.in_default.is) some _ _ _ (omega arith) c.if-count-eq-MAX_STATES.false c.requires.1 c.requires.3
    c.parent_over.ensures.0 c.parent_over.ensures.1 c.parent_over.ensures.2 c.put.ensures (search rules) (search rules) c.lead-2.ensures
