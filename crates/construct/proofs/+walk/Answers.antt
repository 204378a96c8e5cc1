use mathlib.Core.Path.{refl}
use Rattle.std.proofs.lemmas.Result.{err_from_is_err_and}
use Rattle.construct.proofs.Going.{going_begun, walk_passed, joined_ready, joined_low, joined_falls, going_on, walk_done, walk_stops, walk_ends, walk_ends_joining, walk_ends_walking}
use borrow.Author.Rules.{rules}
use native.Mathlib.Omega.{arith}
use mathlib.Core.Path.{ap}
use mathlib.Core.Bool.{not}
use Rattle.construct.proofs.+walk.Goals as goal

pub returns-then-has : goal.returns-then-has
returns-then-has t c = search (rules, walk_stops)

pub loop-next-init : goal.loop-next-init
loop-next-init t c = (search rules, search rules, search rules, search (rules, going_begun), refl)

pub loop-next-preserved-then-not-has : goal.loop-next-preserved-then-not-has
loop-next-preserved-then-not-has t c = (search rules, search rules, search rules, search rules, search (rules, walk_passed))

pub returns-in_err-joined : goal.returns-in_err-joined
returns-in_err-joined t c = let p = err_from_is_err_and c.from_residual.result c.from_residual.ensures.1 in rw (p.1, p.2) (search (rules, walk_ends_joining, c.in_err-joined.was))

pub walk-requires : goal.walk-requires
walk-requires t c = (joined_falls _ _ _ _ _ _ c.requires.0 c.requires.2 c.has.ensures c.requires.1 c.if-has.false _ c.mark.ensures _ c.origin-row.ensures _ _ c.loop-next.invariant.3 _ c.loop-next.invariant.4 _ c.loop-next-test.true c.has-in-loop-next.ensures (ap not c.if-not-has.false) _ _ c.join_successor.ensures _ c.in_ok-joined.was _ c.decreases, (joined_ready _ _ _ _ _ _ _ _ c.join_successor.ensures _ c.in_ok-joined.was, omega (arith, c.loop-next.invariant.1, c.join_successor.auto), joined_low _ _ _ _ _ _ _ _ c.join_successor.ensures _ c.in_ok-joined.was))

pub returns-in_err-count : goal.returns-in_err-count
returns-in_err-count t c =
    let p = err_from_is_err_and c.from_residual-in_err-count.result c.from_residual-in_err-count.ensures.1 in
    rw (p.1, p.2) (walk_ends_walking _ _ _ _ _ _ c.requires.0 c.requires.2 c.has.ensures c.requires.1 c.if-has.false _ c.mark.ensures _ c.origin-row.ensures _ _ c.loop-next.invariant.3 _ c.loop-next.invariant.4 _ c.loop-next-test.true c.has-in-loop-next.ensures (ap not c.if-not-has.false) _ _ c.join_successor.ensures _ c.in_ok-joined.was _ _ c.walk.ensures _ c.in_err-count.was)

pub loop-next-preserved : goal.loop-next-preserved
loop-next-preserved t c = (search rules, search rules, search rules, search (rules, going_on, c.in_ok-joined.was, c.in_ok-count.was), search (rules, walk_done, c.in_ok-joined.was, c.in_ok-count.was))

pub returns : goal.returns
returns t c = search (rules, walk_ends)
