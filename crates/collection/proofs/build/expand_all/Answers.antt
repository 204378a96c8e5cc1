use native.Mathlib.Omega.{arith}
use borrow.Author.Rules.{rules}
use Rattle.std.proofs.lemmas.Result.{err_from_is_err_and}
use Rattle.collection.proofs.Collecting.{collect_begins, collect_asks, collect_turns, collect_refused, collect_ends}
use Rattle.collection.proofs.build.expand_all.Goals as goal

pub loop-next-init : goal.loop-next-init
loop-next-init c = search (rules, collect_begins)

pub overflow_add-next : goal.overflow_add-next
overflow_add-next c = omega (arith, c.loop-next.invariant.able.few)

pub expand_next-requires : goal.expand_next-requires
expand_next-requires c = search (rules, collect_asks)

pub loop-next-smaller : goal.loop-next-smaller
loop-next-smaller c = omega (arith, c.loop-next.invariant.able.few)

pub loop-next-preserved : goal.loop-next-preserved
loop-next-preserved c = search (rules, collect_turns, c.in_ok-count.was)

pub returns-in_err-count : goal.returns-in_err-count
returns-in_err-count c = let p = err_from_is_err_and c.from_residual.result c.from_residual.ensures.1 in rw (p.1, p.2) (search (rules, collect_refused, c.in_err-count.was))

pub returns : goal.returns
returns c = search (rules, collect_ends)
