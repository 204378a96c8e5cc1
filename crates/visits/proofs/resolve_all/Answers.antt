use borrow.Author.Rules.{rules}
use Rattle.std.proofs.lemmas.Result.{err_from_is_err_and}
use Rattle.visits.proofs.Visiting.{going_begun, going_on, going_few, all_refused, all_visited}
use Rattle.visits.proofs.resolve_all.Goals as goal

pub loop-next-init : goal.loop-next-init
loop-next-init c = (search rules, search rules, search (rules, going_begun))

pub overflow_add-next : goal.overflow_add-next
overflow_add-next c = search (rules, going_few)

pub returns-in_err-count : goal.returns-in_err-count
returns-in_err-count c = let p = err_from_is_err_and c.from_residual.result c.from_residual.ensures.1 in rw (p.1, p.2) (search (rules, all_refused, c.in_err-count.was))

pub loop-next-smaller : goal.loop-next-smaller
loop-next-smaller c = search (rules, going_few)

pub loop-next-preserved : goal.loop-next-preserved
loop-next-preserved c = (search rules, search rules, search (rules, going_on, c.in_ok-count.was))

pub returns : goal.returns
returns c = search (rules, all_visited)
