-- `visits::lanes` meets its contract.
use mathlib.Core.Path.{refl}
use borrow.Author.Rules.{rules}
use Rattle.std.proofs.lemmas.Result.{err_from_is_err_and}
use Rattle.visits.proofs.Visiting.{lanes_not_built, can_visit, lanes_end}
use Rattle.visits.proofs.lanes.Goals as goal

pub resolve_all-requires : goal.resolve_all-requires
resolve_all-requires c = search (rules, can_visit, c.in_ok-count.was)

pub returns-in_err-count : goal.returns-in_err-count
returns-in_err-count c = let p = err_from_is_err_and c.from_residual.result c.from_residual.ensures.1 in rw (p.1, p.2) (search (rules, lanes_not_built, c.in_err-count.was))

pub returns : goal.returns
returns c = lanes_end _ _ _ _ c.requires.0 c.requires.1 _ _ c.build_lr0_states.ensures _ c.in_ok-count.was _ _ c.resolve_all.ensures _ refl
