use Rattle.merging.proofs.Walking.{beach_passed, beach_done, walked_ready, walked_more, beaches_end, beaches_refused}
use Rattle.construct.proofs.Frames.{only_none, only_both}
use mathlib.Core.Path.{refl}
use Rattle.std.proofs.lemmas.Result.{err_from_is_err_and}
use borrow.Author.Rules.{rules}
use Rattle.merging.proofs.walk_beachheads.Goals as goal

pub loop-next-init : goal.loop-next-init
loop-next-init c = (search rules, search rules, search rules, search rules, search rules, search rules, search (rules, only_none), refl)

pub loop-next-preserved-then-not-is_beachhead : goal.loop-next-preserved-then-not-is_beachhead
loop-next-preserved-then-not-is_beachhead c = (search rules, search rules, search rules, search rules, search rules, search rules, search rules, search (rules, beach_passed))

pub returns-in_err-count : goal.returns-in_err-count
returns-in_err-count c = let p = err_from_is_err_and c.from_residual.result c.from_residual.ensures.1 in rw (p.1, p.2) (search (rules, beaches_refused, c.in_err-count.was))

pub loop-next-preserved : goal.loop-next-preserved
loop-next-preserved c = (search rules, search rules, search rules, search rules, search (rules, walked_more, c.in_ok-count.was), search (rules, walked_ready, c.in_ok-count.was), search (rules, only_both), search (rules, beach_done, c.in_ok-count.was))

pub returns : goal.returns
returns c = search (rules, beaches_end)
