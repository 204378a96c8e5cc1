-- `merging::merge_rows` meets its contract.
use Rattle.merging.proofs.Beginnings.{begun_ready}
use Rattle.merging.proofs.Visiting.{rows_overlap, rows_refused, walks_ready, walks_inside, rows_done}
use borrow.Author.Rules.{rules}
use Rattle.std.proofs.lemmas.Result.{err_from_is_err_and}
use Rattle.merging.proofs.merge_rows.Goals as goal

pub returns-then-not-rows_disjoint : goal.returns-then-not-rows_disjoint
returns-then-not-rows_disjoint c = search (rules, rows_overlap)

pub walk_beachheads-requires : goal.walk_beachheads-requires
walk_beachheads-requires c = search (rules, begun_ready)

pub take_all-requires : goal.take_all-requires
take_all-requires c = (walks_ready _ _ _ _ _ c.walk_beachheads.ensures _ c.in_ok-count.was, search rules, walks_inside _ _ _ _ _ c.walk_beachheads.ensures _ c.in_ok-count.was _ c.requires.0.state)

pub returns-in_err-count : goal.returns-in_err-count
returns-in_err-count c = let p = err_from_is_err_and c.from_residual.result c.from_residual.ensures.1 in rw (p.1, p.2) (search (rules, rows_refused, c.in_err-count.was))

pub returns : goal.returns
returns c = search (rules, rows_done, c.in_ok-count.was)
