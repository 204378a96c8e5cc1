-- `collection::build::build_canonical_states` meets its contract.
use borrow.Author.Rules.{rules}
use Rattle.std.proofs.lemmas.Result.{err_from_is_err_and}
use Rattle.collection.proofs.Modes.{canonical_refused, canonical_counted, built_placed}
use Rattle.collection.proofs.build.build_canonical_states.Goals as goal

pub unless_conflict-requires : goal.unless_conflict-requires
unless_conflict-requires c = (search rules, search rules, search rules, search (rules, built_placed, c.in_ok-count.was))

pub returns-in_err-count : goal.returns-in_err-count
returns-in_err-count c = let p = err_from_is_err_and c.from_residual.result c.from_residual.ensures.1 in rw (p.1, p.2) (search (rules, canonical_refused, c.in_err-count.was))

pub returns : goal.returns
returns c = search (rules, canonical_counted, c.in_ok-count.was)
