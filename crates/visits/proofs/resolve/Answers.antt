-- `visits::resolve` meets its contract.
use borrow.Author.Rules.{rules}
use mathlib.Core.Path.{sym, ◌∙◌}
use Rattle.std.proofs.lemmas.Result.{err_from_is_err_and}
use Rattle.visits.proofs.Resolving.{value_given, none_given, visited_state, visited_placed, too_many, no_action, can_trace, can_resolve, resolved}
use Rattle.visits.proofs.resolve.Goals as goal

pub put_actions-requires-clause-faultless : goal.put_actions-requires-clause-faultless
put_actions-requires-clause-faultless c = search (rules, visited_state, visited_placed)

pub put_actions-requires-clause-long_enough : goal.put_actions-requires-clause-long_enough
put_actions-requires-clause-long_enough c = search (rules, visited_state, visited_placed)

pub returns-in_err-columns : goal.returns-in_err-columns
returns-in_err-columns c =
    let p = err_from_is_err_and c.from_residual.result c.from_residual.ensures.1 in
    let none = none_given _ _ _ (sym c.ok_or.ensures.value ∙ c.in_err-columns.was) in
    rw (p.1, p.2, none.1) (too_many _ _ _ _ _ c.requires.0 c.requires.2 _ _ c.put_actions.ensures none.0)

pub returns-then-columns-eq0 : goal.returns-then-columns-eq0
returns-then-columns-eq0 c = let some = value_given _ _ _ (sym c.ok_or.ensures.value ∙ c.in_ok-columns.was) in search (rules, no_action, some)

pub build_lane_table-requires : goal.build_lane_table-requires
build_lane_table-requires c = let some = value_given _ _ _ (sym c.ok_or.ensures.value ∙ c.in_ok-columns.was) in search (rules, can_trace, some)

pub resolve_by-requires : goal.resolve_by-requires
resolve_by-requires c = let some = value_given _ _ _ (sym c.ok_or.ensures.value ∙ c.in_ok-columns.was) in search (rules, can_resolve, some)

pub returns : goal.returns
returns c = let some = value_given _ _ _ (sym c.ok_or.ensures.value ∙ c.in_ok-columns.was) in search (rules, resolved, some)
