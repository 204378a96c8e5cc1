-- `actions::put::put_entries` meets its contract.
use borrow.Author.Rules.{rules}
use Rattle.actions.proofs.Numbers.{run_readable}
use Rattle.actions.proofs.Puts.{some_added, none_added}
use Rattle.actions.proofs.put.put_entries.Goals as goal

pub put_reductions-count-requires : goal.put_reductions-count-requires
put_reductions-count-requires c = search (rules, run_readable)

pub returns-then-count-ne0 : goal.returns-then-count-ne0
returns-then-count-ne0 c = search (rules, some_added)

pub put_reductions-requires : goal.put_reductions-requires
put_reductions-requires c = let shifted = run_readable _ _ _ _ _ _ _ _ _ c.put_shifts-shifts.ensures.0 c.requires.0.1 in
    ((search rules, run_readable _ _ _ _ _ _ _ _ _ c.put_reductions-count.ensures shifted), search rules, search rules, search rules)

pub returns : goal.returns
returns c = search (rules, none_added)
