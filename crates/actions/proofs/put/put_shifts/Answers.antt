use borrow.Author.Rules.{rules}
use Rattle.actions.proofs.Numbers.{run_readable}
use Rattle.actions.proofs.Puts.{shifts_start, shifts_turn, shifts_end}
use Rattle.actions.proofs.put.put_shifts.Goals as goal

pub loop-t-init : goal.loop-t-init
loop-t-init c = search (rules, shifts_start)

pub loop-t-preserved : goal.loop-t-preserved
loop-t-preserved c = (search rules, search rules, search rules, (search rules, run_readable _ _ _ _ _ _ _ _ _ c.put_shift-c.ensures.0 c.loop-t.invariant.3.1), shifts_turn _ _ _ _ _ _ _ _ _ c.loop-t.invariant.4 c.put_shift-c.ensures.0)

pub returns : goal.returns
returns c = search (rules, shifts_end)
