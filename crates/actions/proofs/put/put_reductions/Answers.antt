use borrow.Author.Rules.{rules}
use Rattle.actions.proofs.Numbers.{run_readable}
use Rattle.actions.proofs.Puts.{reductions_start, reductions_turn, reductions_end, counted_low}
use Rattle.actions.proofs.put.put_reductions.Goals as goal

pub loop-k-init : goal.loop-k-init
loop-k-init c = (search rules, c.requires.0.1.ordered, search rules, search rules, search rules, search (rules, reductions_start))

pub put_reduction-c-requires : goal.put_reduction-c-requires
put_reduction-c-requires c = (c.loop-k.invariant.4, search rules, search rules, counted_low _ _ _ _ _ _ _ c.loop-k.invariant.4.1 c.loop-k-test.true c.requires.1 c.loop-k.invariant.2, search rules, search rules)

pub loop-k-preserved : goal.loop-k-preserved
loop-k-preserved c = (search rules, search rules, search rules, search rules, (search rules, run_readable _ _ _ _ _ _ _ _ _ c.put_reduction-c.ensures.0 c.loop-k.invariant.4.1), reductions_turn _ _ _ _ _ _ _ _ _ _ _ c.loop-k.invariant.0 c.loop-k.invariant.5 c.put_reduction-c.ensures.0)

pub returns : goal.returns
returns c = search (rules, reductions_end)
