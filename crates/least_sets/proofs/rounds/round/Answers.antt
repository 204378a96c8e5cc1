use borrow.Author.Rules.{rules}
use Rattle.base.proofs.Turns.{fold_turn, fold_end}
use Rattle.least_steps.proofs.Frames.{only_none, only_both}
use Rattle.least_sets.proofs.Frames.{ready_only}
use Rattle.least_sets.proofs.Rests.{state_turn, lacking_end}
use Rattle.least_sets.proofs.Loops.{round_begins, round_lacks}
use Rattle.least_sets.proofs.rounds.round.Goals as goal

pub loop-s-init : goal.loop-s-init
loop-s-init c = (search rules, search rules, search (rules, only_none), search (rules, round_begins), search (rules, round_lacks))

pub settle_state-lacked-requires : goal.settle_state-lacked-requires
settle_state-lacked-requires c = (search rules, search (rules, ready_only), search rules, search rules)

pub loop-s-preserved : goal.loop-s-preserved
loop-s-preserved c = (
  search rules,
  search rules,
  search (rules, only_both),
  search (rules, fold_turn),
  state_turn _ _ _ _ _ _ c.loop-s.lacked _ _ c.loop-s-test.true c.loop-s.invariant.4 c.settle_state-lacked.ensures.work_after c.settle_state-lacked.ensures.value,
)

pub returns-clause-work_after : goal.returns-clause-work_after
returns-clause-work_after c = search (rules, fold_end)

pub returns-clause-value : goal.returns-clause-value
returns-clause-value c = search (rules, lacking_end)
