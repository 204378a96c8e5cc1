use borrow.Author.Rules.{rules}
use Rattle.base.proofs.Turns.{fold_turn, fold_end}
use Rattle.least_steps.proofs.Frames.{only_none, only_both}
use Rattle.least_sets.proofs.Frames.{ready_only, few_states, entry_left, size_fits}
use Rattle.least_sets.proofs.Rests.{entry_turn, lacking_end}
use Rattle.least_sets.proofs.Loops.{state_begins, state_lacks}
use Rattle.least_sets.proofs.rounds.settle_state.Goals as goal

pub end_entry-requires : goal.end_entry-requires
end_entry-requires c = search (rules, few_states)

pub first_entry-requires : goal.first_entry-requires
first_entry-requires c = search (rules, few_states)

pub overflow_sub-size : goal.overflow_sub-size
overflow_sub-size c = search (rules, size_fits)

pub loop-k-init : goal.loop-k-init
loop-k-init c = (search rules, search rules, search rules, search (rules, only_none), search (rules, state_begins), search (rules, state_lacks))

pub settle_entry-lacked-requires-clause-long_enough : goal.settle_entry-lacked-requires-clause-long_enough
settle_entry-lacked-requires-clause-long_enough c = (search rules, search (rules, ready_only), (search rules, search (rules, entry_left)))

pub loop-k-preserved : goal.loop-k-preserved
loop-k-preserved c = (
  search rules,
  search rules,
  search rules,
  search (rules, only_both),
  search (rules, fold_turn),
  entry_turn _ _ _ _ _ _ _ c.loop-k.lacked _ _ c.loop-k-test.true c.loop-k.invariant.5 c.settle_entry-lacked.ensures.work_after c.settle_entry-lacked.ensures.value,
)

pub returns-clause-work_after : goal.returns-clause-work_after
returns-clause-work_after c = search (rules, fold_end)

pub returns-clause-value : goal.returns-clause-value
returns-clause-value c = search (rules, lacking_end)
