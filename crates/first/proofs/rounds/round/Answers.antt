use borrow.Author.Rules.{rules}
use Rattle.base.proofs.Tests.{or_picks}
use Rattle.base.proofs.ListLoops.{kept_fold_turn, kept_fold_end}
use Rattle.first.proofs.Frames.{only_none, only_both}
use Rattle.first.proofs.Growth.{round_start, changed_start, changed_turn, changed_end}
use Rattle.first.proofs.rounds.round.Goals as goal

pub loop-i-init : goal.loop-i-init
loop-i-init c = search (rules, only_none, round_start, changed_start)

pub loop-i-preserved : goal.loop-i-preserved
loop-i-preserved c = (search rules, search rules, search (rules, only_both), search (rules, kept_fold_turn), search (rules, changed_turn, or_picks))

pub returns-clause-work_after : goal.returns-clause-work_after
returns-clause-work_after c = search (rules, kept_fold_end)

pub returns-clause-value : goal.returns-clause-value
returns-clause-value c = search (rules, changed_end)
