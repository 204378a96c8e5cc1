use Rattle.merging.proofs.Takers.{none_taken, taken_both, take_turn, take_ends}
use Rattle.merging.proofs.Takings.{taken_ready}
use mathlib.Core.Path.{refl}
use borrow.Author.Rules.{rules}
use Rattle.merging.proofs.take_all.Goals as goal

pub loop-t-init : goal.loop-t-init
loop-t-init c = (search rules, search rules, search rules, search (rules, taken_ready), search (rules, none_taken), refl)

pub loop-t-preserved : goal.loop-t-preserved
loop-t-preserved c = (search rules, search rules, search rules, search (rules, taken_ready), search (rules, taken_both), search (rules, take_turn))

pub returns : goal.returns
returns c = search (rules, take_ends)
