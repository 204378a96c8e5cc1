use borrow.Author.Rules.{rules}
use Rattle.lr.proofs.Compare.{walks_left, one_more, entries_part, one_falls, walks_turn, walks_end}
use Rattle.lr.proofs.kernels.same_kernel.Goals as goal

pub loop-one-init : goal.loop-one-init
loop-one-init c = search (rules, walks_left)

pub returns-in_default-two : goal.returns-in_default-two
returns-in_default-two c = search (rules, one_more)

pub returns-then-not-same_entry : goal.returns-then-not-same_entry
returns-then-not-same_entry c = search (rules, entries_part)

pub loop-one-smaller : goal.loop-one-smaller
loop-one-smaller c = search (rules, one_falls)

pub loop-one-preserved : goal.loop-one-preserved
loop-one-preserved c = search (rules, walks_turn)

pub returns : goal.returns
returns c = search (rules, walks_end)
