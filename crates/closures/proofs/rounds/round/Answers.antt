use borrow.Author.Rules.{rules}
use Rattle.closures.proofs.Frames.{closable_kept}
use Rattle.closures.proofs.LeftSides.{round_begins, round_turns, round_ends}
use Rattle.closures.proofs.rounds.round.Goals as goal

pub loop-i-init : goal.loop-i-init
loop-i-init c = search (rules, round_begins)

pub close_left_side-changed-requires : goal.close_left_side-changed-requires
close_left_side-changed-requires c = search (rules, closable_kept)

pub loop-i-preserved : goal.loop-i-preserved
loop-i-preserved c = search (rules, round_turns)

pub returns : goal.returns
returns c = search (rules, round_ends)
