-- `least_steps::steps::moves` meets its contract.
use borrow.Author.Rules.{rules}
use Rattle.least_steps.proofs.Moves.{moves_none, moves_some, recorded_fits}
use Rattle.least_steps.proofs.steps.moves.Goals as goal

pub at_end-requires : goal.at_end-requires
at_end-requires c = search (rules, recorded_fits)

pub returns-then-not-is_empty : goal.returns-then-not-is_empty
returns-then-not-is_empty c = search (rules, moves_some)

pub returns-else-not-is_empty : goal.returns-else-not-is_empty
returns-else-not-is_empty c = search (rules, moves_none)
