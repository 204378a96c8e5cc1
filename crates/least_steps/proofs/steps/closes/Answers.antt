-- `least_steps::steps::closes` meets its contract.
use borrow.Author.Rules.{rules}
use Rattle.least_steps.proofs.Moves.{moves_open, closes_none, closes_some}
use Rattle.least_steps.proofs.steps.closes.Goals as goal

pub terminal_behind-requires : goal.terminal_behind-requires
terminal_behind-requires c = search (rules, moves_open)

pub returns-then-moves : goal.returns-then-moves
returns-then-moves c = search (rules, closes_some)

pub returns-else-moves : goal.returns-else-moves
returns-else-moves c = search (rules, closes_none)
