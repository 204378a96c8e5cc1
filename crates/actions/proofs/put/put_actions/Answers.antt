-- `actions::put::put_actions` meets its contract.
use borrow.Author.Rules.{rules}
use Rattle.states.proofs.Places.{run_read}
use Rattle.conflicts.proofs.Turns.{few_terminals}
use Rattle.actions.proofs.Puts.{too_many, few_enough}
use Rattle.actions.proofs.put.put_actions.Goals as goal

pub put_entries-count-requires : goal.put_entries-count-requires
put_entries-count-requires c = search (rules, run_read, few_terminals)

pub returns-then-count-gt-MAX_COLUMNS : goal.returns-then-count-gt-MAX_COLUMNS
returns-then-count-gt-MAX_COLUMNS c = search (rules, too_many)

pub returns : goal.returns
returns c = search (rules, few_enough)
