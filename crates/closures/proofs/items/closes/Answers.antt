-- `closures::items::closes` meets its contract.
use borrow.Author.Rules.{rules}
use Rattle.grammar.proofs.Laws.{end_known}
use Rattle.closures.proofs.Handing.{closes_absent, closes_ended, closes_behind}
use Rattle.closures.proofs.items.closes.Goals as goal

pub returns-then-is_empty : goal.returns-then-is_empty
returns-then-is_empty c = search (rules, closes_absent)

pub returns-then-at_end : goal.returns-then-at_end
returns-then-at_end c = search (rules, closes_ended)

pub terminal_behind-requires : goal.terminal_behind-requires
terminal_behind-requires c = search (rules, end_known)

pub returns : goal.returns
returns c = search (rules, closes_behind)
