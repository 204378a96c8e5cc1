-- `states::append_entry` meets its contract.
use borrow.Author.Rules.{rules}
use Rattle.states.proofs.Entries.{entry_appended}
use Rattle.states.proofs.append_entry.Goals as goal

pub returns : goal.returns
returns c = search (rules, entry_appended)
