-- `actions::reduce_conflicts` meets its contract.
use borrow.Author.Rules.{rules}
use Rattle.actions.proofs.Tests.{reduce_holds, reduce_meets}
use Rattle.actions.proofs.reduce_conflicts.Goals as goal

pub returns-then-held_shifts-ne0 : goal.returns-then-held_shifts-ne0
returns-then-held_shifts-ne0 c = search (rules, reduce_holds)

pub returns-else-held_shifts-ne0 : goal.returns-else-held_shifts-ne0
returns-else-held_shifts-ne0 c = search (rules, reduce_meets)
