-- `table_check::passes::lowest_up_to` meets its contract.
use borrow.Author.Rules.{rules}
use borrow.Author.Tests.{tests}
use Rattle.base.proofs.Chains.{first_over_range}
use Rattle.rules.specs.Table.{table_records}
use Rattle.table_check.specs.Faults.{faulty}
use Rattle.table_check.proofs.Lowest.{lowest_found}
use Rattle.table_check.proofs.passes.lowest_up_to.Goals as goal

pub returns : goal.returns
returns c =
    let test = faulty c.args.sizes.terminals c.args.sizes.nonterminals c.args.sizes.productions (table_records c.args.t.now) in
    let found = first_over_range test _ _ _ _ c.find.ensures.ran (search rules) (λ x q b k. search (rules, tests)) in
    search (rules, lowest_found, found)
