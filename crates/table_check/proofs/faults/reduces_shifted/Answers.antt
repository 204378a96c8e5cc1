-- `table_check::faults::reduces_shifted` meets its contract.
use borrow.Author.Rules.{rules}
use borrow.Author.Tests.{tests}
use Rattle.base.proofs.Chains.{any_over_range}
use Rattle.rules.specs.Table.{table_records, is_for}
use Rattle.rules.specs.Drive.{table_at}
use Rattle.table_check.proofs.Passing.{any_shifts}
use Rattle.table_check.proofs.faults.reduces_shifted.Goals as goal

pub returns-then-own-eq-REDUCE : goal.returns-then-own-eq-REDUCE
returns-then-own-eq-REDUCE c =
    let rs = table_records c.args.t.now in
    let own = c.key_at-own.result in
    let found = any_over_range (λ j. is_for own.state 0 own.symbol (table_at rs j)) _ _ _ _ c.any.ensures.ran (λ x q b k. search (rules, tests)) in
    any_shifts rs c.args.i c.record_count-count.result own c.any.result c.key_at-own.ensures c.if-own-eq-REDUCE.true c.record_count-count.ensures.0 found
