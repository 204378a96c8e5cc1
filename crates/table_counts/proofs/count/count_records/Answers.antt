-- `table_counts::count::count_records` meets its contract.
use borrow.Author.Rules.{rules}
use Rattle.table_counts.proofs.Bounds.{table_few}
use Rattle.table_counts.proofs.count.count_records.Goals as goal

pub take_records-requires-clause-holds : goal.take_records-requires-clause-holds
take_records-requires-clause-holds c = search (rules, table_few)

pub returns : goal.returns
returns c = search (rules, table_few, c.take_records.ensures.place)
