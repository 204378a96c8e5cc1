-- `table_records::result::write_states` meets its contract.
use borrow.Author.Rules.{rules}
use Rattle.table_records.proofs.Results.{table_short, table_fits, table_given}
use Rattle.table_records.proofs.result.write_states.Goals as goal

pub returns-then-table-wanted : goal.returns-then-table-wanted
returns-then-table-wanted c = search (rules, table_short)

pub write_table-requires-clause-faultless : goal.write_table-requires-clause-faultless
write_table-requires-clause-faultless c = search (rules, table_fits)

pub write_table-requires-clause-count_in_bounds : goal.write_table-requires-clause-count_in_bounds
write_table-requires-clause-count_in_bounds c = search (rules, table_fits)

pub returns : goal.returns
returns c = search (rules, table_given)
