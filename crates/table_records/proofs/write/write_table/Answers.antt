-- `table_records::write::write_table` meets its contract.
use borrow.Author.Rules.{rules}
use Rattle.table_records.specs.Rooms.{table_written}
use Rattle.table_records.proofs.write.write_table.Goals as goal

pub returns : goal.returns
returns c = search (rules, table_written)
