-- `table_records::write::write_record` meets its contract.
use Rattle.rules.specs.Table.{table_record, record_bytes, two_bytes}
use Rattle.rules.specs.Rooms.{overwritten}
use Rattle.table_records.proofs.write.write_record.Goals as goal

pub returns : goal.returns
unfolding record_bytes two_bytes table_record overwritten
returns c = rw (c.copy_from_slice.ensures.after, c.to_le_bytes-state.ensures, c.to_le_bytes-symbol.ensures, c.to_le_bytes-target.ensures, c.kind_byte.ensures)
