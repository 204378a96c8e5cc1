use borrow.Author.Rules.{rules}
use Rattle.table_records.specs.Rooms.{record_put}
use Rattle.table_records.proofs.write.WrittenSink.take.Goals as goal

pub returns : goal.returns
returns c = search (rules, record_put)
