-- What a record is for, as a key of the code.
use Rattle.std.specs.Prelude.{ℕ, List}
use Rattle.rules.specs.Table.{TableRecord}
use Rattle.rules.specs.Drive.{table_at}
use Rattle.record.specs.declared.keys.Key.{Key}

abbrev pub key_of : TableRecord → Key
key_of r = record { state = r.state; kind = r.kind; symbol = r.symbol }

abbrev pub key_at : List TableRecord → ℕ → Key
key_at rs i = key_of (table_at rs i)
