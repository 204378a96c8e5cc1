-- The order of a record and the one before it, by what the record is for.
use Prim.Native.Nat.{ℕ, ◌-◌}
use mathlib.Core.Path.{◌≡◌}
use mathlib.Core.Bool.{Bool, not}
use mathlib.Core.List.{List}
use borrow.Author.Tests.{ne_eqb}
use Rattle.rules.specs.Table.{TableRecord, table_record}
use Rattle.rules.specs.Drive.{table_at, ascends}
use Rattle.record.specs.declared.keys.Key.{Key}
use Rattle.record.specs.Keys.{key_at}
use Rattle.table_check.specs.Faults.{out_of_order}

pub by_order : (rs : List TableRecord) (i : ℕ) (own : Key) (b : Bool) → (i ≡ 0 → ⊥) → own ≡ key_at rs i
    → b ≡ ascends (table_at rs (i - 1)) (table_record own.state own.kind own.symbol 0) → not b ≡ out_of_order rs i
unfolding out_of_order ascends table_record
by_order rs i own b n e a = rw (ne_eqb i 0 n, a, e)
