-- What a record of a table's bytes holds, and how many there are.
use Prim.Native.Nat.{ℕ, zero, suc, ◌+◌, ◌*◌, ◌/◌, ◌<◌}
use mathlib.Core.Path.{◌≡◌, refl, ap, ◌∙◌}
use mathlib.Core.List.{List}
use native.Mathlib.Omega.{arith}
use native.Mathlib.Nat.{add_assoc}
use lib.ListN.{length, get_or, drop}
use lib.Seq.{get_or-drop}
use Rattle.rules.specs.Table.{TableRecord, table_record, table_record_at, table_records_of, table_records}
use Rattle.rules.specs.Drive.{table_at}
use Rattle.grammar.specs.Asked.{InRange}

length_records_of_lem : (k : ℕ) (bytes : List ℕ) → length (table_records_of k bytes) ≡ k
unfolding table_records_of
length_records_of_lem zero bytes = refl
length_records_of_lem (suc k) bytes = ap suc (length_records_of_lem k (drop 8 bytes))

pub length_records : (bytes : List ℕ) → length (table_records bytes) ≡ length bytes / 8
unfolding table_records
length_records bytes = length_records_of_lem (length bytes / 8) bytes

record_dropped : (n : ℕ) (bytes : List ℕ) (i : ℕ) → table_record_at (drop n bytes) i ≡ table_record_at bytes (n + i)
unfolding table_record_at
record_dropped n bytes i = simp (get_or-drop, add_assoc)

records_of_at_lem : (d : TableRecord) (k i : ℕ) (bytes : List ℕ) → i < k → get_or (table_records_of k bytes) i d ≡ table_record_at bytes (8 * i)
unfolding table_records_of
records_of_at_lem d zero i bytes h = absurd (omega arith)
records_of_at_lem d (suc k) zero bytes h = refl
records_of_at_lem d (suc k) (suc i) bytes h =
    let e : 8 + 8 * i ≡ 8 * suc i = omega arith in
    records_of_at_lem d k i (drop 8 bytes) (omega arith) ∙ record_dropped 8 bytes (8 * i) ∙ ap (table_record_at bytes) e

pub record_at_lem : (bytes : List ℕ) (i : ℕ) → InRange i bytes → table_at (table_records bytes) i ≡ table_record_at bytes (8 * i)
unfolding table_records table_at
record_at_lem bytes i h = records_of_at_lem (table_record 0 0 0 0) (length bytes / 8) i bytes (omega arith)
