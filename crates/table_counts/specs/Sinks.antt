-- What a sink makes of the records of a walk, one list after another.
use native.Mathlib.Omega.{arith}
use Rattle.std.specs.Prelude.{ℕ, ◌+◌, ◌≤◌, ◌≡◌, List, [], ◌++◌, length, refl}
use Rattle.rules.specs.Table.{TableRecord, table_record}
use Rattle.record.specs.Kinds.{kind_number}
use Rattle.table_counts.specs.declared.sinks.Record.{Record}
use Rattle.table_counts.specs.Records.{max_records}

-- ---- the record that the code's names stand for
abbrev pub record_of : Record → TableRecord
record_of r = table_record r.state.0 (kind_number r.kind) r.symbol r.target

-- ---- `taken at rs room` is the room after the records rs were taken behind `at` others, and `holds n room` says that n of them can be
-- what every sink owes: no record changes nothing; lists one after another are taken as one; what is taken leaves room for as many as before
pub record SinkLaws (taken : ℕ → List TableRecord → List ℕ → List ℕ) (holds : ℕ → List ℕ → Type 0) : Type 0 where
  pub none : (at : ℕ) (room : List ℕ) → taken at [] room ≡ room
  pub more : (rs qs : List TableRecord) (at : ℕ) (room : List ℕ) → holds (at + length rs) room → taken (at + length rs) qs (taken at rs room) ≡ taken at (rs ++ qs) room
  pub held : (rs : List TableRecord) (at n : ℕ) (room : List ℕ) → at + length rs ≤ n → holds n room → holds n (taken at rs room)
  pub fewer : (n m : ℕ) (room : List ℕ) → n ≤ m → holds m room → holds n room

-- the records were taken behind `at` others, and there are `end` of them now
pub record Took (taken : ℕ → List TableRecord → List ℕ → List ℕ) (rs : List TableRecord) (at : ℕ) (room after : List ℕ) (end : ℕ) : Type 0 where
  pub place : end ≡ at + length rs
  pub left : after ≡ taken at rs room

-- ---- the sink that counts
abbrev pub counted : ℕ → List TableRecord → List ℕ → List ℕ
counted at rs room = room

abbrev pub countable : ℕ → List ℕ → Type 0
countable n room = n ≤ max_records

pub counted_laws : SinkLaws counted countable
counted_laws = record {
  none = λ at room. refl;
  more = λ rs qs at room h. refl;
  held = λ rs at n room h g. g;
  fewer = λ n m room h g. omega arith;
}
