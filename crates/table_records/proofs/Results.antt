-- The end of the builder's call is that of `rules`, and no second answer is.
use Prim.Native.Nat.{ℕ, ◌*◌, ◌<◌, ◌≤◌}
use mathlib.Core.Path.{◌≡◌, sym, ap, ◌∙◌}
use mathlib.Core.Bool.{true, false}
use mathlib.Core.List.{List, []}
use native.Mathlib.Omega.{arith}
use lib.ListN.{length}
use lib.Dec.{ltb}
use borrow.Author.Tests.{lt-ltb, le-ltb}
use Rattle.std.specs.Prelude.{Result, Ok, Err}
use Rattle.rules.specs.Records.{records}
use Rattle.rules.specs.Table.{TableRecord, table_bytes, table_of}
use Rattle.rules.specs.Rooms.{overwritten}
use Rattle.rules.specs.States.{done}
use Rattle.rules.specs.Build.{BuildResult, not_built, written, result_of}
use Rattle.rules.specs.declared.BuildRefusal.TheVariants.{TableRoom}
use Rattle.rules.specs.declared.BuildRefusal.{BuildRefusal}
use Rattle.rules.specs.declared.TableSize.{TableSize}
use Rattle.rules.specs.Answers.{table_size}
use Rattle.room.specs.Areas.{view}
use Rattle.states.specs.StatesIn.{states_in}
use Rattle.states.proofs.States.{states_length}
use Rattle.table_records.specs.Result.{gave_in, TableGiven}

-- ---- any records
module _ (count wanted : ℕ) (rs : List TableRecord) (table left : List ℕ) (is : wanted ≡ length rs) where
  short : length table < 8 * wanted → gave_in (Err (TableRoom wanted)) table left ≡ written count rs table left
  unfolding written not_built
  short h = let t : ltb (length table) (8 * length rs) ≡ true = lt-ltb (length table) (8 * length rs) (omega arith) in rw (t, is)

  long : (after : List ℕ) → 8 * wanted ≤ length table → after ≡ overwritten (table_bytes rs) table → gave_in (Ok (table_size count wanted)) after left ≡ written count rs table left
  unfolding written
  long after h e = let f : ltb (length table) (8 * length rs) ≡ false = le-ltb (length table) (8 * length rs) (omega arith) in rw (f, is, e)

-- ---- those of the states in the room
module _ (bytes work : List ℕ) (count wanted : ℕ) (table : List ℕ) (is : wanted ≡ length (table_of (records bytes) (states_in (view work) count))) where
  as_written : (left : List ℕ) → result_of (records bytes) (done (states_in (view work) count)) table left ≡ written count (table_of (records bytes) (states_in (view work) count)) table left
  unfolding result_of
  as_written left = ap (λ (k : ℕ). written k (table_of (records bytes) (states_in (view work) count)) table left) (states_length (view work) count)

  pub table_short : length table < 8 * wanted → TableGiven bytes work count table table (Err (TableRoom wanted))
  table_short h = record { given = λ left. short count wanted _ table left is h ∙ sym (as_written left) }

  pub table_fits : 8 * wanted ≤ length table → 8 * length (table_of (records bytes) (states_in (view work) count)) ≤ length table
  table_fits h = omega arith

  pub table_given : (after : List ℕ) → 8 * wanted ≤ length table → after ≡ overwritten (table_bytes (table_of (records bytes) (states_in (view work) count))) table
      → TableGiven bytes work count table after (Ok (table_size count wanted))
  table_given after h e = record { given = λ left. long count wanted _ table left is after h e ∙ sym (as_written left) }

-- ---- two that are as promised
module _ (bytes work : List ℕ) (count : ℕ) (table after after' : List ℕ) (answer answer' : Result TableSize BuildRefusal)
    (one : TableGiven bytes work count table after answer) (two : TableGiven bytes work count table after' answer') where
  same : gave_in answer after [] ≡ gave_in answer' after' []
  same = one.given [] ∙ sym (two.given [])

  pub one_answer_given : answer ≡ answer'
  one_answer_given = ap (λ (r : BuildResult). r.answer) same

  pub one_table_given : after ≡ after'
  one_table_given = ap (λ (r : BuildResult). r.table) same
