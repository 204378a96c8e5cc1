-- What leads to a state, in the form that a search at a need goes by.
use Prim.Native.Nat.{ℕ, ◌+◌, ◌<◌, ◌≤◌}
use mathlib.Core.Path.{◌≡◌}
use mathlib.Core.Bool.{Bool}
use mathlib.Core.List.{List}
use native.Mathlib.Omega.{arith}
use lib.ListN.{length}
use Rattle.base.specs.Lists.{some_of}
use Rattle.rules.specs.Records.{records}
use Rattle.rules.specs.States.{Entry}
use Rattle.rules.proofs.Laws.{length_records}
use Rattle.grammar.specs.Asked.{InRange}
use Rattle.room.specs.Areas.{Room}
use Rattle.states.specs.StatesIn.{entry_in, run_in, first_of, state_in, PlacedAt}
use Rattle.states.proofs.States.{state_run}

-- ---- an entry
pub recorded_fits : (bytes : List ℕ) (j n : ℕ) → j ≡ n → n < length (records bytes) → InRange j bytes
recorded_fits bytes j n e h = omega (arith, length_records bytes)

-- ---- a state's entries
module _ (n s first end : ℕ) (v : Room) (placed : PlacedAt n v s) (begins : first ≡ first_of v s) (ends : end ≡ first_of v (s + 1)) where
  pub item_recorded : (k : ℕ) → first ≤ k → k < end → (entry_in v k).item < n
  item_recorded k h g = placed.recorded k (omega arith) (omega arith)

-- some entry of the state passes a test
pub some_in_state : (test : Entry → Bool) (s first end : ℕ) (v : Room) (b : Bool) → first ≡ first_of v s → end ≡ first_of v (s + 1) → b ≡ some_of test (run_in v first end) → b ≡ some_of test (state_in v s)
some_in_state test s first end v b begins ends e = rw (state_run v s, ← begins, ← ends) e
