-- The least sets in the room. When the lanes are done the rows' slots are free, and the least set of an entry lies in one of them: an entry
-- has its item and its next state where it always has them, and beside its own set a least one.
use Rattle.std.specs.Prelude.{ℕ, ◌+◌, ◌-◌, ◌<◌, ◌≡◌, List, [], length}
use Rattle.base.specs.Each.{each_from}
use Rattle.rules.specs.States.{Entry, State}
use Rattle.rules.specs.FinalCheck.{with_set}
use Rattle.room.specs.Areas.{Room, view, with_sets}
use Rattle.lookahead.specs.Sets.{set_at}
use Rattle.states.specs.StatesIn.{entry_in, first_of}

-- the slot of the least set of the entry at place k
abbrev pub least_slot : ℕ → ℕ
least_slot k = 2176 + k

-- the entry at place k with its least set, the entries from one place up to another, those of a state, and those of all states
unfoldable pub least_entry : Room → ℕ → Entry
least_entry r k = with_set (set_at r (least_slot k)) (entry_in r k)

abbrev pub least_run : Room → ℕ → ℕ → State
least_run r first end = each_from (least_entry r) first (end - first)

unfoldable pub least_state : Room → ℕ → State
least_state r s = least_run r (first_of r s) (first_of r (s + 1))

unfoldable pub least_in : Room → ℕ → List State
unfolding least_state
least_in r count = each_from (least_state r) 0 count

abbrev pub least_of : ℕ → List ℕ → List State
least_of count work = least_in (view work) count

-- ---- what stays: q is v but for the slots from the first least one on; the last of these is the set at hand
pub record OnlyLeast (v q : Room) : Type 0 where
  pub others : with_sets [] q ≡ with_sets [] v
  pub words : length q.sets ≡ length v.sets
  pub slots : (slot : ℕ) → slot < least_slot 0 → set_at q slot ≡ set_at v slot

-- and the least set of every entry is empty
pub record LeastCleared (count : ℕ) (v q : Room) : Type 0 where
  pub only : OnlyLeast v q
  pub empty : (k : ℕ) → k < first_of v count → set_at q (least_slot k) ≡ 0
