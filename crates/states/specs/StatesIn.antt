-- The states in the room. The entries of all states lie in one run, those of each state behind those of the state before it: the entries
-- of state s are the places from the first entry of s to the first entry of s + 1. Item and next state of an entry are packed into one
-- number, and its token set lies in its slot.
use Rattle.std.specs.Prelude.{ℕ, ◌+◌, ◌-◌, ◌≤◌, ◌<◌, ◌≡◌, List, get_or}
use Rattle.base.specs.Each.{each_from}
use Rattle.rules.specs.Limits.{max_states, max_entries}
use Rattle.rules.specs.declared.StateIndex.{StateIndex}
use Rattle.rules.specs.Tokens.{TokenSet}
use Rattle.rules.specs.States.{Entry, State}
use Rattle.room.specs.Areas.{Room, put_entry, put_first_entry}
use Rattle.packed.specs.Packed.{low, middle, packed}
use Rattle.room.specs.Slots.{entry_slot}
use Rattle.lookahead.specs.Sets.{set_at, put_set}

-- the entry at place k
unfoldable pub entry_in : Room → ℕ → Entry
entry_in r k = record { item = low (get_or r.entries k 0); next = middle (get_or r.entries k 0); set = set_at r (entry_slot k) }

-- the entries from one place up to another
abbrev pub run_in : Room → ℕ → ℕ → State
run_in r first end = each_from (entry_in r) first (end - first)

-- the place of the first entry of state s; that of s + 1 is where the entries of s end
abbrev pub first_of : Room → ℕ → ℕ
first_of r s = get_or r.first_entries s 0

unfoldable pub state_in : Room → ℕ → State
state_in r s = run_in r (first_of r s) (first_of r (s + 1))

unfoldable pub states_in : Room → ℕ → List State
unfolding state_in
states_in r count = each_from (state_in r) 0 count

-- ---- where entries lie
-- place k is one of state s
pub record PlaceOf (r : Room) (s k : ℕ) : Type 0 where
  pub from : first_of r s ≤ k
  pub to : k < first_of r (s + 1)

-- the entries of a run lie within their area, and their items are among the records of the grammar
pub record PlacedRun (record_count : ℕ) (r : Room) (first end : ℕ) : Type 0 where
  pub ordered : first ≤ end
  pub bounded : end ≤ max_entries
  pub recorded : (k : ℕ) → first ≤ k → k < end → (entry_in r k).item < record_count

abbrev pub PlacedAt : ℕ → Room → ℕ → Type 0
PlacedAt record_count r s = PlacedRun record_count r (first_of r s) (first_of r (s + 1))

-- those of all states do, one state behind the other from place 0 on
pub record Placed (record_count count : ℕ) (r : Room) : Type 0 where
  pub few : count ≤ max_states
  pub begins : first_of r 0 ≡ 0
  pub each : (s : ℕ) → s < count → PlacedAt record_count r s

-- ---- the room after each change
-- with another next state in the entry at place k
abbrev pub put_next : ℕ → StateIndex → Room → Room
put_next k next r = put_entry k (packed (entry_in r k).item next.0 0) r

-- with an entry at place k that leads nowhere yet; its set is that of the slot `from`
abbrev pub write_entry : ℕ → ℕ → TokenSet → Room → Room
write_entry k item s r = put_set (entry_slot k) s (put_entry k (packed item 0 0) r)

abbrev pub append_entry : ℕ → ℕ → ℕ → Room → Room
append_entry k item from r = write_entry k item (set_at r from) r

-- with a place where the entries of a state end
abbrev pub end_state : StateIndex → ℕ → Room → Room
end_state state end r = put_first_entry (state.0 + 1) end r
