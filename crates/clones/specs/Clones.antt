-- Clones in the room, and the links to them.
use Rattle.std.specs.Prelude.{ℕ, ◌+◌, ◌-◌, ◌<◌, ◌≤◌, ◌≡◌, ◌&&◌, not, [], get_or, set, eqb}
use Rattle.base.specs.Pick.{pick}
use Rattle.rules.specs.Limits.{max_states, max_entries}
use Rattle.rules.specs.Records.{Grammar}
use Rattle.rules.specs.Grammar.{at_end}
use Rattle.rules.specs.States.{Entry}
use Rattle.rules.specs.declared.StateIndex.{StateIndex}
use Rattle.room.specs.Areas.{Room, put_entry, with_entries}
use Rattle.room.specs.Slots.{entry_slot}
use Rattle.lookahead.specs.Sets.{set_at, put_set}
use Rattle.states.specs.StatesIn.{entry_in, first_of, PlaceOf, put_next}

-- ---- copies
-- the entry at place `to` is that at place `from`, with its set
abbrev pub entry_copied : ℕ → ℕ → Room → Room
entry_copied from to r = put_set (entry_slot to) (set_at r (entry_slot from)) (put_entry to (get_or r.entries from 0) r)

-- the room without its entries and its sets
abbrev pub beside_entries : Room → Room
beside_entries r = record { entries = []; first_entries = r.first_entries; visited = r.visited; entered = r.entered; successors = r.successors; origins = r.origins; heads = r.heads; walked = r.walked; actions = r.actions; sets = []; rest = r.rest }

-- the entries of v stand before the place `at` in q, and from there on those from `first` on again; other sets are those of v
pub record Entries (first size at : ℕ) (v q : Room) : Type 0 where
  pub kept : (k : ℕ) → k < at → entry_in q k ≡ entry_in v k
  pub copied : (k : ℕ) → k < size → entry_in q (at + k) ≡ entry_in v (first + k)
  pub slots_before : (slot : ℕ) → slot < entry_slot 0 → set_at q slot ≡ set_at v slot
  pub slots_behind : (slot : ℕ) → entry_slot max_entries ≤ slot → set_at q slot ≡ set_at v slot

pub record Copied (first size at : ℕ) (v q : Room) : Type 0 where
  pub others : beside_entries q ≡ beside_entries v
  pub entries : Entries first size at v q

-- ---- a clone of state s behind the last
abbrev pub size_of : Room → ℕ → ℕ
size_of v s = first_of v (s + 1) - first_of v s

-- there is a number and there are places for it
pub record Cloneable (s count : ℕ) (v : Room) : Type 0 where
  pub state : s < count
  pub more : count < max_states
  pub ordered : first_of v s ≤ first_of v (s + 1)
  pub before : first_of v (s + 1) ≤ first_of v count
  pub fits : first_of v count + size_of v s ≤ max_entries

-- the areas that a clone leaves
abbrev pub beside_clones : Room → Room
beside_clones r = record { entries = []; first_entries = []; visited = r.visited; entered = r.entered; successors = r.successors; origins = []; heads = []; walked = r.walked; actions = r.actions; sets = []; rest = r.rest }

-- the clone copies the state as it stands, has its original, and is a group of its own
pub record Cloned (s count : ℕ) (v q : Room) : Type 0 where
  pub others : beside_clones q ≡ beside_clones v
  pub firsts : q.first_entries ≡ set v.first_entries (count + 1) (first_of v count + size_of v s)
  pub origins : q.origins ≡ set v.origins count (get_or v.origins s 0)
  pub heads : q.heads ≡ set v.heads count count
  pub entries : Entries (first_of v s) (size_of v s) (first_of v count) v q

-- ---- links
-- an entry that leads to the successor leads to the clone
unfoldable pub patched_entry : Grammar → ℕ → ℕ → Entry → Entry
patched_entry g successor clone e = record { item = e.item; next = pick (not (at_end g e.item) && eqb e.next successor) clone e.next; set = e.set }

unfoldable pub link_patched : Grammar → ℕ → StateIndex → ℕ → Room → Room
link_patched g successor clone k r = pick (not (at_end g (entry_in r k).item) && eqb (entry_in r k).next successor) (put_next k clone r) r

-- the links of state s to the successor lead to the clone
pub record Patched (g : Grammar) (s successor clone : ℕ) (v q : Room) : Type 0 where
  pub others : with_entries [] q ≡ with_entries [] v
  pub inside : (k : ℕ) → PlaceOf v s k → entry_in q k ≡ patched_entry g successor clone (entry_in v k)
  pub outside : (k : ℕ) → (PlaceOf v s k → ⊥) → entry_in q k ≡ entry_in v k
