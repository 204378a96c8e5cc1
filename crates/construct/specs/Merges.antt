-- What a merge asks, and what it leaves.
use Rattle.std.specs.Prelude.{ℕ, ◌<◌, ◌≤◌, ◌≡◌, List, [], length}
use Rattle.rules.specs.Records.{records}
use Rattle.rules.specs.Grammar.{terminal_count}
use Rattle.grammar.specs.Asked.{Faultless}
use Rattle.room.specs.Areas.{Room}
use Rattle.room.specs.Slots.{closure_slot}
use Rattle.lookahead.specs.Sets.{set_at}
use Rattle.states.specs.StatesIn.{Placed}
use Rattle.lane.specs.Table.{first_cell}
use Rattle.lane.specs.declared.Lanes.{Lanes}
use Rattle.groups.specs.Groups.{Grouped}

-- the grammar is coded, the states are in place, and each state's original has a row
pub record Mergeable (bytes : List ℕ) (lanes : Lanes) (count : ℕ) (v : Room) : Type 0 where
  pub clean : Faultless bytes
  pub counted : lanes.terminals ≡ terminal_count (records bytes)
  pub placed : Placed (length (records bytes)) count v
  pub grouped : Grouped lanes count v

-- with `more` states where there were `count`
pub record Grown (bytes : List ℕ) (lanes : Lanes) (count more : ℕ) (q : Room) : Type 0 where
  pub ready : Mergeable bytes lanes more q
  pub grown : count ≤ more

-- the areas that a merge does not touch
abbrev pub elsewhere : Room → Room
elsewhere r = record { entries = []; first_entries = []; visited = r.visited; entered = r.entered; successors = r.successors; origins = []; heads = []; walked = []; actions = r.actions; sets = []; rest = r.rest }

-- q is v but for the states, the merge, and the slots of the closure: FIRST and the lane table stay
pub record OnlyMerge (v q : Room) : Type 0 where
  pub others : elsewhere q ≡ elsewhere v
  pub firsts : (slot : ℕ) → slot < closure_slot 0 → set_at q slot ≡ set_at v slot
  pub cells : (slot : ℕ) → first_cell ≤ slot → set_at q slot ≡ set_at v slot
