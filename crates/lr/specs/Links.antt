-- The entries of a run that stand before a symbol lead to a state.
use Rattle.std.specs.Prelude.{ℕ, ◌≤◌, ◌<◌, ◌≡◌, List, []}
use Rattle.rules.specs.Records.{records}
use Rattle.rules.specs.Grammar.{Symbol}
use Rattle.rules.specs.States.{lead}
use Rattle.room.specs.Areas.{Room, with_entries, view}
use Rattle.states.specs.StatesIn.{entry_in, run_in}

-- q is v but for the next states of the entries from one place to another
pub record OnlyLinks (v q : Room) (first end : ℕ) : Type 0 where
  pub others : with_entries [] q ≡ with_entries [] v
  pub before : (k : ℕ) → k < first → entry_in q k ≡ entry_in v k
  pub behind : (k : ℕ) → end ≤ k → entry_in q k ≡ entry_in v k
  pub items : (k : ℕ) → (entry_in q k).item ≡ (entry_in v k).item

pub record Leads (bytes : List ℕ) (x : Symbol) (first end t : ℕ) (work after : List ℕ) : Type 0 where
  pub run : run_in (view after) first end ≡ lead (records bytes) x t (run_in (view work) first end)
  pub only : OnlyLinks (view work) (view after) first end
