-- Entries written one behind the other from a place on, as many as their area holds.
use Rattle.std.specs.Prelude.{ℕ, ◌+◌, ◌-◌, ◌≤◌, ◌<◌, ◌≡◌, Bool, not, List, [], ◌∷◌, map, length, take, ltb, Option, Some, None}
use Rattle.base.specs.Pick.{pick}
use Rattle.base.specs.Lists.{keep}
use Rattle.rules.specs.Limits.{max_entries}
use Rattle.rules.specs.Records.{Grammar, records}
use Rattle.rules.specs.Tokens.{is_empty_set}
use Rattle.rules.specs.Grammar.{left_sides}
use Rattle.rules.specs.First.{Sets}
use Rattle.rules.specs.States.{State, entry_of, closure}
use Rattle.room.specs.Areas.{Room, with_entries, with_sets, view}
use Rattle.room.specs.Slots.{closure_slot, entry_slot, hand_slot}
use Rattle.lookahead.specs.Sets.{set_at}
use Rattle.states.specs.StatesIn.{entry_in, run_in, PlacedRun, write_entry}
use Rattle.closures.specs.Closures.{closures_in, follow_in}

-- the entries lead nowhere yet
unfoldable pub append_all : ℕ → State → Room → Room
append_all k [] r = r
append_all k (e ∷ es) r = append_all (k + 1) es (write_entry k e.item e.set r)

unfoldable pub append_run : ℕ → State → Room → Room
unfolding append_all
append_run k es r = append_all k (take (max_entries - k) es) r

-- where a run of that size ends, or that it does not fit
unfoldable pub run_end : ℕ → ℕ → Option ℕ
run_end k size = pick (ltb max_entries (k + size)) None (Some (k + size))

-- the entries were appended at place k
pub record AppendedRun (k : ℕ) (es : State) (v q : Room) (r : Option ℕ) : Type 0 where
  pub written : q ≡ append_run k es v
  pub ended : r ≡ run_end k (length es)

-- ---- the entries of those left-side records whose nonterminal has a set
unfoldable pub present_entries : Grammar → Sets → List ℕ → State
unfolding keep is_empty_set entry_of
present_entries g sets is = keep (λ e. not (is_empty_set e.set)) (map (entry_of g sets) is)

-- with the sets as they lie in the room
abbrev pub present_in : List ℕ → Room → State
present_in bytes r = present_entries (records bytes) (closures_in (records bytes) r) (left_sides (records bytes))

-- ---- what closing leaves: q is v but for the entries from a place on, the sets of the closure and the set at hand
pub record OnlyBehind (v q : Room) (from : ℕ) : Type 0 where
  pub others : with_entries [] (with_sets [] q) ≡ with_entries [] (with_sets [] v)
  pub entries : (k : ℕ) → k < from → entry_in q k ≡ entry_in v k
  pub firsts : (slot : ℕ) → slot < closure_slot 0 → set_at q slot ≡ set_at v slot
  pub cells : (slot : ℕ) → entry_slot max_entries ≤ slot → (slot ≡ hand_slot → ⊥) → set_at q slot ≡ set_at v slot

-- the kernel that lay from `first` to `end` was closed: if its closure fits, it lies from `first` on
pub record Closes (bytes : List ℕ) (canonical : Bool) (n first end : ℕ) (work after : List ℕ) (r : Option ℕ) : Type 0 where
  pub ended : r ≡ run_end first (length (closure (records bytes) (follow_in (records bytes) canonical n (view work)) (run_in (view work) first end)))
  pub state : (to : ℕ) → r ≡ Some to → run_in (view after) first to ≡ closure (records bytes) (follow_in (records bytes) canonical n (view work)) (run_in (view work) first end)
  pub placed : (to : ℕ) → r ≡ Some to → PlacedRun (length (records bytes)) (view after) first to
  pub only : OnlyBehind (view work) (view after) end
