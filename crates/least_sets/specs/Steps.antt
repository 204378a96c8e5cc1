-- What the functions that collect least sets ask and promise, for the bytes of a grammar. Each promise is the expression that it abbreviates.
use Rattle.std.specs.Prelude.{ℕ, ◌+◌, ◌<◌, ◌≡◌, Bool, List, [], length, get_or}
use Rattle.base.specs.Lists.{each_of}
use Rattle.rules.specs.Records.{Grammar, records}
use Rattle.rules.specs.First.{Sets, first_sets}
use Rattle.rules.specs.States.{State}
use Rattle.rules.specs.FinalCheck.{entry_at, entry_moved, entry_closed, entry_settled, move_entry, close_entry, settle_entry, settle_state, least_settled, least_round}
use Rattle.grammar.specs.Asked.{Faultless}
use Rattle.room.specs.Areas.{Room}
use Rattle.first.specs.Firsts.{firsts_in}
use Rattle.states.specs.StatesIn.{first_of, Placed}
use Rattle.least_steps.specs.Least.{least_of}

-- ---- what is asked: the states and FIRST are in the room
pub record Ready (bytes : List ℕ) (count : ℕ) (r : Room) : Type 0 where
  pub clean : Faultless bytes
  pub placed : Placed (length (records bytes)) count r
  pub firsts : firsts_in (records bytes) r ≡ first_sets (records bytes)

-- state s has an entry k
abbrev pub HasEntry : ℕ → Room → ℕ → ℕ → Type 0
HasEntry count r s k = (s < count) × (first_of r s + k < first_of r (s + 1))

-- ---- entry k of state s has handed on its set to its moved dot, to the items behind its dot, and to both
abbrev pub moved_least : List ℕ → ℕ → ℕ → ℕ → List ℕ → List State
moved_least bytes s k count work = move_entry (records bytes) (first_sets (records bytes)) s k (least_of count work)

abbrev pub is_moved : List ℕ → ℕ → ℕ → ℕ → List ℕ → Bool
is_moved bytes s k count work = entry_moved (records bytes) (first_sets (records bytes)) (least_of count work) (entry_at (least_of count work) s k)

abbrev pub closed_least : List ℕ → ℕ → ℕ → ℕ → List ℕ → List State
closed_least bytes s k count work = close_entry (records bytes) (first_sets (records bytes)) s k (least_of count work)

abbrev pub is_closed : List ℕ → ℕ → ℕ → ℕ → List ℕ → Bool
is_closed bytes s k count work = entry_closed (records bytes) (first_sets (records bytes)) (least_of count work) s (entry_at (least_of count work) s k)

unfoldable pub settled_at : Grammar → Sets → ℕ → ℕ → List State → Bool
unfolding entry_settled entry_at
settled_at g sets s k least = entry_settled g sets least s (entry_at least s k)

abbrev pub settled_least : List ℕ → ℕ → ℕ → ℕ → List ℕ → List State
settled_least bytes s k count work = settle_entry (records bytes) (first_sets (records bytes)) s k (least_of count work)

abbrev pub is_settled : List ℕ → ℕ → ℕ → ℕ → List ℕ → Bool
is_settled bytes s k count work = settled_at (records bytes) (first_sets (records bytes)) s k (least_of count work)

-- ---- every entry of state s has
unfoldable pub state_settled : Grammar → Sets → ℕ → List State → Bool
unfolding each_of entry_settled
state_settled g sets s least = each_of (entry_settled g sets least s) (get_or least s [])

abbrev pub state_least : List ℕ → ℕ → ℕ → List ℕ → List State
state_least bytes s count work = settle_state (records bytes) (first_sets (records bytes)) s (least_of count work)

abbrev pub is_state_settled : List ℕ → ℕ → ℕ → List ℕ → Bool
is_state_settled bytes s count work = state_settled (records bytes) (first_sets (records bytes)) s (least_of count work)

-- ---- every entry of every state has
abbrev pub round_least : List ℕ → ℕ → List ℕ → List State
round_least bytes count work = least_round (records bytes) (first_sets (records bytes)) count (least_of count work)

abbrev pub is_round_settled : List ℕ → ℕ → List ℕ → Bool
is_round_settled bytes count work = least_settled (records bytes) (first_sets (records bytes)) count (least_of count work)
