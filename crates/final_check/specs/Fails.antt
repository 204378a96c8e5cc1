-- What fails, in the order in which the code looks for it in the room: state by state, entry by entry, token by token.
use Rattle.std.specs.Prelude.{ℕ, ◌<◌, Bool, not, ◌&&◌, List, length, eqb, nat_lt, Option, Some, None}
use Rattle.base.specs.Pick.{pick}
use Rattle.base.specs.Loops.{first_from}
use Rattle.rules.specs.Records.{Grammar, records}
use Rattle.rules.specs.declared.StateIndex.{StateIndex}
use Rattle.rules.specs.Tokens.{within}
use Rattle.rules.specs.Grammar.{at_end}
use Rattle.rules.specs.First.{first_sets}
use Rattle.rules.specs.States.{conflicts_at}
use Rattle.rules.specs.FinalCheck.{fails_at, first_failing}
use Rattle.room.specs.Areas.{Room, view}
use Rattle.states.specs.StatesIn.{entry_in, state_in, states_in}
use Rattle.least_steps.specs.Least.{least_entry, least_of}

-- ---- what is asked: the item of the entry at place k is one of the records
abbrev pub Recorded : List ℕ → List ℕ → ℕ → Type 0
Recorded bytes work k = (entry_in (view work) k).item < length (records bytes)

-- ---- what fails
-- the entry at place k is a reduction, and lacks a token of its least set
unfoldable pub lacks_in : Grammar → Room → ℕ → Bool
unfolding at_end within
lacks_in g r k = at_end g (entry_in r k).item && not (within (least_entry r k).set (entry_in r k).set)

abbrev pub entry_lacks : List ℕ → List ℕ → ℕ → Bool
entry_lacks bytes work k = lacks_in (records bytes) (view work) k

-- state s has a conflict
abbrev pub has_conflict : List ℕ → List ℕ → ℕ → Bool
has_conflict bytes work s = not (eqb (conflicts_at (records bytes) (state_in (view work) s)) 0)

-- and the state fails, by the least sets that the room has
abbrev pub fails_in : List ℕ → ℕ → List ℕ → ℕ → Bool
fails_in bytes count work = fails_at (records bytes) (states_in (view work) count) (least_of count work)

-- ---- the lowest state that fails, if one does, by the least sets that the room has, and by those of the states
abbrev pub state_below : ℕ → ℕ → Option StateIndex
state_below count s = pick (nat_lt s count) (Some (record { 0 = s })) None

abbrev pub lowest_failing : List ℕ → ℕ → List ℕ → Option StateIndex
lowest_failing bytes count work = state_below count (first_from (fails_in bytes count work) count 0)

abbrev pub failing : List ℕ → ℕ → List ℕ → Option StateIndex
failing bytes count work = state_below count (first_failing (records bytes) (first_sets (records bytes)) (states_in (view work) count))
