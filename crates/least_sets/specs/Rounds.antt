-- The least sets in the room at the beginning, after the rounds, and in the end.
use Rattle.std.specs.Prelude.{ℕ, ◌+◌, ◌*◌, List}
use Rattle.base.specs.Loops.{until}
use Rattle.rules.specs.Records.{records}
use Rattle.rules.specs.First.{first_sets}
use Rattle.rules.specs.States.{State}
use Rattle.rules.specs.FinalCheck.{least_settled, least_round, least_begun, least_sets}
use Rattle.room.specs.Areas.{view}
use Rattle.states.specs.StatesIn.{first_of, states_in}
use Rattle.least_steps.specs.Least.{least_of}

-- Eof for the start item of state 0, nothing for any other entry
abbrev pub begun_least : List ℕ → ℕ → List ℕ → List State
begun_least bytes count work = least_begun (records bytes) (states_in (view work) count)

-- rounds until nothing is lacking, as many as there are pairs of entry and token
abbrev pub rounds_least : List ℕ → ℕ → ℕ → List ℕ → List State
rounds_least bytes n count work =
    until (least_settled (records bytes) (first_sets (records bytes)) count) (least_round (records bytes) (first_sets (records bytes)) count) (first_of (view work) count * (n + 1)) (least_of count work)

-- those of the states, from the beginning to the end
abbrev pub found_least : List ℕ → ℕ → List ℕ → List State
found_least bytes count work = least_sets (records bytes) (first_sets (records bytes)) (states_in (view work) count)
