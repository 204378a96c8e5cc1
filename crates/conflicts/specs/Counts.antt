-- The conflict count in the order in which the code counts: entry by entry, each reduction against the terminals that its state shifts and
-- against the reductions behind it. That this is the count of document 01 is proved in proofs/Counts.antt.
use Rattle.std.specs.Prelude.{ℕ, ◌+◌, Bool, ◌&&◌, not, List, [], ◌∷◌, length}
use Rattle.base.specs.Pick.{pick}
use Rattle.base.specs.Lists.{keep, some_of}
use Rattle.rules.specs.Records.{Grammar, records}
use Rattle.rules.specs.Tokens.{TokenSet, has, disjoint}
use Rattle.rules.specs.Grammar.{terminal, at_end, is_before}
use Rattle.rules.specs.States.{Entry, State, reductions, shifts, meeting}
use Rattle.room.specs.Areas.{Room, view}
use Rattle.room.specs.Bounds.{LongEnough}
use Rattle.states.specs.StatesIn.{entry_in, run_in, PlacedRun}

-- ---- what is asked
-- the entries from one place of the room up to another can be read, and their items in the bytes of the grammar
abbrev pub Readable : List ℕ → List ℕ → ℕ → ℕ → Type 0
Readable bytes work first end = LongEnough work × PlacedRun (length (records bytes)) (view work) first end

-- ---- what is counted
-- an entry of the state stands before terminal t
unfoldable pub is_shifted : Grammar → State → ℕ → Bool
unfolding some_of is_before
is_shifted g state t = some_of (λ e. is_before g (terminal t) e.item) state

-- terminal t is shifted, and in the set
unfoldable pub is_held : Grammar → State → TokenSet → ℕ → Bool
unfolding is_shifted has
is_held g state s t = is_shifted g state t && has s t

-- the conflicts of a reduction's set with shifts
unfoldable pub held_shifts : Grammar → State → TokenSet → ℕ
unfolding keep has shifts
held_shifts g state s = length (keep (has s) (shifts g state))

-- an entry is a reduction, and the set meets its own
unfoldable pub meets_reduction : Grammar → TokenSet → Entry → Bool
unfolding at_end disjoint
meets_reduction g s e = at_end g e.item && not (disjoint s e.set)

-- the conflicts of an entry with shifts and with the entries behind it; none if it is no reduction
unfoldable pub conflicts_of : Grammar → State → Entry → List Entry → ℕ
unfolding at_end held_shifts meeting reductions
conflicts_of g state e behind = pick (at_end g e.item) (held_shifts g state e.set + meeting e.set (reductions g behind)) 0

-- those of all of the entries, which are the last of the state
unfoldable pub conflicts_from : Grammar → State → List Entry → ℕ
unfolding conflicts_of
conflicts_from g state [] = 0
conflicts_from g state (e ∷ es) = conflicts_of g state e es + conflicts_from g state es

-- ---- the same of the entries in the room, from one place up to another
abbrev pub is_shifted_in : Grammar → Room → ℕ → ℕ → ℕ → Bool
is_shifted_in g r first end = is_shifted g (run_in r first end)

abbrev pub is_held_in : Grammar → Room → ℕ → ℕ → ℕ → ℕ → Bool
is_held_in g r first end k = is_held g (run_in r first end) (entry_in r k).set

abbrev pub held_shifts_in : Grammar → Room → ℕ → ℕ → ℕ → ℕ
held_shifts_in g r first end k = held_shifts g (run_in r first end) (entry_in r k).set

abbrev pub meets_in : Grammar → Room → ℕ → ℕ → Bool
meets_in g r k j = meets_reduction g (entry_in r k).set (entry_in r j)

abbrev pub meeting_in : Grammar → Room → ℕ → ℕ → ℕ
meeting_in g r k end = meeting (entry_in r k).set (reductions g (run_in r (k + 1) end))

abbrev pub conflicts_in : Grammar → Room → ℕ → ℕ → ℕ → ℕ
conflicts_in g r first end k = conflicts_of g (run_in r first end) (entry_in r k) (run_in r (k + 1) end)

-- ---- how many there can be: a reduction has 62 shifts and 2,048 reductions to be in conflict with, and a state has 2,048 entries
abbrev pub max_of_entry : ℕ
max_of_entry = 2110

abbrev pub max_of_state : ℕ
max_of_state = 4321280
