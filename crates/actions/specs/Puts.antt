-- The actions of a state in the order in which they are put into their area, and what putting them promises.
use Rattle.std.specs.Prelude.{ℕ, ◌+◌, ◌≤◌, ◌<◌, ◌≡◌, Bool, true, false, ◌&&◌, ◌||◌, List, [], ◌∷◌, ◌++◌, map, length, get_or, Option, Some, None}
use Rattle.base.specs.Pick.{pick}
use Rattle.base.specs.Lists.{keep}
use Rattle.rules.specs.Limits.{max_columns}
use Rattle.rules.specs.Records.{Grammar, records}
use Rattle.rules.specs.Grammar.{at_end}
use Rattle.rules.specs.States.{Entry, State, reductions, shifts}
use Rattle.rules.specs.Lanes.{Action, shift, reduce, shift_conflicts, reduce_conflicts, actions_at}
use Rattle.room.specs.Areas.{Room, with_actions}
use Rattle.states.specs.StatesIn.{entry_in, run_in, state_in}
use Rattle.conflicts.specs.Counts.{is_shifted}
use Rattle.lane_table.specs.Actions.{actions_in, ActionFits}
use Rattle.actions.specs.declared.put.Reductions.{Reductions}
use Rattle.actions.specs.declared.put.Reductions.TheVariants.{Conflicting, All}

-- how many actions there can be: a state has 62 shifts and 2,048 reductions at most
abbrev pub max_actions : ℕ
max_actions = 2110

-- ---- which actions are put
-- the state shifts terminal t, and a reduction has it in its set
unfoldable pub is_shift_put : Grammar → State → ℕ → Bool
is_shift_put g state t = is_shifted g state t && shift_conflicts (reductions g state) t

unfoldable pub shift_put : Grammar → State → ℕ → List Action
unfolding is_shift_put
shift_put g state t = pick (is_shift_put g state t) (shift t ∷ []) []

unfoldable pub shifts_put : Grammar → State → List Action
shifts_put g state = map shift (keep (shift_conflicts (reductions g state)) (shifts g state))

-- all reductions are put, or those that are in a conflict
abbrev pub is_all : Reductions → Bool
is_all Conflicting = false
is_all All = true

-- an entry of the state is a reduction, and in a conflict if not all are put
unfoldable pub is_put : Grammar → Bool → State → Entry → Bool
is_put g all state e = at_end g e.item && (all || reduce_conflicts (shifts g state) (reductions g state) e)

unfoldable pub reduction_put : Grammar → Bool → State → Entry → List Action
unfolding is_put
reduction_put g all state e = pick (is_put g all state e) (reduce e.item ∷ []) []

-- of those entries of the state
unfoldable pub reductions_put : Grammar → Bool → State → List Entry → List Action
unfolding is_put
reductions_put g all state es = map (λ e. reduce e.item) (keep (is_put g all state) es)

-- ---- the actions from one column up to another
-- each speaks of what is there
abbrev pub Fitting : List ℕ → ℕ → Room → Type 0
Fitting bytes c r = (k : ℕ) → k < c → ActionFits bytes (get_or r.actions k 0)

-- the actions of the list were put from column c on, and d is the column behind them; those past the last column are only counted
pub record Added (bytes : List ℕ) (list : List Action) (c d : ℕ) (v q : Room) : Type 0 where
  pub others : with_actions [] q ≡ with_actions [] v
  pub count : d ≡ c + length list
  pub are : d ≤ max_columns → actions_in q d ≡ actions_in v c ++ list
  pub fit : d ≤ max_columns → Fitting bytes c v → Fitting bytes d q
  pub behind : (k : ℕ) → d ≤ k → get_or q.actions k 0 ≡ get_or v.actions k 0

-- those of the state whose entries lie from one place up to another: a shift, all shifts, a reduction, all reductions, and all
abbrev pub ShiftAdded : List ℕ → ℕ → ℕ → ℕ → ℕ → ℕ → Room → Room → Type 0
ShiftAdded bytes first end t c d v q = Added bytes (shift_put (records bytes) (run_in v first end) t) c d v q

abbrev pub ShiftsAdded : List ℕ → ℕ → ℕ → ℕ → Room → Room → Type 0
ShiftsAdded bytes first end d v q = Added bytes (shifts_put (records bytes) (run_in v first end)) 0 d v q

abbrev pub ReductionAdded : List ℕ → Bool → ℕ → ℕ → ℕ → ℕ → ℕ → Room → Room → Type 0
ReductionAdded bytes all first end k c d v q = Added bytes (reduction_put (records bytes) all (run_in v first end) (entry_in v k)) c d v q

abbrev pub ReductionsAdded : List ℕ → Bool → ℕ → ℕ → ℕ → ℕ → Room → Room → Type 0
ReductionsAdded bytes all first end c d v q = Added bytes (reductions_put (records bytes) all (run_in v first end) (run_in v first end)) c d v q

abbrev pub EntriesAdded : List ℕ → ℕ → ℕ → ℕ → Room → Room → Type 0
EntriesAdded bytes first end d v q = Added bytes (actions_at (records bytes) (run_in v first end)) 0 d v q

-- ---- the promise
-- the actions lie in the first c columns, and what is behind them is as it was
pub record InColumns (bytes : List ℕ) (actions : List Action) (c : ℕ) (v q : Room) : Type 0 where
  pub few : c ≤ max_columns
  pub count : c ≡ length actions
  pub are : actions_in q c ≡ actions
  pub fit : Fitting bytes c q
  pub behind : (k : ℕ) → c ≤ k → get_or q.actions k 0 ≡ get_or v.actions k 0

abbrev pub PutInto : List ℕ → List Action → Option ℕ → Room → Room → Type 0
PutInto bytes actions (Some c) v q = InColumns bytes actions c v q
PutInto bytes actions None v q = max_columns < length actions

-- the actions of state s were put into their area, and nothing else changed
pub record ActionsPut (bytes : List ℕ) (s : ℕ) (v : Room) (r : Option ℕ) (q : Room) : Type 0 where
  pub put : PutInto bytes (actions_at (records bytes) (state_in v s)) r v q
  pub others : with_actions [] q ≡ with_actions [] v
