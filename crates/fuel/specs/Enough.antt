-- The fuel of every call is enough, on one page: with any larger fuel it gives the same. For every coded grammar, and for the collections
-- and states that the construction meets. Calls.antt has the calls with their fuel as a parameter, OnTheWay.antt what is met;
-- proofs/Enough.antt proves it for all limits that allow a state.
use Rattle.std.specs.Prelude.{ℕ, ◌+◌, ◌*◌, ◌<◌, ◌≤◌, ◌≡◌, List, [], length, get_or}
use Rattle.base.specs.Among.{Among}
use Rattle.rules.specs.Limits.{Limits}
use Rattle.rules.specs.Records.{Grammar}
use Rattle.rules.specs.Tokens.{TokenSet, eof, all}
use Rattle.rules.specs.Grammar.{terminal_count, nonterminal_count, productive}
use Rattle.rules.specs.First.{first1, first_sets}
use Rattle.rules.specs.States.{State, done, Follow, closure_sets, Collection, states_from, item_count}
use Rattle.rules.specs.Lanes.{Action, reduce, actions_at, LaneTable, trace_action, lane_table}
use Rattle.rules.specs.Merge.{merge_rows, resolve_all}
use Rattle.rules.specs.FinalCheck.{least_sets}
use Rattle.rules.specs.Run.{Table, run}
use Rattle.fuel.specs.Calls.{productive_by, first_sets_by, closure_sets_by, least_sets_by, states_by, visits_by, merge_rows_by, trace_by, run_by}
use Rattle.fuel.specs.OnTheWay.{CollectionMet, StatesMet}

-- the call gives what any fuel from its own on gives
abbrev pub EnoughFrom : {A : Type 0} → ℕ → (ℕ → A) → A → Type 0
EnoughFrom own by answer = (fuel : ℕ) → own ≤ fuel → by fuel ≡ answer

pub record Enough (l : Limits) (g : Grammar) : Type 1 where
  -- the rounds of refusal 8, of FIRST, and of the least sets, for any states
  pub collected : EnoughFrom (nonterminal_count g) (productive_by g) (productive g)
  pub firsts : EnoughFrom (nonterminal_count g * (terminal_count g + 1)) (first_sets_by g) (first_sets g)
  pub leasts : (states : List State) → EnoughFrom (item_count states * (terminal_count g + 1)) (λ fuel. least_sets_by g fuel states) (least_sets g (first_sets g) states)
  -- the states of a collection, and in each turn the rounds of a closure, in either mode
  pub states : (follow : Follow) (s : TokenSet) → EnoughFrom (l.states + 1) (λ fuel. states_by l g fuel follow s) (states_from l g follow s)
  pub canonical_closures : (c : Collection) → CollectionMet l g (first1 (terminal_count g) (first_sets g)) (eof (terminal_count g)) c
      → let kernel : State = get_or c.kernels (length c.states) [] in
      EnoughFrom (nonterminal_count g * (terminal_count g + 1)) (λ fuel. closure_sets_by g fuel (first1 (terminal_count g) (first_sets g)) kernel) (closure_sets g (first1 (terminal_count g) (first_sets g)) kernel)
  pub lr0_closures : (c : Collection) → CollectionMet l g (λ xs s. s) (all (terminal_count g)) c
      → let kernel : State = get_or c.kernels (length c.states) [] in
      EnoughFrom (nonterminal_count g * (terminal_count g + 1)) (λ fuel. closure_sets_by g fuel (λ xs s. s) kernel) (closure_sets g (λ xs s. s) kernel)
  -- the visits of lane mode, and in the visit of state s its traces and walks
  pub visits : (states : List State) → StatesMet l g 0 states → EnoughFrom (l.states + 1) (λ fuel. visits_by l g fuel states) (resolve_all l g (done states))
  pub traces : (s : ℕ) (states : List State) → StatesMet l g s states → s < length states → (c i : ℕ) → Among (reduce i) (actions_at g (get_or states s [])) → (table : LaneTable)
      → EnoughFrom (length states * length g + 1) (trace_by g states s c i table) (trace_action g (first_sets g) states s c (reduce i) table)
  pub walks : (s : ℕ) (states : List State) → StatesMet l g s states → s < length states → (actions : List Action)
      → let table : LaneTable = lane_table g (first_sets g) states s actions in
      EnoughFrom (l.states + 1) (λ fuel. merge_rows_by l g fuel states s actions table) (merge_rows l g states s actions table)
  -- the run of the driver on any table
  pub runs : {S : Type 0} (table : Table S) (tokens : List ℕ) (limit : ℕ) (stack : List S) (list : List ℕ)
      → EnoughFrom (limit + 1) (run_by table g tokens limit stack list) (run table g tokens limit stack list)
