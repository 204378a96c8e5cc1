-- Every call of `rules` that gives fuel, with the fuel as a parameter.
use Rattle.std.specs.Prelude.{ℕ, List, length, set, replicate, eqb}
use Rattle.base.specs.Pick.{pick}
use Rattle.base.specs.Loops.{until}
use Rattle.base.specs.Lists.{fold_over}
use Rattle.rules.specs.Limits.{Limits}
use Rattle.rules.specs.Records.{Grammar}
use Rattle.rules.specs.Tokens.{NumberSet, TokenSet}
use Rattle.rules.specs.Grammar.{left_sides, terminal_count, nonterminal_count, collect, all_collected}
use Rattle.rules.specs.First.{Sets, first_sets, add_first, first_settled}
use Rattle.rules.specs.States.{State, Outcome, refused, each_in_turn, Follow, close_kernel, close_left_sides, closure_settled, expand_all, conflict_count}
use Rattle.rules.specs.Lanes.{Action, LaneTable, rows_disjoint, beachheads}
use Rattle.rules.specs.Merge.{walk, merge_begun, merged, resolve_from}
use Rattle.rules.specs.FinalCheck.{least_settled, least_round, least_begun}
use Rattle.rules.specs.Run.{Table, Standing, RunResult, answered, run_from}
use Rattle.rules.specs.declared.BuildRefusal.TheVariants.{Conflicts}
use Rattle.rules.specs.declared.RunEnd.TheVariants.{StackFull}
use Rattle.traces.specs.Whole.{traced_by}
use Rattle.fuel.specs.OnTheWay.{begun}

-- ---- rounds
module _ (g : Grammar) (fuel : ℕ) where
  -- `productive`
  abbrev pub productive_by : NumberSet
  productive_by = until (all_collected g) (fold_over (collect g) (left_sides g)) fuel 0

  -- `first_sets`
  abbrev pub first_sets_by : Sets
  first_sets_by = until (first_settled g (terminal_count g)) (fold_over (add_first g (terminal_count g)) (left_sides g)) fuel (replicate (nonterminal_count g) 0)

  -- `closure_sets`
  abbrev pub closure_sets_by : Follow → State → Sets
  closure_sets_by follow kernel = until (closure_settled g follow) (close_left_sides g follow) fuel (close_kernel g follow kernel (replicate (nonterminal_count g) 0))

  -- `least_sets`
  abbrev pub least_sets_by : List State → List State
  least_sets_by states = until (least_settled g (first_sets g) (length states)) (least_round g (first_sets g) (length states)) fuel (least_begun g states)

-- ---- turns and calls within calls
module _ (l : Limits) (g : Grammar) (fuel : ℕ) where
  -- `states_from`
  abbrev pub states_by : Follow → TokenSet → Outcome (List State)
  states_by follow s = expand_all l g follow fuel (begun s)

  -- `resolve_all`
  abbrev pub visits_by : List State → Outcome (List State)
  visits_by states = resolve_from l g (first_sets g) fuel 0 states

  -- `merge_rows`
  abbrev pub merge_rows_by : List State → ℕ → List Action → LaneTable → Outcome (List State)
  merge_rows_by states s actions table =
      pick (rows_disjoint table) (merged table actions s (each_in_turn (walk l g table fuel) (beachheads table) (merge_begun states))) (refused (Conflicts (conflict_count g states)))

-- `trace_action`, of the reduction by item i
abbrev pub trace_by : Grammar → List State → ℕ → ℕ → ℕ → LaneTable → ℕ → LaneTable
trace_by g states s c i table fuel = (traced_by g (first_sets g) states s c i table fuel).table

-- `run`
module _ {S : Type 0} (table : Table S) (g : Grammar) (tokens : List ℕ) (limit : ℕ) (stack : List S) (list : List ℕ) (fuel : ℕ) where
  abbrev pub run_by : RunResult S
  run_by =
      let opened : Standing S = record { stack = set stack 0 table.bottom; depth = 1; list = list; listed = 0; steps = 0; place = 0 } in
      let unopened : Standing S = record { stack = stack; depth = 0; list = list; listed = 0; steps = 0; place = 0 } in
      pick (eqb (length stack) 0) (answered StackFull unopened) (run_from table g tokens limit fuel opened)
