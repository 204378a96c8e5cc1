-- A lane table has a row for each state.
use Prim.Native.Nat.{ℕ, suc, ◌+◌, ◌*◌, ◌<◌}
use mathlib.Core.Path.{◌≡◌, ◌∙◌}
use mathlib.Core.Bool.{Bool, true, false}
use mathlib.Core.List.{List, [], ◌∷◌}
use lib.ListN.{length, length-set, length-replicate}
use Rattle.rules.specs.Records.{Grammar}
use Rattle.rules.specs.Tokens.{TokenSet, single}
use Rattle.rules.specs.Grammar.{at_start}
use Rattle.rules.specs.First.{Sets}
use Rattle.rules.specs.States.{State}
use Rattle.rules.specs.Lanes.{Action, shift, reduce, LaneTable, Trace, visit, add_successor, enter, un_shift, un_close, trace_action, trace_actions, lane_table}
use Rattle.traces.specs.Whole.{trace_begun}
use Rattle.traces.proofs.Trace.{Kept, both_keep}

enter_length : (s c : ℕ) (tokens : TokenSet) (table : LaneTable) → length (enter s c tokens table) ≡ length table
unfolding enter
enter_length s c tokens table = length-set table s _

successor_length : (s t : ℕ) (table : LaneTable) → length (add_successor s t table) ≡ length table
unfolding add_successor
successor_length s t table = length-set table s _

module _ (g : Grammar) (sets : Sets) (states : List State) (s : ℕ) (within : s < length states) where
  abbrev Rows : Trace → Type 0
  Rows trace = length trace.table ≡ length states

  rows_kept : (c : ℕ) → Kept g sets states c Rows
  unfolding visit
  rows_kept c = record {
    visiting = λ s i trace b h. h;
    linking = λ p s trace h. successor_length p s trace.table ∙ h;
    entering = λ s tokens trace h. enter_length s c tokens trace.table ∙ h;
  }

  action_rows : (c : ℕ) (a : Action) (table : LaneTable) → length table ≡ length states → length (trace_action g sets states s c a table) ≡ length states
  unfolding trace_action
  action_rows c (shift t) table h = enter_length s c (single t) table ∙ h
  action_rows c (reduce i) table h = by_dot (at_start g i)
    where
      fuel : ℕ
      fuel = length states * length g + 1

      begun : Trace
      begun = trace_begun g sets states s c i table

      rows : Rows begun
      rows = enter_length s c 0 table ∙ h

      by_dot : (b : Bool) → Rows (elim b [ true ↦ un_close g sets states fuel c s i begun | false ↦ un_shift g sets states fuel c s i begun ])
      by_dot true = (both_keep g sets states c Rows (rows_kept c) fuel).closing s i begun within rows
      by_dot false = (both_keep g sets states c Rows (rows_kept c) fuel).shifting s i begun within rows

  actions_rows : (c : ℕ) (actions : List Action) (table : LaneTable) → length table ≡ length states
      → length (trace_actions g sets states s c actions table) ≡ length states
  unfolding trace_actions
  actions_rows c [] table h = h
  actions_rows c (a ∷ actions) table h = actions_rows (suc c) actions (trace_action g sets states s c a table) (action_rows c a table h)

  pub lane_table_rows : (actions : List Action) → length (lane_table g sets states s actions) ≡ length states
  unfolding lane_table
  lane_table_rows actions = actions_rows 0 actions _ (length-replicate (length states) _)
