-- A trace with the fuel that `trace_action` gives it: a call more than there are pairs of state and item. Each half is its own step over
-- again (proofs/Whole.antt): so a function that calls itself without fuel is compared with it step by step.
use Rattle.std.specs.Prelude.{ℕ, suc, ◌-◌, ◌*◌, List, map, length, replicate}
use Rattle.std.proofs.Math.Bool.{true, false}
use Rattle.base.specs.Lists.{sum}
use Rattle.rules.specs.Records.{Grammar}
use Rattle.rules.specs.Grammar.{at_start}
use Rattle.rules.specs.First.{Sets}
use Rattle.rules.specs.States.{State}
use Rattle.rules.specs.Lanes.{LaneTable, Trace, on_table, add_successor, enter, tokens_past, empty_past, un_shift, un_close}
use Rattle.sets.specs.Size.{size}

-- how many pairs of one of the states and an item are not visited yet
unfoldable pub pairs_left : Grammar → ℕ → Trace → ℕ
pairs_left g count trace = count * length g - sum (map (size (length g)) trace.visited)

module _ (g : Grammar) (sets : Sets) (states : List State) (c : ℕ) where
  -- the dot of item i is past 0; it is 0
  unfoldable pub un_shifted : ℕ → ℕ → Trace → Trace
  un_shifted s i trace = un_shift g sets states (suc (length states * length g)) c s i trace

  unfoldable pub un_closed : ℕ → ℕ → Trace → Trace
  un_closed s i trace = un_close g sets states (suc (length states * length g)) c s i trace

  -- the one or the other
  unfoldable pub gone_back : ℕ → ℕ → Trace → Trace
  unfolding un_shifted un_closed
  gone_back s i trace = elim (at_start g i) [ true ↦ un_closed s i trace | false ↦ un_shifted s i trace ]

  -- what un-shift does at a predecessor p, and un-close at an item j before the nonterminal
  unfoldable pub over_predecessor : ℕ → ℕ → ℕ → Trace → Trace
  unfolding gone_back add_successor
  over_predecessor s i p trace = gone_back p (i - 1) (on_table (add_successor p s) trace)

  unfoldable pub over_item : ℕ → ℕ → Trace → Trace
  unfolding gone_back enter tokens_past empty_past
  over_item s j trace = elim (empty_past g sets j) [
    | true ↦ gone_back s j (on_table (enter s c (tokens_past g sets j)) trace)
    | false ↦ on_table (enter s c (tokens_past g sets j)) trace
  ]

-- ---- the trace of the reduction by item i, which begins with an empty set entered, by that fuel
module _ (g : Grammar) (sets : Sets) (states : List State) (s c i : ℕ) (table : LaneTable) where
  abbrev pub trace_begun : Trace
  trace_begun = record { table = enter s c 0 table; visited = replicate (length states) 0 }

  abbrev pub traced_by : ℕ → Trace
  traced_by fuel = elim (at_start g i) [ true ↦ un_close g sets states fuel c s i trace_begun | false ↦ un_shift g sets states fuel c s i trace_begun ]
