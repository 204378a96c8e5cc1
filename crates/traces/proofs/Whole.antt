-- The fuel of a trace disappears: with what its caller gives, a trace is its own step over again.
use Prim.Native.Nat.{ℕ, suc, ◌-◌, ◌*◌, ◌<◌}
use mathlib.Core.Path.{◌≡◌, refl, sym, ap, ◌∙◌}
use mathlib.Core.Bool.{Bool, true, false}
use mathlib.Core.List.{List}
use native.Mathlib.Omega.{arith}
use native.Mathlib.Numerals.{add-one}
use lib.ListN.{length}
use Rattle.base.specs.Lists.{fold_over}
use Rattle.rules.specs.Records.{Grammar, at}
use Rattle.rules.specs.Grammar.{symbol_of, at_start}
use Rattle.rules.specs.First.{Sets}
use Rattle.rules.specs.States.{State}
use Rattle.rules.specs.Lanes.{LaneTable, reduce, Trace, on_table, was_visited, visit, add_successor, enter, predecessors, items_before, enter_start, tokens_past, empty_past, un_shift, un_close, trace_action}
use Rattle.traces.specs.Recorded.{AllRecorded}
use Rattle.traces.specs.Whole.{un_shifted, un_closed, gone_back, over_predecessor, over_item, trace_begun, traced_by}
use Rattle.traces.proofs.Trace.{un_shifted_lem, un_closed_lem, un_shift_fuel_lem, un_close_fuel_lem}

module _ (g : Grammar) (sets : Sets) (states : List State) (c s i : ℕ) (trace : Trace) where
  abbrev pairs : ℕ
  pairs = length states * length g

  -- ---- a pair that was visited
  pub shift_seen : was_visited s i trace ≡ true → un_shifted g sets states c s i trace ≡ trace
  unfolding un_shifted un_shift
  shift_seen e = ap (λ (b : Bool). un_shifted_lem g sets states c pairs s i trace b) e

  pub close_seen : was_visited s i trace ≡ true → un_closed g sets states c s i trace ≡ trace
  unfolding un_closed un_shift
  close_seen e = ap (λ (b : Bool). un_closed_lem g sets states c pairs s i trace b) e

  -- ---- any other
  module _ (recorded : AllRecorded g states) (within : s < length states) (item : i < length g) (sized : length trace.visited ≡ length states) where
    shift_again : was_visited s i trace ≡ false
        → un_shift g sets states (suc (suc pairs)) c s i trace ≡ fold_over (over_predecessor g sets states c s i) (predecessors g states s (symbol_of (at g i))) (visit s i trace)
    unfolding un_shift over_predecessor gone_back un_shifted un_closed
    shift_again e = ap (λ (b : Bool). un_shifted_lem g sets states c (suc pairs) s i trace b) e

    pub shift_goes : was_visited s i trace ≡ false
        → un_shifted g sets states c s i trace ≡ fold_over (over_predecessor g sets states c s i) (predecessors g states s (symbol_of (at g i))) (visit s i trace)
    unfolding un_shifted
    shift_goes e = sym (un_shift_fuel_lem g sets states c recorded (suc pairs) s i trace (omega arith) within item sized) ∙ shift_again e

    close_again : was_visited s i trace ≡ false
        → un_close g sets states (suc (suc pairs)) c s i trace ≡ fold_over (over_item g sets states c s) (items_before g states s (at g i).symbol) (enter_start g s c i (visit s i trace))
    unfolding un_shift over_item gone_back un_shifted un_closed
    close_again e = ap (λ (b : Bool). un_closed_lem g sets states c (suc pairs) s i trace b) e

    pub close_goes : was_visited s i trace ≡ false
        → un_closed g sets states c s i trace ≡ fold_over (over_item g sets states c s) (items_before g states s (at g i).symbol) (enter_start g s c i (visit s i trace))
    unfolding un_closed
    close_goes e = sym (un_close_fuel_lem g sets states c recorded (suc pairs) s i trace (omega arith) within item sized) ∙ close_again e

-- ---- which way it goes back
module _ (g : Grammar) (sets : Sets) (states : List State) (c s i : ℕ) (trace : Trace) where
  abbrev either : Bool → Trace
  either b = elim b [ true ↦ un_closed g sets states c s i trace | false ↦ un_shifted g sets states c s i trace ]

  pub back_closed : at_start g i ≡ true → gone_back g sets states c s i trace ≡ un_closed g sets states c s i trace
  unfolding gone_back
  back_closed e = ap either e

  pub back_shifted : at_start g i ≡ false → gone_back g sets states c s i trace ≡ un_shifted g sets states c s i trace
  unfolding gone_back
  back_shifted e = ap either e

  -- from an item that it enters, and from a predecessor that it links
  abbrev entered : Trace
  entered = on_table (enter s c (tokens_past g sets i)) trace

  abbrev onward : Bool → Trace
  onward b = elim b [ true ↦ gone_back g sets states c s i entered | false ↦ entered ]

  pub item_goes : empty_past g sets i ≡ true → over_item g sets states c s i trace ≡ gone_back g sets states c s i entered
  unfolding over_item
  item_goes e = ap onward e

  pub item_stops : empty_past g sets i ≡ false → over_item g sets states c s i trace ≡ entered
  unfolding over_item
  item_stops e = ap onward e

  pub predecessor_goes : (p : ℕ) → over_predecessor g sets states c s i p trace ≡ gone_back g sets states c p (i - 1) (on_table (add_successor p s) trace)
  unfolding over_predecessor
  predecessor_goes p = refl

-- ---- the trace of a reduction
pub action_goes : (g : Grammar) (sets : Sets) (states : List State) (s c i : ℕ) (table : LaneTable)
    → trace_action g sets states s c (reduce i) table ≡ (gone_back g sets states c s i (trace_begun g sets states s c i table)).table
unfolding trace_action gone_back un_closed un_shifted
action_goes g sets states s c i table = ap (λ (fuel : ℕ). (traced_by g sets states s c i table fuel).table) (add-one (length states * length g))
