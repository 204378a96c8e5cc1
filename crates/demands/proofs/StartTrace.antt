-- The column of production 0's reduction has no token but Eof, in any lane table: the trace goes back over production 0 to its left side,
-- where the start enters Eof, and no item stands before the start.
use Prim.Native.Nat.{ℕ, zero, suc, ◌+◌, ◌-◌, ◌*◌, ◌<◌}
use mathlib.Core.Path.{◌≡◌, refl, sym, ◌∙◌}
use mathlib.Core.Bool.{Bool, true, false, true≢false}
use mathlib.Core.List.{List, [], ◌∷◌, map, head-eq_of_cons-eq}
use native.Mathlib.Omega.{arith}
use native.Mathlib.Decide.{ℕ_discrete}
use lib.ListN.{length, get_or, replicate}
use lib.Dec.{eqb}
use borrow.Author.Tests.{eq-eqb}
use Rattle.base.specs.Among.{Among}
use Rattle.base.specs.Lists.{fold_over}
use Rattle.base.specs.Pick.{pick}
use Rattle.base.proofs.Lists.{fold_keeps, keep_among, among_keep, up_to_among_lem}
use Rattle.rules.specs.Limits.{Limits}
use Rattle.rules.specs.Records.{Grammar, at, is_left_side}
use Rattle.rules.specs.Tokens.{single, eof}
use Rattle.rules.specs.Grammar.{nonterminal, symbol_of, at_start, at_end, is_before, symbols_behind, left_sides, start, terminal_count}
use Rattle.rules.specs.First.{Sets}
use Rattle.rules.specs.States.{Entry, State}
use Rattle.rules.specs.Lanes.{Action, shift, reduce, Row, LaneTable, no_row, row_of, enter, add_successor, Trace, was_visited, visit, on_table, predecessors, items_before, empty_past, tokens_past, enter_start, un_shift, un_close, trace_action, trace_actions, lane_table}
use Rattle.rules.proofs.Laws.{not_at_end_within}
use Rattle.sets.proofs.Laws.{has_eof}
use Rattle.knuth.specs.Coded.{Checked, NonterminalsLeft}
use Rattle.knuth.specs.Rules.{Rule}
use Rattle.knuth.proofs.Coded.{checked_left}
use Rattle.knuth.proofs.Dots.{before_behind, not_at_end_behind, before_not_at_end}
use Rattle.knuth.proofs.Checked.{names_start_first, same_production}
use Rattle.knuth.proofs.Productions.{rule_of_left_side, nonterminal_record}
use Rattle.traces.proofs.Trace.{Kept, both_keep}
use Rattle.runs.proofs.ProductionNumbers.{first_record, zero_has_start}
use Rattle.demands.proofs.EofColumns.{at_copies, none_on_eof, ColumnOnEof, RowsOnEof, empty_on_eof, enter_on_eof, successor_on_eof}

-- item i is one of production 0
abbrev pub Zeroth : Grammar → ℕ → Type 0
Zeroth g i = ((at g i).production ≡ 0) × (i < length g)

module _ (l : Limits) (g : Grammar) (checked : Checked l g) (a_record : 0 < length g) where
  -- ---- production 0
  -- it begins with the first record
  zeroth_first : (i : ℕ) → Zeroth g i → at_start g i ≡ true → i ≡ 0
  unfolding left_sides at_start NonterminalsLeft
  zeroth_first i (p, b) e =
      let among : Among i (left_sides g) = among_keep (at_start g) ((up_to_among_lem i (length g)).1 b) e in
      let rule : Rule g 0 (at g i).symbol (symbols_behind g i) = rw p at (rule_of_left_side g i among) in
      names_start_first g i (checked_left l g checked i b e) (zero_has_start l g checked rule) (checked.start_once i b)

  zeroth_back : (i : ℕ) → Zeroth g i → at_start g i ≡ false → Zeroth g (i - 1)
  unfolding at_start at_end is_left_side
  zeroth_back zero (p, b) e = absurd (true≢false (sym (eq-eqb (at g 0).position 0 (first_record l g checked a_record).1) ∙ e))
  zeroth_back (suc i) (p, b) e =
      let q : suc i ≡ i + 1 = omega arith in
      let k : suc i - 1 ≡ i = omega arith in
      rw k (sym (same_production l g checked i (rw q at e)) ∙ (rw q at p), omega arith)

  -- no item stands before the start
  none_before_start : (j : ℕ) → is_before g (nonterminal (start g)) j ≡ true → ⊥
  none_before_start j b =
      let end : at_end g j ≡ false = before_not_at_end g (nonterminal (start g)) j b in
      let k : j + 1 < length g = not_at_end_within g j end in
      let (nt, q) = nonterminal_record (at g (j + 1)) (start g) (head-eq_of_cons-eq (sym (not_at_end_behind g j end) ∙ before_behind g j b)) in
      let z : j + 1 ≡ 0 = names_start_first g (j + 1) nt q (checked.start_once (j + 1) k) in
      omega arith

  module _ (sets : Sets) (states : List State) (c : ℕ) where
    abbrev n : ℕ
    n = terminal_count g

    abbrev TraceOnEof : Trace → Type 0
    TraceOnEof trace = RowsOnEof n c trace.table

    -- ---- a trace of another column
    other_kept : (d : ℕ) → (d ≡ c → ⊥) → Kept g sets states d TraceOnEof
    unfolding visit
    other_kept d ne = record {
      visiting = λ s i trace b h. h;
      linking = λ p s trace h. successor_on_eof n c p s trace.table h;
      entering = λ s tokens trace h. enter_on_eof n c s d tokens trace.table (λ e. absurd (ne e)) h;
    }

    -- ---- a trace of this column: back over production 0, and at its left side
    record BothOnEof (fuel : ℕ) : Type 0 where
      shifting : (s i : ℕ) (trace : Trace) → Zeroth g i → at_start g i ≡ false → TraceOnEof trace → TraceOnEof (un_shift g sets states fuel c s i trace)
      closing : (s : ℕ) (trace : Trace) → TraceOnEof trace → TraceOnEof (un_close g sets states fuel c s 0 trace)

    enter_start_on_eof : (s : ℕ) (trace : Trace) → TraceOnEof trace → TraceOnEof (enter_start g s c 0 trace)
    unfolding enter_start
    enter_start_on_eof s trace h = by_test (eqb (at g 0).symbol (start g))
      where
        by_test : (b : Bool) → TraceOnEof (pick b (on_table (enter s c (eof n)) trace) trace)
        by_test true = enter_on_eof n c s c (eof n) trace.table (λ _ t. (has_eof n t).0) h
        by_test false = h

    module _ (fuel : ℕ) (both : BothOnEof fuel) where
      predecessor_on_eof : (s i p : ℕ) (trace : Trace) (b : Bool) → at_start g (i - 1) ≡ b → Zeroth g (i - 1) → TraceOnEof trace
          → TraceOnEof (elim b [
            | true ↦ un_close g sets states fuel c p (i - 1) (on_table (add_successor p s) trace)
            | false ↦ un_shift g sets states fuel c p (i - 1) (on_table (add_successor p s) trace)
          ])
      predecessor_on_eof s i p trace true e z h =
          let q : i - 1 ≡ 0 = zeroth_first (i - 1) z e in
          rw q (both.closing p (on_table (add_successor p s) trace) (successor_on_eof n c p s trace.table h))
      predecessor_on_eof s i p trace false e z h =
          both.shifting p (i - 1) (on_table (add_successor p s) trace) z e (successor_on_eof n c p s trace.table h)

      shift_on_eof : (s i : ℕ) (trace : Trace) (b : Bool) → Zeroth g (i - 1) → TraceOnEof trace
          → TraceOnEof (elim b [
            | true ↦ trace
            | false ↦
                fold_over
                (λ p trace. elim (at_start g (i - 1)) [
                  | true ↦ un_close g sets states fuel c p (i - 1) (on_table (add_successor p s) trace)
                  | false ↦ un_shift g sets states fuel c p (i - 1) (on_table (add_successor p s) trace)
                ])
                (predecessors g states s (symbol_of (at g i)))
                (visit s i trace)
          ])
      unfolding visit
      shift_on_eof s i trace true z h = h
      shift_on_eof s i trace false z h =
          fold_keeps _ TraceOnEof (predecessors g states s (symbol_of (at g i)))
          (λ p among trace k. predecessor_on_eof s i p trace (at_start g (i - 1)) refl z k) (visit s i trace) h

      close_on_eof : (s : ℕ) (trace : Trace) (b : Bool) → TraceOnEof trace
          → TraceOnEof (elim b [
            | true ↦ trace
            | false ↦
                fold_over
                (λ j trace. elim (empty_past g sets j) [
                  | true ↦ elim (at_start g j) [
                    | true ↦ un_close g sets states fuel c s j (on_table (enter s c (tokens_past g sets j)) trace)
                    | false ↦ un_shift g sets states fuel c s j (on_table (enter s c (tokens_past g sets j)) trace)
                  ]
                  | false ↦ on_table (enter s c (tokens_past g sets j)) trace
                ])
                (items_before g states s (at g 0).symbol)
                (enter_start g s c 0 (visit s 0 trace))
          ])
      unfolding visit items_before start
      close_on_eof s trace true h = h
      close_on_eof s trace false h =
          fold_keeps _ TraceOnEof (items_before g states s (at g 0).symbol) (λ j among trace k. absurd (none_before_start j (before j among)))
          (enter_start g s c 0 (visit s 0 trace)) (enter_start_on_eof s (visit s 0 trace) h)
        where
          before : (j : ℕ) → Among j (items_before g states s (start g)) → is_before g (nonterminal (start g)) j ≡ true
          before j among = (keep_among (λ i. is_before g (nonterminal (start g)) i) (map (λ (e : Entry). e.item) (get_or states s [])) among).1

    both_on_eof : (fuel : ℕ) → BothOnEof fuel
    unfolding un_shift
    both_on_eof zero = record { shifting = λ s i trace z e h. h; closing = λ s trace h. h }
    both_on_eof (suc fuel) = record {
      shifting = λ s i trace z e h. shift_on_eof fuel (both_on_eof fuel) s i trace (was_visited s i trace) (zeroth_back i z e) h;
      closing = λ s trace h. close_on_eof fuel (both_on_eof fuel) s trace (was_visited s 0 trace) h;
    }

    -- ---- the actions of a state, that of column c being a reduction by production 0
    module _ (s : ℕ) (within : s < length states) (i : ℕ) (zeroth : Zeroth g i) where
      -- a reduction's trace, by what both halves keep
      reduction_on_eof : (d j : ℕ) (table : LaneTable) → RowsOnEof n c table
          → ((fuel : ℕ) (trace : Trace) → TraceOnEof trace → at_start g j ≡ true → TraceOnEof (un_close g sets states fuel d s j trace))
          → ((fuel : ℕ) (trace : Trace) → TraceOnEof trace → at_start g j ≡ false → TraceOnEof (un_shift g sets states fuel d s j trace))
          → RowsOnEof n c (trace_action g sets states s d (reduce j) table)
      unfolding trace_action
      reduction_on_eof d j table h closing shifting = by_dot (at_start g j) refl
        where
          fuel : ℕ
          fuel = length states * length g + 1

          begun : Trace
          begun = record { table = enter s d 0 table; visited = replicate (length states) 0 }

          begun_on_eof : TraceOnEof begun
          begun_on_eof = enter_on_eof n c s d 0 table (λ _. none_on_eof n) h

          by_dot : (b : Bool) → at_start g j ≡ b
              → TraceOnEof (elim b [ true ↦ un_close g sets states fuel d s j begun | false ↦ un_shift g sets states fuel d s j begun ])
          by_dot true e = closing fuel begun begun_on_eof e
          by_dot false e = shifting fuel begun begun_on_eof e

      this_on_eof : (table : LaneTable) → RowsOnEof n c table → RowsOnEof n c (trace_action g sets states s c (reduce i) table)
      this_on_eof table h =
          reduction_on_eof c i table h (λ fuel trace k e. let z : i ≡ 0 = zeroth_first i zeroth e in rw z ((both_on_eof fuel).closing s trace k))
          (λ fuel trace k e. (both_on_eof fuel).shifting s i trace zeroth e k)

      other_on_eof : (d : ℕ) (a : Action) (table : LaneTable) → (d ≡ c → ⊥) → RowsOnEof n c table → RowsOnEof n c (trace_action g sets states s d a table)
      unfolding trace_action
      other_on_eof d (shift t) table ne h = enter_on_eof n c s d (single t) table (λ e. absurd (ne e)) h
      other_on_eof d (reduce j) table ne h =
          reduction_on_eof d j table h (λ fuel trace k _. (both_keep g sets states d TraceOnEof (other_kept d ne) fuel).closing s j trace within k)
          (λ fuel trace k _. (both_keep g sets states d TraceOnEof (other_kept d ne) fuel).shifting s j trace within k)

      action_on_eof : (d : ℕ) (a : Action) (table : LaneTable) → (d ≡ c → a ≡ reduce i) → RowsOnEof n c table
          → RowsOnEof n c (trace_action g sets states s d a table)
      action_on_eof d a table is h = by_column (ℕ_discrete d c)
        where
          by_column : Dec (d ≡ c) → RowsOnEof n c (trace_action g sets states s d a table)
          by_column (yes e) = let q : a ≡ reduce i = is e in rw (e, is e) (this_on_eof table h)
          by_column (no ne) = other_on_eof d a table ne h

      -- the actions from column d on
      actions_on_eof : (d : ℕ) (actions : List Action) (table : LaneTable) → ((k : ℕ) → d + k ≡ c → k < length actions → get_or actions k (shift 0) ≡ reduce i)
          → RowsOnEof n c table → RowsOnEof n c (trace_actions g sets states s d actions table)
      unfolding trace_actions
      actions_on_eof d [] table is h = h
      actions_on_eof d (a ∷ actions) table is h =
          actions_on_eof (suc d) actions (trace_action g sets states s d a table) (λ k e b. is (suc k) (omega arith) (omega arith))
          (action_on_eof d a table (λ e. is 0 (omega arith) (omega arith)) h)

      pub lane_table_on_eof : (actions : List Action) → get_or actions c (shift 0) ≡ reduce i → RowsOnEof n c (lane_table g sets states s actions)
      unfolding lane_table row_of
      lane_table_on_eof actions is =
          actions_on_eof 0 actions _ (λ k e b. let q : k ≡ c = omega arith in rw q is)
          (at_copies (λ (row : Row). ColumnOnEof n c row.columns) (length states) _ no_row (empty_on_eof n c (length actions)) (empty_on_eof n c 0))
