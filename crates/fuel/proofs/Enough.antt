-- The fuel of every call is enough, for every coded grammar: specs/Enough.antt is proved.
use Prim.Native.Nat.{ℕ, zero, suc, ◌+◌, ◌*◌, ◌^◌, ◌<◌, ◌≤◌}
use mathlib.Core.Path.{◌≡◌, refl, sym, ap, ◌∙◌}
use mathlib.Core.Bool.{Bool, true, false, ◌||◌, not}
use mathlib.Core.List.{List, []}
use native.Mathlib.Omega.{arith}
use native.Mathlib.Numerals.{add-one}
use lib.ListN.{length, get_or, set, replicate, length-replicate}
use lib.Dec.{eqb}
use Rattle.std.specs.Prelude.{Ok}
use Rattle.base.specs.Pick.{pick}
use Rattle.base.specs.Among.{Among}
use Rattle.base.specs.Lists.{up_to, fold_over}
use Rattle.base.proofs.Lists.{true_each, keep_among, up_to_among_lem}
use Rattle.base.proofs.Until.{until_enough}
use Rattle.rules.specs.Limits.{Limits, limits}
use Rattle.rules.specs.Records.{Grammar, at, records}
use Rattle.rules.specs.Tokens.{TokenSet, has, eof, all}
use Rattle.rules.specs.Grammar.{at_start, left_sides, terminal_count, nonterminal_count, side_derives, collect, all_collected, productive, grammar_answer}
use Rattle.rules.specs.First.{first1, add_first, first_settled, first_sets}
use Rattle.rules.specs.States.{State, Outcome, done, refused, Follow, close_kernel, close_left_sides, closure_settled, closure_sets, Collection, states_from, item_count, conflict_count}
use Rattle.rules.specs.Lanes.{Action, reduce, LaneTable, Trace, un_shift, un_close, trace_action, lane_table, rows_disjoint, beachheads}
use Rattle.rules.specs.Merge.{Merge, walk, merge_begun, merged, merge_rows, resolve_all}
use Rattle.rules.specs.FinalCheck.{least_settled, least_round, least_begun, least_sets}
use Rattle.rules.specs.Run.{Table, Standing, answered, run}
use Rattle.rules.specs.declared.BuildRefusal.TheVariants.{Conflicts}
use Rattle.rules.specs.declared.RunEnd.TheVariants.{StackFull}
use Rattle.sets.proofs.Laws.{single_below, all_below}
use Rattle.knuth.specs.Coded.{Checked}
use Rattle.knuth.proofs.Coded.{coded_is_checked, checked_left, coded_has_a_record}
use Rattle.knuth.proofs.Productions.{left_below}
use Rattle.knuth.proofs.FirstSettles.{first_sets_settled}
use Rattle.knuth.proofs.Closures.{FollowsNarrow, closure_settled_lem, lr0_follows_narrow, canonical_follows_narrow}
use Rattle.traces.proofs.Rows.{lane_table_rows}
use Rattle.traces.proofs.Trace.{at_recorded, un_shift_fuel_lem, un_close_fuel_lem}
use Rattle.traces.specs.Recorded.{AllRecorded}
use Rattle.traces.specs.Whole.{trace_begun}
use Rattle.walks.proofs.Outcomes.{holds_also, same_in_turn}
use Rattle.walks.proofs.Walk.{Fits, WalkedAtLeast, walk_keeps_walked, walk_fuel}
use Rattle.fuel.specs.Calls.{productive_by, first_sets_by, closure_sets_by, least_sets_by, states_by, visits_by, merge_rows_by, trace_by, run_by}
use Rattle.fuel.specs.OnTheWay.{begun, CollectionMet}
use Rattle.fuel.specs.Enough.{EnoughFrom, Enough}
use Rattle.fuel.proofs.Least.{least_settled_lem}
use Rattle.fuel.proofs.OnTheWay.{next_narrow, met_few, met_recorded, action_recorded}
use Rattle.fuel.proofs.Run.{run_fuel}
use Rattle.fuel.proofs.States.{expand_fuel}
use Rattle.fuel.proofs.Visits.{Few, resolve_fuel}

-- a fuel of one more than k
enough_next : {A : Type 0} (k : ℕ) (by : ℕ → A) (answer : A) → by (k + 1) ≡ answer → ((larger : ℕ) → k ≤ larger → by (suc larger) ≡ by (suc k)) → EnoughFrom (k + 1) by answer
enough_next k by answer own more zero h = absurd (omega arith)
enough_next k by answer own more (suc larger) h = more larger (omega arith) ∙ ap by (sym (add-one k)) ∙ own

-- ---- rounds
module _ (l : Limits) (g : Grammar) (fine : Checked l g) where
  abbrev n : ℕ
  n = terminal_count g

  abbrev m : ℕ
  m = nonterminal_count g

  -- every left side is collected
  all_collected_lem : all_collected g (productive g) ≡ true
  unfolding all_collected
  all_collected_lem = true_each (λ i. not (side_derives g (productive g) i) || has (productive g) (at g i).symbol) (left_sides g)
      (λ i among. either (side_derives g (productive g) i) _ (fine.collected (at g i).symbol (left_below g (checked_left l g fine) i among)))
    where
      either : (a b : Bool) → b ≡ true → (not a || b) ≡ true
      either true b e = e
      either false b e = refl

  productive_enough : EnoughFrom m (productive_by g) (productive g)
  unfolding productive
  productive_enough fuel h = until_enough (all_collected g) (fold_over (collect g) (left_sides g)) m fuel 0 h all_collected_lem

  first_enough : EnoughFrom (m * (n + 1)) (first_sets_by g) (first_sets g)
  unfolding first_sets
  first_enough fuel h =
      until_enough (first_settled g n) (fold_over (add_first g n) (left_sides g)) (m * (n + 1)) fuel (replicate m 0) h (first_sets_settled g (checked_left l g fine))

module _ (g : Grammar) where
  least_enough : (states : List State) → EnoughFrom (item_count states * (terminal_count g + 1)) (λ fuel. least_sets_by g fuel states) (least_sets g (first_sets g) states)
  unfolding least_sets
  least_enough states fuel h =
      until_enough (least_settled g (first_sets g) (length states)) (least_round g (first_sets g) (length states)) (item_count states * (terminal_count g + 1)) fuel (least_begun g states) h (least_settled_lem g states)

-- ---- the collection, and the closures of what it meets
module _ (l : Limits) (g : Grammar) where
  states_enough : 0 < l.states → (follow : Follow) (s : TokenSet) → EnoughFrom (l.states + 1) (λ fuel. states_by l g fuel follow s) (states_from l g follow s)
  unfolding states_from
  states_enough room follow s =
      enough_next l.states (λ fuel. states_by l g fuel follow s) (states_from l g follow s) refl
      (λ larger h. expand_fuel l g follow l.states larger (begun s) h (omega arith) (omega arith))

  closures_enough : (follow : Follow) → FollowsNarrow g follow → (s : TokenSet) → s < 2 ^ (terminal_count g + 1) → (c : Collection) → CollectionMet l g follow s c
      → let kernel : State = get_or c.kernels (length c.states) [] in
      EnoughFrom (nonterminal_count g * (terminal_count g + 1)) (λ fuel. closure_sets_by g fuel follow kernel) (closure_sets g follow kernel)
  unfolding closure_sets
  closures_enough follow narrow s b c met fuel h =
      let kernel : State = get_or c.kernels (length c.states) [] in
      let m : ℕ = nonterminal_count g in
      until_enough (closure_settled g follow) (close_left_sides g follow) (m * (terminal_count g + 1)) fuel (close_kernel g follow kernel (replicate m 0)) h
      (closure_settled_lem g follow narrow kernel (next_narrow l g follow narrow s b c met))

  -- ---- lane mode
  visits_enough : (states : List State) → Few l g states → EnoughFrom (l.states + 1) (λ fuel. visits_by l g fuel states) (resolve_all l g (done states))
  unfolding resolve_all
  visits_enough states few =
      enough_next l.states (λ fuel. visits_by l g fuel states) (resolve_all l g (done states)) refl
      (λ larger h. resolve_fuel l g (first_sets g) l.states larger 0 states h few (omega arith))

  beachhead_within : (table : LaneTable) (t : ℕ) → Among t (beachheads table) → t < length table
  unfolding beachheads
  beachhead_within table t among = (up_to_among_lem t (length table)).0 (keep_among _ (up_to (length table)) among).0

  walks_enough : (states : List State) (s : ℕ) (actions : List Action) (table : LaneTable) → length table ≤ l.states → Few l g states
      → EnoughFrom (l.states + 1) (λ fuel. merge_rows_by l g fuel states s actions table) (merge_rows l g states s actions table)
  unfolding merge_rows merge_begun
  walks_enough states s actions table rows few =
      enough_next l.states (λ fuel. merge_rows_by l g fuel states s actions table) (merge_rows l g states s actions table) refl
      (λ larger h. ap (λ (o : Outcome Merge). pick (rows_disjoint table) (merged table actions s o) (refused (Conflicts (conflict_count g states))))
      (same_in_turn (Fits l) (walk l g table (suc larger)) (walk l g table (suc l.states)) (beachheads table)
      (λ t among m fits. walk_fuel l g table rows l.states larger t m h (omega (arith, beachhead_within table t among)) fits (omega arith))
      (λ t among m fits. holds_also (WalkedAtLeast l 0) (Fits l) (λ m' p. p.0) (walk l g table (suc l.states) t m) (walk_keeps_walked l g table rows 0 (suc l.states) t m (fits, omega arith)))
      (merge_begun states) few))

trace_enough : (g : Grammar) (states : List State) → AllRecorded g states → (s c i : ℕ) → s < length states → i < length g → (table : LaneTable)
    → EnoughFrom (length states * length g + 1) (trace_by g states s c i table) (trace_action g (first_sets g) states s c (reduce i) table)
unfolding trace_action
trace_enough g states recorded s c i within item table =
    enough_next pairs (trace_by g states s c i table) (trace_action g (first_sets g) states s c (reduce i) table) refl (λ larger h. ap (λ (t : Trace). t.table) (by_dot larger h (at_start g i)))
  where
    pairs : ℕ
    pairs = length states * length g

    begins : Trace
    begins = trace_begun g (first_sets g) states s c i table

    traced : ℕ → Bool → Trace
    traced fuel b = elim b [ true ↦ un_close g (first_sets g) states fuel c s i begins | false ↦ un_shift g (first_sets g) states fuel c s i begins ]

    by_dot : (larger : ℕ) → pairs ≤ larger → (b : Bool) → traced (suc larger) b ≡ traced (suc pairs) b
    by_dot larger h true = un_close_fuel_lem g (first_sets g) states c recorded larger s i begins h within item (length-replicate (length states) 0)
    by_dot larger h false = un_shift_fuel_lem g (first_sets g) states c recorded larger s i begins h within item (length-replicate (length states) 0)

-- ---- the run
module _ {S : Type 0} (table : Table S) (g : Grammar) (tokens : List ℕ) (limit : ℕ) (stack : List S) (list : List ℕ) where
  run_enough : EnoughFrom (limit + 1) (run_by table g tokens limit stack list) (run table g tokens limit stack list)
  unfolding run
  run_enough =
      enough_next limit (run_by table g tokens limit stack list) (run table g tokens limit stack list) refl
      (λ larger h. ap (λ r. pick (eqb (length stack) 0) (answered StackFull unopened) r) (run_fuel table g tokens limit limit larger opened h (omega arith)))
    where
      opened : Standing S
      opened = record { stack = set stack 0 table.bottom; depth = 1; list = list; listed = 0; steps = 0; place = 0 }

      unopened : Standing S
      unopened = record { stack = stack; depth = 0; list = list; listed = 0; steps = 0; place = 0 }

-- ---- the page
pub enough : (l : Limits) → 0 < l.states → (bytes : List ℕ) → grammar_answer l bytes ≡ Ok tt → Enough l (records bytes)
unfolding eof
enough l room bytes coded =
    let g : Grammar = records bytes in
    let n : ℕ = terminal_count g in
    let fine : Checked l g = coded_is_checked l bytes coded in
    let some : 0 < length g = coded_has_a_record l bytes coded in
    record {
      collected = productive_enough l g fine;
      firsts = first_enough l g fine;
      leasts = least_enough g;
      states = states_enough l g room;
      canonical_closures = closures_enough l g (first1 n (first_sets g)) (canonical_follows_narrow g) (eof n) (single_below (n + 1) n (omega arith));
      lr0_closures = closures_enough l g (λ xs s. s) (lr0_follows_narrow g) (all n) (all_below n);
      visits = λ states met. visits_enough l g states (met_few l g room met);
      traces = λ s states met within c i among table.
          let recorded : AllRecorded g states = met_recorded l g some met in
          trace_enough g states recorded s c i within (action_recorded g (get_or states s []) i (at_recorded g states s recorded) among) table;
      walks = λ s states met within actions.
          let few : Few l g states = met_few l g room met in
          walks_enough l g states s actions (lane_table g (first_sets g) states s actions) (omega (arith, lane_table_rows g (first_sets g) states s within actions)) few;
      runs = λ table tokens limit stack list. run_enough table g tokens limit stack list;
    }

-- by document 01's limits
pub enough_here : (bytes : List ℕ) → grammar_answer limits bytes ≡ Ok tt → Enough limits (records bytes)
unfolding limits
enough_here = enough limits (omega arith)
