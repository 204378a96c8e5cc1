-- A visit of lane mode gives production 0's completed entry no token but Eof, in the state visited and its clones; and every state is
-- visited.
use Prim.Native.Nat.{ℕ, suc, ◌+◌, ◌<◌, ◌≤◌}
use mathlib.Core.Path.{◌≡◌, refl, sym}
use mathlib.Core.Logic.{inl, inr, ⊎_elim}
use mathlib.Core.Bool.{true, true≢false}
use mathlib.Core.List.{List, [], ◌∷◌}
use native.Mathlib.Omega.{arith}
use native.Mathlib.Decide.{ℕ_discrete, dec_lt}
use lib.ListN.{length, get_or, set, get_or-eq_default}
use lib.Seq.{get_or-set_same}
use lib.Dec.{ltb}
use Rattle.base.specs.Among.{Among}
use Rattle.base.specs.Lists.{fold_over, is_empty}
use Rattle.base.proofs.Lists.{among_none, among_at, after_set, fold_keeps}
use Rattle.rules.specs.Limits.{Limits}
use Rattle.rules.specs.Records.{Grammar}
use Rattle.rules.specs.Grammar.{terminal_count}
use Rattle.rules.specs.First.{Sets, first_sets}
use Rattle.rules.specs.States.{State, Outcome, done, refused, each_in_turn}
use Rattle.rules.specs.Lanes.{Action, shift, reduce, actions_at, LaneTable, lane_table, all_columns, pairwise_disjoint, rows_disjoint, beachheads}
use Rattle.rules.specs.Merge.{Merge, head_of, group_columns, clones_of, walk, take_columns, take_all, merge_begun, merged, merge_rows, resolve_by, resolve, resolve_from, resolve_all}
use Rattle.knuth.specs.Coded.{Checked}
use Rattle.walks.proofs.Outcomes.{Holds, holds_pick, holds_also, holds_both}
use Rattle.traces.specs.Recorded.{Recorded, AllRecorded}
use Rattle.walks.proofs.Resolve.{visits_keep}
use Rattle.walks.proofs.Recorded.{resolve_recorded}
use Rattle.fuel.proofs.Visits.{Few, resolve_few}
use Rattle.demands.proofs.MergeLinked.{clone_of}
use Rattle.demands.proofs.Untouched.{Untouched}
use Rattle.demands.proofs.EofColumns.{RowsOnEof, all_on_eof, group_on_eof}
use Rattle.demands.proofs.StartTrace.{Zeroth, lane_table_on_eof}
use Rattle.demands.proofs.StartActions.{StateOnEof, UntouchedOrOnEof, StateActing, none_state_on_eof, acting, columns_taken}
use Rattle.demands.proofs.StartWalks.{VisitedBefore, Mine, Visiting, walks_visiting}

none_among : {A : Type 0} {x : A} (xs : List A) → is_empty xs ≡ true → Among x xs → ⊥
unfolding is_empty
none_among [] e m = among_none m
none_among (x ∷ xs) e m = true≢false (sym e)

module _ (g : Grammar) where
  abbrev n : ℕ
  n = terminal_count g

  -- state s is given entries that are on Eof
  given_on_eof : (states : List State) (s : ℕ) (state : State) → s < length states → StateOnEof g state → VisitedBefore g s states
      → VisitedBefore g (suc s) (set states s state)
  given_on_eof states s state b on-eof h t =
      let kept = after_set (λ t y. UntouchedOrOnEof g y × (t < s → StateOnEof g y)) states s state [] (inr on-eof, λ _. on-eof) h t in
      (kept.0, λ below. by_place (ℕ_discrete t s) below kept.1)
    where
      by_place : Dec (t ≡ s) → t < suc s → (t < s → StateOnEof g (get_or (set states s state) t [])) → StateOnEof g (get_or (set states s state) t [])
      by_place (yes e) below old = rw (e, get_or-set_same states s state [] b) on-eof
      by_place (no ne) below old = old (omega arith)

  -- ---- a visit
  module _ (l : Limits) (checked : Checked l g) (a_record : 0 < length g) (sets : Sets) (s : ℕ) (states : List State)
      (within : s < length states) (recorded : Recorded g (get_or states s [])) (before : VisitedBefore g s states) where
    actions : List Action
    actions = actions_at g (get_or states s [])

    table : LaneTable
    table = lane_table g sets states s actions

    acts : StateActing g actions (get_or states s [])
    unfolding actions
    acts = acting g (get_or states s []) recorded (before s).0

    rows_on_eof : (i c : ℕ) → Zeroth g i → get_or actions c (shift 0) ≡ reduce i → RowsOnEof n c table
    unfolding table
    rows_on_eof i c z q = lane_table_on_eof l g checked a_record sets states c s within i z actions q

    -- ---- after the walks the state and its clones take their groups' columns
    module _ (m : Merge) (visiting : Visiting g s actions m) where
      abbrev AfterTaking : ℕ → State → Type 0
      AfterTaking t state = UntouchedOrOnEof g state × (t < suc s → StateOnEof g state) × (Mine g s actions m t → StateActing g actions state)

      abbrev AllAfter : List State → Type 0
      AllAfter these = (t : ℕ) → AfterTaking t (get_or these t [])

      taking : ℕ → State → State
      taking t state = take_columns actions (group_columns table m (head_of m t)) state

      taken : (t : ℕ) (state : State) → StateActing g actions state → StateOnEof g (taking t state) × StateActing g actions (taking t state)
      unfolding taking
      taken t state k =
          columns_taken g actions (group_columns table m (head_of m t)) (λ i c z q. group_on_eof n c table m (head_of m t) (rows_on_eof i c z q)) state k

      -- the state itself
      first_taken : AllAfter (set m.states s (taking s (get_or m.states s [])))
      first_taken t =
          let state : State = get_or m.states s [] in
          let (on-eof, acts') = taken s state ((visiting.holds s).mines (inl refl)) in
          let (a, b) = given_on_eof m.states s (taking s state) visiting.above on-eof (λ t. ((visiting.holds t).sets, (visiting.holds t).below)) t in
          let Acts : ℕ → State → Type 0 = λ t y. Mine g s actions m t → StateActing g actions y in
          (a, b, after_set Acts m.states s (taking s state) [] (λ _. acts') (λ t. (visiting.holds t).mines) t)

      -- a clone
      next_taken : (t : ℕ) → Mine g s actions m t → (these : List State) → AllAfter these → AllAfter (set these t (taking t (get_or these t [])))
      next_taken t mine these h =
          let (on-eof, acts') = taken t (get_or these t []) ((h t).2 mine) in
          after_set AfterTaking these t (taking t (get_or these t [])) [] (inr on-eof, (λ _. on-eof), (λ _. acts')) h

      all_taken : VisitedBefore g (suc s) (take_all table actions s m)
      unfolding take_all fold_over taking
      all_taken t =
          let after : AllAfter (take_all table actions s m) =
          fold_keeps (λ t these. set these t (take_columns actions (group_columns table m (head_of m t)) (get_or these t []))) AllAfter (clones_of m s)
          (λ t among these k. next_taken t (inr (clone_of m s t among).1) these k) (set m.states s (taking s (get_or m.states s []))) first_taken in
          ((after t).0, (after t).1)

    visit_on_eof : Holds (VisitedBefore g (suc s)) (resolve l g sets s states)
    unfolding resolve resolve_by merge_rows merged actions table
    visit_on_eof =
        let P : List State → Type 0 = VisitedBefore g (suc s) in
        holds_pick P (is_empty actions) _ _ nothing_taken
        (λ _. holds_pick P (ltb l.actions (length actions)) _ _ (λ _. tt)
        (λ _. holds_pick P (pairwise_disjoint (all_columns table)) _ _ (λ _. all_at_once)
        (λ _. holds_pick P (rows_disjoint table) _ _
        (λ _. by_merge (each_in_turn (walk l g table (l.states + 1)) (beachheads table) (merge_begun states))
        (walks_visiting g s actions states within before acts l table))
        (λ _. tt))))
      where
        by_merge : (o : Outcome Merge) → Holds (Visiting g s actions) o → Holds (VisitedBefore g (suc s)) (merged table actions s o)
        by_merge (done m) k = all_taken m k
        by_merge (refused why) k = tt

        -- the columns of all states are disjoint
        all_at_once : VisitedBefore g (suc s) (set states s (take_columns actions (all_columns table) (get_or states s [])))
        all_at_once =
            given_on_eof states s (take_columns actions (all_columns table) (get_or states s [])) within
            (columns_taken g actions (all_columns table) (λ i c z q. all_on_eof n c table (rows_on_eof i c z q)) (get_or states s []) acts).0 before

        -- no action: nothing is reduced
        nothing_taken : is_empty actions ≡ true → VisitedBefore g (suc s) states
        nothing_taken e t = ((before t).0, λ below. by_place (ℕ_discrete t s) below)
          where
            by_place : Dec (t ≡ s) → t < suc s → StateOnEof g (get_or states t [])
            by_place (yes q) below = rw q (λ f m p z. ⊎_elim (λ on. on) (λ among. absurd (none_among actions e among)) (acts f m p z).0)
            by_place (no ne) below = (before t).1 (omega arith)

  -- ---- all visits: every state is visited
  module _ (l : Limits) (checked : Checked l g) (a_record : 0 < length g) where
    abbrev pub AllOnEof : List State → Type 0
    AllOnEof states = (t : ℕ) → StateOnEof g (get_or states t [])

    all_before : (s : ℕ) (states : List State) → length states ≤ s → VisitedBefore g s states → AllOnEof states
    all_before s states b h t = by_place (dec_lt t s)
      where
        by_place : Dec (t < s) → StateOnEof g (get_or states t [])
        by_place (yes below) = (h t).1 below
        by_place (no not) = let z : length states ≤ t = omega arith in rw (get_or-eq_default states [] z) (none_state_on_eof g)

    -- what a visit needs, and leaves for the next
    record Ready (s : ℕ) (states : List State) : Type 0 where
      few : Few l g states
      recorded : AllRecorded g states
      before : VisitedBefore g s states

    visit_keeps : (s : ℕ) (states : List State) → s < length states → Ready s states → Holds (Ready (suc s)) (resolve l g (first_sets g) s states)
    visit_keeps s states b h =
        let o : Outcome (List State) = resolve l g (first_sets g) s states in
        let its : Recorded g (get_or states s []) = h.recorded (get_or states s []) (among_at states s [] b) in
        let on-eof = visit_on_eof l checked a_record (first_sets g) s states b its h.before in
        holds_also (λ these. Few l g these × (AllRecorded g these × VisitedBefore g (suc s) these)) (Ready (suc s))
        (λ these (p, (q, r)). record { few = p; recorded = q; before = r }) o
        (holds_both (Few l g) (λ these. AllRecorded g these × VisitedBefore g (suc s) these) o (resolve_few l g (first_sets g) s states b h.few)
        (holds_both (AllRecorded g) (VisitedBefore g (suc s)) o (resolve_recorded g l (first_sets g) s states h.recorded) on-eof))

    -- with a turn for each state that the limit allows, and one more
    abbrev InTime : ℕ → ℕ → List State → Type 0
    InTime fuel s states = (l.states < s + fuel) × Ready s states

    visit_in_time : (fuel s : ℕ) (states : List State) → s < length states → InTime (suc fuel) s states → Holds (InTime fuel (suc s)) (resolve l g (first_sets g) s states)
    visit_in_time fuel s states below (enough, ready) =
        holds_also (Ready (suc s)) (InTime fuel (suc s)) (λ states' h. (omega arith, h)) (resolve l g (first_sets g) s states) (visit_keeps s states below ready)

    all_visited : (fuel s : ℕ) (states : List State) → InTime fuel s states → Holds AllOnEof (resolve_from l g (first_sets g) fuel s states)
    all_visited =
        visits_keep l g (first_sets g) InTime AllOnEof visit_in_time
        (λ fuel s states end (enough, ready). all_before s states end ready.before)
        (λ s states (enough, ready). all_before s states (omega (arith, ready.few)) ready.before)

    -- from states whose sets are all `all`
    pub resolved_on_eof : (o : Outcome (List State)) → Holds (Few l g) o → Holds (AllRecorded g) o
        → Holds (λ states. (t : ℕ) → Untouched g (get_or states t [])) o → Holds AllOnEof (resolve_all l g o)
    unfolding resolve_all
    resolved_on_eof (done states) few recorded untouched =
        all_visited (l.states + 1) 0 states
        (omega arith, record { few = few; recorded = recorded; before = λ t. (inl (untouched t), λ b. absurd (omega arith)) })
    resolved_on_eof (refused why) few recorded untouched = tt
