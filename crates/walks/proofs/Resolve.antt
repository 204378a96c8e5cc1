-- What taking columns and walking keep, a visit of lane mode keeps; and what visits keep, lane mode keeps.
use Prim.Native.Nat.{ℕ, zero, suc, ◌+◌, ◌<◌, ◌≤◌}
use mathlib.Core.Path.{◌≡◌}
use mathlib.Core.List.{List, [], ◌∷◌}
use lib.ListN.{length, get_or, set}
use lib.Dec.{ltb}
use borrow.Author.Tests.{ltb-true, ltb-false}
use Rattle.base.specs.Lists.{is_empty}
use Rattle.base.specs.Turn.{Turn, after, OnTurn}
use Rattle.base.proofs.Fuel.{fuel_keeps}
use Rattle.base.proofs.Lists.{fold_keeps}
use Rattle.rules.specs.Limits.{Limits}
use Rattle.rules.specs.Records.{Grammar}
use Rattle.rules.specs.Tokens.{TokenSet}
use Rattle.rules.specs.First.{Sets, first_sets}
use Rattle.rules.specs.States.{State, Outcome, done, refused, each_in_turn, lr0_states}
use Rattle.rules.specs.Lanes.{Action, actions_at, LaneTable, lane_table, all_columns, pairwise_disjoint, rows_disjoint, beachheads}
use Rattle.rules.specs.Merge.{Merge, clones_of, head_of, group_columns, walk, take_columns, take_all, merge_begun, merged, merge_rows, resolve_by, resolve, resolve_from, resolve_all, lanes}
use Rattle.walks.proofs.Outcomes.{Holds, holds_pick, holds_in_turn, turned, turned_goes, holds_turned}

-- P is kept of the states, and Q of the merge that a visit walks in
module _ (l : Limits) (g : Grammar) (P : List State → Type 0) (Q : Merge → Type 0)
    (taking : (states : List State) (t : ℕ) (actions : List Action) (columns : List TokenSet) → P states → P (set states t (take_columns actions columns (get_or states t []))))
    (ending : (m : Merge) → Q m → P m.states) where
  -- a walk over the table keeps Q
  abbrev pub Walking : LaneTable → Type 0
  Walking table = (s : ℕ) (m : Merge) → Q m → Holds Q (walk l g table (l.states + 1) s m)

  take_all_keeps : (table : LaneTable) (actions : List Action) (s : ℕ) (m : Merge) → P m.states → P (take_all table actions s m)
  unfolding take_all
  take_all_keeps table actions s m h =
      fold_keeps (λ t states. set states t (take_columns actions (group_columns table m (head_of m t)) (get_or states t []))) P (s ∷ clones_of m s)
      (λ t among states k. taking states t actions (group_columns table m (head_of m t)) k) m.states h

  merged_keeps : (table : LaneTable) (actions : List Action) (s : ℕ) (o : Outcome Merge) → Holds Q o → Holds P (merged table actions s o)
  unfolding merged
  merged_keeps table actions s (done m) h = take_all_keeps table actions s m (ending m h)
  merged_keeps table actions s (refused why) h = tt

  -- a visit begins its merge at the states
  module _ (states : List State) (beginning : P states → Q (merge_begun states)) where
    merge_rows_keeps : (table : LaneTable) → Walking table → (s : ℕ) (actions : List Action) → P states → Holds P (merge_rows l g states s actions table)
    unfolding merge_rows
    merge_rows_keeps table walking s actions h =
        holds_pick P (rows_disjoint table) _ _
        (λ _. merged_keeps table actions s (each_in_turn (walk l g table (l.states + 1)) (beachheads table) (merge_begun states))
        (holds_in_turn Q (walk l g table (l.states + 1)) (beachheads table) (λ s among m k. walking s m k) (merge_begun states) (beginning h)))
        (λ _. tt)

    resolve_by_keeps : (table : LaneTable) → Walking table → (s : ℕ) (actions : List Action) → P states → Holds P (resolve_by l g states s actions table)
    unfolding resolve_by
    resolve_by_keeps table walking s actions h =
        holds_pick P (pairwise_disjoint (all_columns table)) _ _ (λ _. taking states s actions (all_columns table) h)
        (λ _. merge_rows_keeps table walking s actions h)

    pub resolve_keeps : (sets : Sets) (s : ℕ) → ((actions : List Action) → Walking (lane_table g sets states s actions)) → P states
        → Holds P (resolve l g sets s states)
    unfolding resolve
    resolve_keeps sets s walking h =
        let actions : List Action = actions_at g (get_or states s []) in
        holds_pick P (is_empty actions) _ _ (λ _. h)
        (λ _. holds_pick P (ltb l.actions (length actions)) _ _ (λ _. tt)
        (λ _. resolve_by_keeps (lane_table g sets states s actions) (walking actions) s actions h))

-- ---- the visits, turn by turn
module _ (l : Limits) (g : Grammar) (sets : Sets) where
  -- a turn visits state s
  abbrev pub visit_turn : ℕ × List State → Turn (ℕ × List State) (Outcome (List State))
  visit_turn (s, states) = turned (ltb s (length states)) (resolve l g sets s states) (λ states'. (suc s, states')) states

  abbrev pub visits : ℕ → ℕ × List State → Outcome (List State)
  visits fuel (s, states) = resolve_from l g sets fuel s states

  pub visit_goes : (fuel : ℕ) (at : ℕ × List State) → visits (suc fuel) at ≡ after (visits fuel) (visit_turn at)
  unfolding resolve_from
  visit_goes fuel (s, states) = turned_goes (visits fuel) (ltb s (length states)) (resolve l g sets s states) (λ states'. (suc s, states')) states

  -- an invariant that may speak of the fuel left and of the state that is visited next
  module _ (Inv : ℕ → ℕ → List State → Type 0) (P : List State → Type 0)
      (visiting : (fuel s : ℕ) (states : List State) → s < length states → Inv (suc fuel) s states → Holds (Inv fuel (suc s)) (resolve l g sets s states))
      (ending : (fuel s : ℕ) (states : List State) → length states ≤ s → Inv fuel s states → P states) where
    pub visit_turns : (fuel : ℕ) (at : ℕ × List State) → Inv (suc fuel) at.0 at.1 → OnTurn (λ at. Inv fuel at.0 at.1) (Holds P) (visit_turn at)
    visit_turns fuel (s, states) i =
        holds_turned (λ at. Inv fuel at.0 at.1) P (ltb s (length states)) (resolve l g sets s states) (λ states'. (suc s, states')) states
        (λ e. visiting fuel s states (ltb-true s (length states) e) i) (λ e. ending (suc fuel) s states (ltb-false s (length states) e) i)

    pub visits_keep : ((s : ℕ) (states : List State) → Inv zero s states → P states) → (fuel s : ℕ) (states : List State) → Inv fuel s states → Holds P (resolve_from l g sets fuel s states)
    unfolding resolve_from
    visits_keep stopping fuel s states =
        fuel_keeps visits visit_turn visit_goes (λ fuel at. Inv fuel at.0 at.1) (Holds P) visit_turns (λ at. stopping at.0 at.1) fuel (s, states)

-- so lane mode keeps what the LR(0) states have
module _ (l : Limits) (g : Grammar) (P : List State → Type 0)
    (visiting : (s : ℕ) (states : List State) → s < length states → P states → Holds P (resolve l g (first_sets g) s states)) where
  pub lanes_keep : Holds P (lr0_states l g) → Holds P (lanes l g)
  unfolding lanes resolve_all
  lanes_keep = by_outcome (lr0_states l g)
    where
      by_outcome : (o : Outcome (List State)) → Holds P o → Holds P (resolve_all l g o)
      by_outcome (done states) h = visits_keep l g (first_sets g) (λ _ _. P) P (λ _. visiting) (λ fuel s states end h. h) (λ s states h. h) (l.states + 1) 0 states h
      by_outcome (refused why) h = tt
